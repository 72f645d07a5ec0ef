use Rattle.std.proofs.Common.{◌≡◌, ◌++◌}
use Rattle.busdma_machine.specs.Bounce.MemoryRuns.{frames_from}
use Rattle.memory_pages.specs.Bytes.{memory_pages_of}
use Rattle.memory_pages.specs.Placed.{Goes}
use Rattle.memory_pages.proofs.pages.take.Given as goal

abbrev pub invariant-loop-i : goal.invariant-loop-i
invariant-loop-i l = record {
  pages : l.pages ≡ record l.initial.pages {
    items = l.initial.pages.items
        ++ memory_pages_of l.initial.memory.memory (frames_from l.i l.first.0);
  };
  goes : Goes l.initial.memory.memory l.memory.memory l.first.0 l.i;
}
