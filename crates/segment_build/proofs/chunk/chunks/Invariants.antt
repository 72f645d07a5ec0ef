use Rattle.std.proofs.Common.{◌≡◌, ◌+◌, ◌++◌, drop}
use Rattle.std.specs.List.{AllByRecursion}
use Rattle.busdma_machine.specs.Machine.Entry.{IsEntry, entries_bytes, parts_of}
use Rattle.segment_build.specs.Cutting.{cut_after as after, closed, uncut}
use Rattle.segment_build.proofs.chunk.chunks.Given as goal

abbrev pub invariant-loop-entry : goal.invariant-loop-entry
invariant-loop-entry l =
    let rest = drop l.entry-index l.entries in
    record {
      after : after l.tag l.maxmem l.cutter (parts_of rest) ≡ after l.tag l.maxmem uncut (parts_of l.entries);
      closed : l.chunks.items ++ closed l.tag l.maxmem l.cutter (parts_of rest)
          ≡ closed l.tag l.maxmem uncut (parts_of l.entries);
      at : l.cutter.at + entries_bytes rest ≡ entries_bytes l.entries;
      entries : AllByRecursion IsEntry rest;
    }
