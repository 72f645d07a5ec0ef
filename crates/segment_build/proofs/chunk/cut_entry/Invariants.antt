use Rattle.std.proofs.Common.{◌≡◌, ◌+◌, ◌++◌, drop}
use Rattle.std.specs.List.{AllByRecursion}
use Rattle.busdma_machine.specs.Machine.Entry.{entry_parts, extent_parts}
use Rattle.busdma_machine.specs.Runs.{IsExtent, byte_count}
use Rattle.segment_build.specs.Cutting.{cut_after as after, closed}
use Rattle.segment_build.proofs.chunk.cut_entry.Given as goal

abbrev pub invariant-loop-extent : goal.invariant-loop-extent
invariant-loop-extent l =
    let es = drop l.extent-index l.entry.parts in
    let rest = extent_parts l.opens l.entry.rounded es in
    record {
      after : after l.tag l.maxmem l.cutter rest ≡ after l.tag l.maxmem l.initial.cutter (entry_parts l.entry);
      closed : l.chunks.items ++ closed l.tag l.maxmem l.cutter rest ≡ l.initial.chunks.items
          ++ closed l.tag l.maxmem l.initial.cutter (entry_parts l.entry);
      at : l.cutter.at + byte_count es ≡ l.initial.cutter.at + byte_count l.entry.parts;
      extents : AllByRecursion IsExtent es;
    }
