use Rattle.std.proofs.Common.{◌≡◌, ◌+◌, true, drop}
use Rattle.busdma_machine.specs.Machine.Spans.{span_bytes}
use Rattle.phys_memory.specs.Memory.{memory_physical}
use Rattle.phys_memory.specs.VectorStreams.{vector_walk}
use Rattle.phys_memory.proofs.VectorLaws.{walk_from}
use Rattle.phys_memory.proofs.pages.LanePages.walk_vector.Given as goal

abbrev pub invariant-loop-span : goal.invariant-loop-span
invariant-loop-span l = record {
  total : l.offset + span_bytes (drop l.span-index l.fn.spans) ≡ span_bytes l.fn.spans;
  walk : walk_from true (memory_physical l.fn.self.memory) l.entries.items l.offset (drop l.span-index l.fn.spans)
      ≡ vector_walk (memory_physical l.fn.self.memory) l.fn.spans;
}
