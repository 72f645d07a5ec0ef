use Rattle.std.proofs.Common.{◌≡◌, ◌+◌, ◌^◌, ◌<◌, true, length}
use Rattle.busdma_machine.specs.Machine.Spans.{span_bytes}
use Rattle.phys_memory.specs.Memory.{memory_physical}
use Rattle.phys_memory.specs.VectorStreams.{spans_at, then_parts}
use Rattle.phys_memory.proofs.vector.VectorPartsIterator.next.Given as goal

abbrev pub invariant-loop-part : goal.invariant-loop-part
invariant-loop-part l =
    let s = l.self-inside in
    let old = l.initial.self-inside in
    record {
      total : s.offset + span_bytes s.spans.now < 2 ^ 64;
      same : then_parts s.current (spans_at true (memory_physical s.memory.now.memory) s.offset s.spans.now)
          ≡ then_parts old.current (spans_at true (memory_physical old.memory.now.memory) old.offset old.spans.now);
    }

abbrev pub decreases-loop-part : goal.decreases-loop-part
decreases-loop-part l = length l.self-inside.spans.now
