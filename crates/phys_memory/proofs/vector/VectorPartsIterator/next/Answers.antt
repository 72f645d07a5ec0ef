use Rattle.std.proofs.Common.{◌∙◌, arith}
use Rattle.phys_memory.specs.Memory.{memory_physical}
use Rattle.phys_memory.proofs.VectorLaws.{first_bytes, next_span}
use Rattle.phys_memory.proofs.vector.VectorPartsIterator.next.Goals as goal

pub loop-part-preserved : goal.loop-part-preserved
loop-part-preserved c =
    let s = c.loop-part.self-inside in
    let span = c.in_ok-span.span.now in
    let others = c.in_ok-span.others.now in
    let are = c.in_ok-span.ensures.cases.0 in
    let none = c.in_default.ensures.steps.0 in
    record {
      total = omega (arith, first_bytes s.offset s.spans.now span others are, c.loop-part.invariant.total);
      same = next_span (memory_physical s.memory.now.memory) s.current c.parts_at-self-inside.result s.offset
          s.spans.now span
          others none are c.parts_at-self-inside.ensures.parts ∙ c.loop-part.invariant.same;
    }
