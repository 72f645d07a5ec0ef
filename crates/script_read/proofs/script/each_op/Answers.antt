use Rattle.std.proofs.Common.{arith, ap, ◌∙◌}
use Rattle.std.proofs.lemmas.Grind.{common_steps}
use Rattle.busdma_base.specs.Scenarios.Script.{IsOp}
use Rattle.script_fields.specs.Counts.{with_op}
use Rattle.scenario_format.specs.Parts.Counts.{one_step_counted}
use Rattle.script_read.proofs.Counting.{with_ops_more}
use Rattle.script_read.proofs.Each.{EachAfter-append}
use Rattle.script_read.proofs.script.each_op.Goals as goal

pub loop-value-preserved : goal.loop-value-preserved
loop-value-preserved c = record {
  rest = grind (arith, common_steps);
  valid = rw c.in_ok-before.ensures
      (EachAfter-append IsOp _ _ c.in_ok-op.op c.loop-value.invariant.valid c.in_ok-op.ensures.valid);
  own = grind (arith, common_steps);
  counted = rw c.in_ok-before.ensures
      (c.in_ok-op.ensures.counted ∙ ap (λ k. with_op (one_step_counted k) c.in_ok-op.op) c.loop-value.invariant.counted
      ∙ with_ops_more _ _ _);
  within = grind (arith, common_steps);
}
