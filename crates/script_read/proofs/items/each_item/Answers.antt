use Rattle.std.proofs.Common.{arith, ap, ◌∙◌}
use Rattle.std.proofs.lemmas.Grind.{common_steps}
use Rattle.busdma_base.specs.Scenarios.Operations.{read_by_item}
use Rattle.script_fields.specs.Counts.{having_read}
use Rattle.scenario_format.specs.Parts.Counts.{one_step_counted}
use Rattle.script_read.proofs.Counting.{with_items_more}
use Rattle.script_read.proofs.items.each_item.Goals as goal

pub loop-value-preserved : goal.loop-value-preserved
loop-value-preserved c = record {
  rest = grind (arith, common_steps);
  valid = grind (arith, common_steps);
  of_load = grind (arith, common_steps);
  counted = rw c.in_ok-push.ensures.items
      (c.in_ok-item.ensures.counted ∙ ap (λ k. having_read (one_step_counted k) (read_by_item c.in_ok-item.item))
      c.loop-value.invariant.counted ∙ with_items_more _ _ _);
  within = grind (arith, common_steps);
}
