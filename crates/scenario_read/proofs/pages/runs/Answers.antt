use Rattle.std.proofs.Common.{arith}
use Rattle.std.proofs.lemmas.Grind.{common_steps}
use Rattle.busdma_base.specs.Scenarios.PageRuns.{IsPageRun}
use Rattle.script_read.proofs.Each.{EachAfter-append}
use Rattle.scenario_read.proofs.pages.runs.Goals as goal

pub loop-value-preserved : goal.loop-value-preserved
loop-value-preserved c = record {
  rest = grind (arith, common_steps);
  valid = rw c.in_ok-push.ensures.items
      (EachAfter-append (IsPageRun c.args.frames.now c.args.earlier.now) _ _ c.in_ok-run.run'
      c.loop-value.invariant.valid (rw (← c.deref.ensures.value) c.in_ok-run.ensures.valid));
}
