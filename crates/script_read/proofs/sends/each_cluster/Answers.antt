use Rattle.std.proofs.Common.{arith}
use Rattle.std.proofs.lemmas.Grind.{common_steps}
use Rattle.script_read.specs.Sends.{IsClusterOf}
use Rattle.script_read.proofs.Hints.{up_to_more}
use Rattle.script_read.proofs.Each.{EachAfter-append}
use Rattle.script_read.proofs.sends.each_cluster.Goals as goal

pub loop-value-preserved : goal.loop-value-preserved
loop-value-preserved c = record {
  rest = grind (arith, common_steps);
  valid = rw c.in_ok-push.ensures.items
      (EachAfter-append (IsClusterOf c.args.chain.now) _ _ c.in_ok-cluster.cluster
      c.loop-value.invariant.valid (rw (← c.deref.ensures.value) c.in_ok-cluster.ensures.valid));
  count = grind (arith, common_steps);
  highest = rw c.in_ok-push.ensures.items
      (up_to_more c.loop-value.highest c.max-highest.result _ c.in_ok-cluster.cluster
      (omega (arith, c.max-highest.ensures))
      (omega (arith, c.max-highest.ensures)) c.loop-value.invariant.highest);
}
