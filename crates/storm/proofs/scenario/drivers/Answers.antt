use Rattle.std.proofs.Common.{◌∙◌}
use Rattle.storm.proofs.Rounds.{driver_appended, drawn_by_driver}
use Rattle.storm.proofs.scenario.drivers.Goals as goal

pub loop-number-preserved : goal.loop-number-preserved
loop-number-preserved c = record {
  drivers =
      driver_appended _ _ _ _ _ _ _ _ c.loop-number-test.true c.loop-number.invariant.drawn
      c.loop-number.invariant.drivers c.in_ok-driver.ensures.driver c.in_ok-push.ensures.items;
  drawn = c.in_ok-driver.ensures.drawn ∙ drawn_by_driver _ _ _ _ c.loop-number.invariant.drawn;
}
