use Rattle.storm.proofs.Rounds.{round_appended, drawn_more}
use Rattle.std.proofs.Common.{◌∙◌}
use Rattle.storm.proofs.scenario.push_rounds.Goals as goal

pub loop-number-preserved : goal.loop-number-preserved
loop-number-preserved c = record {
  script =
      round_appended _ _ _ _ _ _ _ c.loop-number-test.true c.loop-number.invariant.drawn
      c.loop-number.invariant.script c.in_ok-push_next.ensures.script;
  drawn =
      c.in_ok-push_next.ensures.drawn
      ∙ drawn_more c.args.generator.now.last _ c.loop-number._number c.loop-number.invariant.drawn;
}
