use Rattle.storm.proofs.Validity.{each_has_steps}
use Rattle.storm.proofs.laws.storms_have_seven_steps_a_round.Goals as goal

pub returns : goal.returns
returns c = each_has_steps
