use Rattle.ideal_lane.proofs.StandingLaws.{turn-stands}
use Rattle.ideal_lane.proofs.laws.step_keeps_standing.Goals as goal

pub returns : goal.returns
returns c = turn-stands
