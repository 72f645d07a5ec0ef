use Rattle.ideal_lane.proofs.Falling.{turn-falls}
use Rattle.ideal_lane.proofs.laws.each_step_falls.Goals as goal

pub returns : goal.returns
returns c = turn-falls
