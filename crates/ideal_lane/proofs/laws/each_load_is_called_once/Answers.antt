use Rattle.ideal_lane.proofs.Calling.{called-once}
use Rattle.ideal_lane.proofs.laws.each_load_is_called_once.Goals as goal

pub returns : goal.returns
returns c = called-once
