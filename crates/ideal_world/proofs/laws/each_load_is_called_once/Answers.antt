use Rattle.ideal_world.proofs.Calling.{called-at-most-once}
use Rattle.ideal_world.proofs.laws.each_load_is_called_once.Goals as goal

pub returns : goal.returns
returns c = called-at-most-once
