use Rattle.ideal_world.proofs.Opens.{opens-well}
use Rattle.ideal_world.proofs.laws.opening_is_well_formed.Goals as goal

pub returns : goal.returns
returns c = opens-well
