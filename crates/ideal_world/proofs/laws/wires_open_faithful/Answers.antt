use Rattle.ideal_world.proofs.WireLaws.{opens-all-faithful}
use Rattle.ideal_world.proofs.laws.wires_open_faithful.Goals as goal

pub returns : goal.returns
returns c = λ s wires valid zero. opens-all-faithful s valid wires zero
