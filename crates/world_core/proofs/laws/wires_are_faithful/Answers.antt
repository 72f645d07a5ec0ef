use Rattle.world_core.proofs.Faithful.{each-faithful}
use Rattle.world_core.proofs.laws.wires_are_faithful.Goals as goal

pub returns : goal.returns
returns c = each-faithful c.args.world.now.lanes.items
