use Rattle.ideal_world.proofs.Replayed.{each-replayed}
use Rattle.ideal_world.proofs.laws.each_scenario_is_replayed.Goals as goal

pub returns : goal.returns
returns c = each-replayed
