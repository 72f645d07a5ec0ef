use Rattle.ideal_world.proofs.Rounds.{one_replayed}
use Rattle.ideal_world.proofs.laws.one_replayed.Goals as goal

pub returns : goal.returns
returns c = one_replayed
