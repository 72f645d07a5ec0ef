use Rattle.ideal_world.proofs.Legal.{replay-legal}
use Rattle.ideal_world.proofs.laws.replay_is_legal.Goals as goal

pub returns : goal.returns
returns c = replay-legal
