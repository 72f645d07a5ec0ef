use Rattle.ideal_world.proofs.Finding.{journals-find}
use Rattle.ideal_world.proofs.laws.resends_find_their_map.Goals as goal

pub returns : goal.returns
returns c = journals-find
