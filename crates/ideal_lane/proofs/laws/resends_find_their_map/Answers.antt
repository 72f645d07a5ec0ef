use Rattle.ideal_lane.proofs.DueLaws.{resends-fit}
use Rattle.ideal_lane.proofs.laws.resends_find_their_map.Goals as goal

pub returns : goal.returns
returns c = resends-fit
