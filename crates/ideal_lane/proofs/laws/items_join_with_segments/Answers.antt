use Rattle.ideal_lane.proofs.Reported.{turn-joins}
use Rattle.ideal_lane.proofs.laws.items_join_with_segments.Goals as goal

pub returns : goal.returns
returns c = λ l s r. turn-joins l s r
