use Rattle.ideal_lane.proofs.Ahead.{opening-ahead, turn-bounded}
use Rattle.ideal_lane.proofs.laws.items_stay_few.Goals as goal

pub returns-clause-opens : goal.returns-clause-opens
returns-clause-opens c = opening-ahead

pub returns-clause-stays : goal.returns-clause-stays
returns-clause-stays c = turn-bounded
