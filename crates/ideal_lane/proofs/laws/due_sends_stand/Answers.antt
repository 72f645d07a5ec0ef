use Rattle.ideal_lane.proofs.DueLaws.{opens-due, turn-due}
use Rattle.ideal_lane.proofs.laws.due_sends_stand.Goals as goal

pub returns-clause-opens : goal.returns-clause-opens
returns-clause-opens c = opens-due

pub returns-clause-stays : goal.returns-clause-stays
returns-clause-stays c = turn-due
