use Rattle.ideal_lane.proofs.Reported.{turn-report}
use Rattle.ideal_lane.proofs.laws.reports_change_nothing.Goals as goal

pub returns-clause-call : goal.returns-clause-call
returns-clause-call c = λ l s r reported. (turn-report l s r reported).call

pub returns-clause-lane : goal.returns-clause-lane
returns-clause-lane c = λ l s r reported. (turn-report l s r reported).lane
