use Rattle.ideal_lane.proofs.TurnLaws.{turn-allowed, turn-kept}
use Rattle.ideal_lane.proofs.laws.step_keeps_agreement.Goals as goal

pub returns-clause-allowed : goal.returns-clause-allowed
returns-clause-allowed c = turn-allowed

pub returns-clause-kept : goal.returns-clause-kept
returns-clause-kept c = turn-kept
