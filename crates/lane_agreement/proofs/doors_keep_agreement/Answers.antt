use Rattle.lane_agreement.proofs.Doors.{agrees-passes, agrees-holds}
use Rattle.lane_agreement.proofs.doors_keep_agreement.Goals as goal

pub returns-clause-passes : goal.returns-clause-passes
returns-clause-passes c = agrees-passes

pub returns-clause-holds : goal.returns-clause-holds
returns-clause-holds c = agrees-holds
