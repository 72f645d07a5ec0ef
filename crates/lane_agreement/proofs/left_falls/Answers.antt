use Rattle.lane_agreement.proofs.Left.{callback-left, back-left}
use Rattle.lane_agreement.proofs.left_falls.Goals as goal

pub returns-clause-callback : goal.returns-clause-callback
returns-clause-callback c = callback-left

pub returns-clause-back : goal.returns-clause-back
returns-clause-back c = back-left
