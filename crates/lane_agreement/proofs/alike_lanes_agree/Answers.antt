use Rattle.lane_agreement.proofs.Left.{agrees-like}
use Rattle.lane_agreement.proofs.alike_lanes_agree.Goals as goal

pub returns : goal.returns
returns c = agrees-like
