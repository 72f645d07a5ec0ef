use Rattle.lane_agreement.proofs.Whole.{agrees-opening}
use Rattle.lane_agreement.proofs.opening_agrees.Goals as goal

pub returns : goal.returns
returns c = agrees-opening
