use Rattle.lane_agreement.proofs.Asking.{agrees-may}
use Rattle.lane_agreement.proofs.agreement_allows.Goals as goal

pub returns : goal.returns
returns c = agrees-may
