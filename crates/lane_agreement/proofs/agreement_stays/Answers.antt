use Rattle.lane_agreement.proofs.Others.{agrees-stays}
use Rattle.lane_agreement.proofs.agreement_stays.Goals as goal

pub returns : goal.returns
returns c = agrees-stays
