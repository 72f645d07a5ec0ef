use Rattle.lane_agreement.proofs.Whole.{fit-reached}
use Rattle.lane_agreement.proofs.history_fits.Goals as goal

pub returns : goal.returns
returns c = fit-reached
