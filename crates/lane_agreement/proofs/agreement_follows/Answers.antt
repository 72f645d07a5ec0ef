use Rattle.lane_agreement.proofs.Steps.{agrees-unloaded}
use Rattle.lane_agreement.proofs.Whole.{agrees-step, agrees-loaded}
use Rattle.lane_agreement.proofs.agreement_follows.Goals as goal

pub returns-clause-step : goal.returns-clause-step
returns-clause-step c = agrees-step

pub returns-clause-unload : goal.returns-clause-unload
returns-clause-unload c = agrees-unloaded

pub returns-clause-no_page : goal.returns-clause-no_page
returns-clause-no_page c = agrees-loaded
