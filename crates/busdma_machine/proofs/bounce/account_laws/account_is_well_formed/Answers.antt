use Rattle.busdma_machine.proofs.Accounts.WellFormed.{account-well}
use Rattle.busdma_machine.proofs.bounce.account_laws.account_is_well_formed.Goals as goal

pub returns : goal.returns
returns c = account-well
