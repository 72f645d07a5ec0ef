use Rattle.busdma_machine.proofs.Accounts.Rising.{bank-rises}
use Rattle.busdma_machine.proofs.bounce.account_laws.free_frames_rise.Goals as goal

pub returns : goal.returns
returns c = bank-rises
