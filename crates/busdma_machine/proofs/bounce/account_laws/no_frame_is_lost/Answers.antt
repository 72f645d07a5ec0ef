use Rattle.busdma_machine.proofs.Accounts.Places.{total-stays}
use Rattle.busdma_machine.proofs.bounce.account_laws.no_frame_is_lost.Goals as goal

pub returns : goal.returns
returns c = λ a es opening sound. total-stays a es opening sound
