use Rattle.busdma_machine.proofs.Accounts.Order.{queue-history}
use Rattle.busdma_machine.proofs.bounce.account_laws.callbacks_keep_their_order.Goals as goal

pub returns : goal.returns
returns c = queue-history
