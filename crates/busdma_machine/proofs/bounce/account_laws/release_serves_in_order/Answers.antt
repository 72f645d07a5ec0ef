use Rattle.busdma_machine.proofs.Accounts.Order.{released-order}
use Rattle.busdma_machine.proofs.bounce.account_laws.release_serves_in_order.Goals as goal

pub returns : goal.returns
returns c = λ m z page a inside. released-order a m z page inside
