use Rattle.busdma_machine.proofs.Accounts.Order.{nobody-attached, nobody-created}
use Rattle.busdma_machine.proofs.bounce.account_laws.growth_serves_nobody.Goals as goal

pub returns-clause-tag : goal.returns-clause-tag
returns-clause-tag c = nobody-attached

pub returns-clause-map : goal.returns-clause-map
returns-clause-map c = nobody-created
