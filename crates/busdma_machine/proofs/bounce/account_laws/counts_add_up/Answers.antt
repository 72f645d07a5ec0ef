use Rattle.busdma_machine.specs.Bounce.History.{account_of}
use Rattle.busdma_machine.proofs.Accounts.WellFormed.{account-well, well-sum}
use Rattle.busdma_machine.proofs.bounce.account_laws.counts_add_up.Goals as goal

pub returns : goal.returns
returns c = λ a es z opening sound. well-sum (account_of a es) z (account-well a es opening sound)
