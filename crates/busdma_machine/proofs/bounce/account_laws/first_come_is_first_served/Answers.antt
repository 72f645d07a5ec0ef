use Rattle.busdma_machine.proofs.Accounts.FirstCome.{wait-history, line-history}
use Rattle.busdma_machine.proofs.bounce.account_laws.first_come_is_first_served.Goals as goal

pub returns-clause-completed : goal.returns-clause-completed
returns-clause-completed c = λ a es z sound. wait-history z a es sound

pub returns-clause-called : goal.returns-clause-called
returns-clause-called c = λ a es z well sound. line-history z a es well sound
