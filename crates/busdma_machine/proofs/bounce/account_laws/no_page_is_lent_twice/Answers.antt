use Rattle.std.proofs.Common.{arith}
use Rattle.busdma_machine.proofs.Accounts.Places.{places-bank, times-rising}
use Rattle.busdma_machine.proofs.bounce.account_laws.no_page_is_lent_twice.Goals as goal

pub returns : goal.returns
returns c =
    λ a es p opening sound. omega (arith, places-bank p a es opening sound, times-rising p a.bank opening.rising)
