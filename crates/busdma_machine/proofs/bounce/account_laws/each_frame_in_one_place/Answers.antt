use Rattle.std.proofs.Common.{arith, ◌∙◌}
use Rattle.busdma_machine.proofs.Accounts.Places.{places-bank, times-rising, times-contains, times-missing}
use Rattle.busdma_machine.proofs.bounce.account_laws.each_frame_in_one_place.Goals as goal

pub returns-clause-one : goal.returns-clause-one
returns-clause-one c =
    λ a es p opening sound there. omega (
      arith,
      places-bank p a es opening sound,
      times-rising p a.bank opening.rising,
      times-contains p a.bank there,
    )

pub returns-clause-no_other : goal.returns-clause-no_other
returns-clause-no_other c =
    λ a es p opening sound missing. places-bank p a es opening sound ∙ times-missing p a.bank missing
