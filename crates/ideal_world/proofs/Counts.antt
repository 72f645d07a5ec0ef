-- The counts of a journal's zones add up.
use Rattle.std.proofs.Common.{ℕ, ◌+◌, List, [], ◌∷◌, All, sym, subst}
use Rattle.std.proofs.lemmas.List.Elements.{All-nil, All-cons}
use Rattle.busdma_base.specs.declared.journals.journal.Journal.{Journal}
use Rattle.busdma_base.specs.declared.scenarios.scenario.Scenario.{Scenario}
use Rattle.busdma_base.specs.Scenarios.Valid.{IsValid}
use Rattle.busdma_machine.specs.Bounce.Account.{Zone, counts}
use Rattle.busdma_machine.specs.Bounce.WellFormed as account
use Rattle.busdma_machine.proofs.Accounts.WellFormed.{well-sum}
use Rattle.ideal_world.specs.Legal.{IsLegal}
use Rattle.ideal_world.specs.Sums.{AddsUp}
use Rattle.ideal_world.specs.World.{WorldState, bounced, counts_from}
use Rattle.ideal_world.proofs.Keeping.{fits}
use Rattle.ideal_world.proofs.Legal.{legal-waits}

from-add-up : (w : WorldState) → account.IsAccountWellFormed w.account → (z : ℕ) (zones : List Zone) →
    All AddsUp (counts_from w z zones)
from-add-up w well z [] = All-nil AddsUp
from-add-up w well z (k ∷ zones) =
    All-cons AddsUp (counts w.account (bounced w z) z) (counts_from w (z + 1) zones) (well-sum w.account z well)
    (from-add-up w well (z + 1) zones)

pub legal-add-up : (s : Scenario) (j : Journal) → IsValid s → IsLegal s j → All AddsUp j.zones
legal-add-up s j valid h =
    let x = legal-waits s j h valid in
    subst (λ cs. All AddsUp cs) (sym h.zones)
    (from-add-up h.last (fits s h.last x.0).well 0 h.last.account.zones)
