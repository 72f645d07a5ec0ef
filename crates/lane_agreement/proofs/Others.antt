-- Sound entries of other drivers keep the agreement.
use Rattle.std.proofs.Common.{◌≢◌, List, sym, ◌∙◌, arith, ◌==◌, All}
use Rattle.busdma_machine.specs.declared.bounce.hold.HoldEntry.{HoldEntry}
use Rattle.busdma_machine.specs.Bounce.Account.{Account}
use Rattle.busdma_machine.specs.Bounce.History.{IsSound, account_of}
use Rattle.busdma_machine.specs.Bounce.SameFor.{SameFor}
use Rattle.busdma_machine.proofs.Accounts.ShareLaws.{SameFor-history}
use Rattle.busdma_machine.proofs.Accounts.Places.{where-history}
use Rattle.busdma_machine.specs.Bounce.WellFormed.{IsAccountWellFormed}
use Rattle.lane_agreement.specs.View.{View}
use Rattle.busdma_machine.specs.Bounce.Share.{share}
use Rattle.lane_agreement.specs.OwnShare.{own_share}
use Rattle.lane_agreement.specs.Agreement.{Agrees}
use Rattle.busdma_machine.proofs.Accounts.Names.{Same-trans}

pub agrees-stays : (l : View) (a : Account) (es : List HoldEntry) → IsAccountWellFormed a → Agrees l a → IsSound a es →
    All (λ e. e.lane.0 ≢ l.id) es → Agrees l (account_of a es)
agrees-stays l a es well agrees sound others =
    let same : SameFor l.id a (account_of a es) = SameFor-history l.id a es sound others in
    record {
      apart = λ f e. where-history (λ g. g == f) a es well sound ∙ agrees.apart f e;
      one = λ f. omega (arith, where-history (λ g. g == f) a es well sound, agrees.one f);
      maxmem = agrees.maxmem ∙ sym same.maxmem;
      names = λ m own. Same-trans (own_share l m.made_at) (share m a) _ (agrees.names m own) (same.names m own);
      returns = agrees.returns;
      zones = agrees.zones;
    }
