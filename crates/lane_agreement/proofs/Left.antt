-- What is left falls if pages come as asked, and if a page goes back.
use Rattle.std.proofs.Common.{◌≡◌, ℕ, ◌+◌, ◌≤◌, Bool, true, false, List, [], ◌∷◌, length, refl, sym, ap, ◌∙◌, arith}
use Rattle.std.proofs.Common.{if◌then◌else◌, ◌==◌, Option, Some, None}
use Rattle.std.proofs.lemmas.Bool.{eq-eqb}
use Rattle.std.proofs.lemmas.List.{length-append}
use Rattle.busdma_machine.specs.declared.machine.address.Pa.{Pa}
use Rattle.busdma_machine.specs.declared.name.MapId.{MapId}
use Rattle.busdma_machine.specs.declared.bounce.hold.HubReply.TheVariants.{Called}
use Rattle.busdma_machine.specs.Bounce.Account.{Account}
use Rattle.busdma_machine.specs.Bounce.AccountStep.{called_from}
use Rattle.busdma_machine.specs.Bounce.WellFormed.{IsAccountWellFormed}
use Rattle.lane_agreement.specs.View.{View, Return, OwnMap, Idle}
use Rattle.lane_agreement.specs.View.{Returning, view_ended}
use Rattle.lane_agreement.specs.View.{view_emptied, queued_back, view_given_back}
use Rattle.lane_agreement.specs.View.{view_restaged, returning, is_returning, zone_in}
use Rattle.lane_agreement.specs.Agreement.{Agrees}
use Rattle.lane_agreement.specs.After.{addresses_of_pages, after_callback, left_at}
use Rattle.lane_agreement.specs.After.{left_of_map, brought, IsLike}
use Rattle.lane_agreement.proofs.Whole.{Called_for, called-length}

pub addresses-length : (pages : List Pa) → length (addresses_of_pages pages) ≡ length pages
addresses-length [] = refl
addresses-length (p ∷ ps) = omega (arith, addresses-length ps)

pub queued-length : (k z : ℕ) (pages : List ℕ) → length (queued_back k z pages) ≡ length pages
queued-length k z [] = refl
queued-length k z (p ∷ ps) = omega (arith, queued-length k z ps)

emptied-left : (items z : ℕ) (pages : List ℕ) → left_at items (Some (record { zone = z; stage = view_emptied pages }))
    ≡ 0
emptied-left items z [] = refl
emptied-left items z (p ∷ ps) = refl

-- a load that ends has brought its items, and its pages are with the map or in the return queue
pub ended-left : (fits : Bool) (l : View) (k z : ℕ) (pages : List ℕ) (items : ℕ) →
    left_of_map items (view_ended fits l k z pages) k ≡ length pages + length l.returns
ended-left true l k z pages items = rw (eq-eqb k k refl) refl
ended-left false l k z pages items =
    rw (eq-eqb k k refl) (omega (
      arith,
      emptied-left items z pages,
      length-append l.returns (queued_back k z pages),
      queued-length k z pages,
    ))

-- a callback lowers what is left
pub callback-left : (fits : Bool) (l : View) (a : Account) (m : MapId) (pages : List Pa) (items : ℕ) →
    IsAccountWellFormed a →
    Agrees l a → (called_from a.ready l.id a).reply ≡ Called m pages
    → left_of_map items (after_callback fits l (Called m pages)) m.made_at
    + brought fits items + 1 ≤ left_of_map items l m.made_at
callback-left fits l a m pages items well agrees e = lowers (called-length l a.ready a m pages well agrees refl e)
  where
    few : (fits : Bool) → brought fits items ≤ items
    few true = omega arith
    few false = omega arith

    lowers : Called_for l pages m → left_of_map items (after_callback fits l (Called m pages)) m.made_at
        + brought fits items + 1 ≤ left_of_map items l m.made_at
    lowers c =
        omega (
          arith,
          few fits,
          ended-left fits l m.made_at (zone_in (l.map_at m.made_at)) (addresses_of_pages pages) items,
          addresses-length pages,
          c.4,
          ap (left_at items) c.3,
        )

bare-left : (items : ℕ) (o : Option OwnMap) (b : Bool) → left_at items (view_restaged o (if b then Idle else Returning))
    ≡ 0
bare-left items None b = refl
bare-left items (Some m) true = refl
bare-left items (Some m) false = refl

-- the return of a page lowers what is left
pub back-left : (l : View) (r : Return) (rs : List Return) (items : ℕ) → l.returns ≡ r ∷ rs →
    left_of_map items (view_given_back l (r ∷ rs)) r.map + 1 ≤ left_of_map items l r.map
back-left l r rs items is =
    let here : left_at items ((view_given_back l (r ∷ rs)).map_at r.map) ≡ 0 =
    rw (eq-eqb r.map r.map refl) (bare-left items (l.map_at r.map) (returning r.map rs == 0)) in
    omega (arith, here, ap length is)

-- drivers that are alike agree with the same accounts
pub agrees-like : (l k : View) (a : Account) → IsLike l k → Agrees l a → Agrees k a
agrees-like l k a like agrees = record {
  apart = λ f e. agrees.apart f (sym (like.own_frame f) ∙ e);
  one = agrees.one;
  maxmem = like.maxmem ∙ agrees.maxmem;
  names = λ m own. rw (like.maps m.made_at, like.mems m.made_at, like.returns) (agrees.names m (own ∙ like.id));
  returns = λ j e. rw like.returns (agrees.returns j (ap is_returning (sym (like.maps j)) ∙ e));
  zones = λ j. rw (like.maps j, like.returns) (agrees.zones j);
}
