-- What a lane knows at its door allows its calls, and a call leads to what it knows next.
use Rattle.std.proofs.Common.{◌≡◌, ℕ, Bool, true, List, [], ◌∷◌, IsTrue}
use Rattle.std.proofs.Common.{refl, sym, ap, ◌∙◌, subst}
use Rattle.busdma_machine.specs.declared.bounce.hold.HubCall.{HubCall}
use Rattle.busdma_machine.specs.declared.bounce.hold.HubReply.{HubReply}
use Rattle.busdma_machine.specs.Bounce.AccountStep.{as_pages}
use Rattle.busdma_machine.specs.Bounce.Conditions.{MayCall}
use Rattle.busdma_machine.specs.Bounce.Door.{Seen, Allows, HoldsAtDoor as Holds, account}
use Rattle.lane_agreement.specs.View.{View, Loaded, unloaded}
use Rattle.lane_agreement.specs.After.{after, addresses_of_pages, MayAsk}
use Rattle.lane_agreement.proofs.Asking.{agrees-may}
use Rattle.lane_agreement.proofs.Doors.{agrees-holds}
use Rattle.lane_agreement.proofs.Steps.{agrees-unloaded}
use Rattle.lane_threads_tests.specs.Knowing.{Knows, is_known_in_zone}

-- a view of the lane of which this holds
abbrev pub IsOf : ℕ → (View → Type 0) → View → Type 0
IsOf lane Has l = (l.id ≡ lane) × Has l

-- what is known of every such view
abbrev pub Each : ℕ → (View → Type 0) → (View → Type 0) → Type 0
Each lane Has Holds = (l : View) → l.id ≡ lane → Has l → Holds l

module _ (lane : ℕ) (Has : View → Type 0) (d : Seen) (k : Knows lane Has d) where
  pub allows : (c : HubCall) → Each lane Has (λ l. MayAsk l c) → Allows d lane c
  allows c asks = record {
    served = k.served;
    sound = k.sound;
    may = subst (λ n. MayCall n c (account d)) k.id
        (agrees-may k.view (account d) c k.agrees (asks k.view k.id k.has));
  }

  served_view : IsTrue (d.serves k.view.id)
  served_view = subst (λ n. IsTrue (d.serves n)) (sym k.id) k.served

  pub held : (Next : View → Type 0) (e : Seen) (c : HubCall) (r : HubReply) → Each lane Has (λ l. MayAsk l c)
      → Each lane Has (λ l. IsOf lane Next (after true l c r)) → Holds d lane c r e → Knows lane Next e
  held Next e c r asks leads h =
      let to = leads k.view k.id k.has in
      record {
        view = after true k.view c r;
        id = to.0;
        has = to.1;
        served = subst (λ (s : ℕ → Bool). IsTrue (s lane)) (sym (h.serves ∙ h.passes.serves)) k.served;
        sound = h.sound;
        agrees = agrees-holds true k.view d c r e k.agrees served_view
            (subst (λ n. Holds d n c r e) (sym k.id) h) (asks k.view k.id k.has);
      }

  -- the pages of a map that is unloaded are to be given back
  pub unloads : (Next : View → Type 0) (m z : ℕ) (pages : List ℕ)
      → Each lane Has (λ l. l.map_at m ≡ is_known_in_zone z (Loaded pages))
      → Each lane Has (λ l. Next (unloaded l m z pages)) → Knows lane Next d
  unloads Next m z pages here leads = record {
    view = unloaded k.view m z pages;
    id = k.id;
    has = leads k.view k.id k.has;
    served = k.served;
    sound = k.sound;
    agrees = agrees-unloaded k.view m z pages (account d) k.agrees (here k.view k.id k.has);
  }

-- the addresses of pages as a reply has them
pub addresses_as_pages : (pages : List ℕ) → addresses_of_pages (as_pages pages) ≡ pages
addresses_as_pages [] = refl
addresses_as_pages (p ∷ ps) = ap (λ qs. p ∷ qs) (addresses_as_pages ps)
