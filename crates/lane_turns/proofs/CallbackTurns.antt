-- The turn of the callbacks, which finds one that is the driver's or does not.
use Rattle.std.proofs.Common.{◌≡◌, ◌⊎◌, inl, inr, ◌+◌, ℕ, ◌==◌, Bool, true, false, List, [], length, refl, sym, ap}
use Rattle.std.proofs.Common.{◌∙◌, subst}
use Rattle.std.proofs.lemmas.Map.Views.{exact_unsigned_eq}
use Rattle.std.specs.FinMap.{get}
use Rattle.busdma_machine.specs.declared.bounce.hold.HubCall.TheVariants.{TakeCallback}
use Rattle.busdma_machine.specs.declared.bounce.hold.HubReply.TheVariants as reply
use Rattle.busdma_base.specs.declared.journals.answer.Answer.{Answer}
use Rattle.busdma_base.specs.declared.journals.journal.Did.TheVariants as did
use Rattle.busdma_base.specs.declared.journals.journal.Side.TheVariants as side
use Rattle.busdma_machine.specs.declared.name.MapId.{MapId}
use Rattle.busdma_machine.specs.Bounce.AccountStep.{as_pages}
use Rattle.busdma_machine.specs.Bounce.Door.{Seen, HoldsAtDoor}
use Rattle.ideal_lane.specs.Turns.{called, stepped}
use Rattle.ideal_wire.proofs.Obeys.AcceptedLaws.{same-pages}
use Rattle.lane_state.specs.declared.holdings.Holdings.{Holdings}
use Rattle.lane_turns.specs.declared.turn.Turn.{Turn}
use Rattle.lane_turns.specs.declared.turn.Turn.TheVariants as turn
use Rattle.lane_state.specs.Changes.{KeepsBytesBut, KeepsWhatStays, Stays}
use Rattle.lane_state.specs.Held.{devices_of}
use Rattle.lane_state.specs.Ideal.{given, ideal_of}
use Rattle.lane_state.specs.Kept.{device_of, device_in}
use Rattle.lane_turns.specs.TakenTurns.{IsTurnOf}
use Rattle.lane_state.proofs.Called.{WaitsFor, kept-load}

module _ (h k : Holdings) (m count : ℕ) (waits : WaitsFor h m count) (bytes : KeepsBytesBut m h k) where
  -- the map had no page before
  bare : (devices_of h.maps.map m).pages ≡ []
  bare =
      ap (λ d. d.pages) (ap device_of waits.there
      ∙ ap device_in (kept-load h m waits.map waits.there waits.waits).is)

  called-keeps : KeepsWhatStays h k
  called-keeps = record { own = bytes.own; pages = λ q. by q (m == q) refl }
    where
      by : (q : ℕ) (b : Bool) → (m == q) ≡ b → ((devices_of k.maps.map q).pages ≡ (devices_of h.maps.map q).pages)
          ⊎ (((devices_of h.maps.map q).pages ≡ []) ⊎ ((devices_of k.maps.map q).pages ≡ []))
      by q true e = inr (inl (sym (ap (λ j. (devices_of h.maps.map j).pages) (exact_unsigned_eq m q e)) ∙ bare))
      by q false e = inl (bytes.pages q e)

-- a callback was there, and its load has ended
pub called-made : (h k : Holdings) (d e : Seen) (m : MapId) (pas : List ℕ) (count : ℕ) (a : Answer) →
    HoldsAtDoor d h.id.0 TakeCallback (reply.Called m (as_pages pas)) e → WaitsFor h m.made_at count →
    given k a ≡ called m.made_at (get (ideal_of h).maps m.made_at) pas (ideal_of h) → KeepsBytesBut m.made_at h k →
    k.memories ≡ h.memories → k.agenda.length ≡ h.agenda.length →
    k.agenda.room + length k.agenda.queue ≡ h.agenda.room + length h.agenda.queue → (t : Turn) →
    t ≡ turn.Stepped (record {
      actor = record { lane = k.id; side = side.Callback };
      did = did.Callback m;
      answer = a;
    }) true → IsTurnOf h k d e side.Callback t
called-made h k d e m pas count a holds waits done bytes memories same_length capacity t is =
    let l = ideal_of h in
    let step = stepped side.Callback (did.Callback m) in
    subst (IsTurnOf h k d e side.Callback) (sym is) (record {
      done = inl (
        refl,
        record {
          reply = reply.Called m (as_pages pas);
          holds = holds;
          is = ap step done
              ∙ ap (λ ps. step (called m.made_at (get l.maps m.made_at) ps l)) (sym (same-pages pas));
        },
      );
      wire = Stays memories refl (called-keeps h k m.made_at count waits bytes);
      places = same_length;
      capacity = capacity;
    })
