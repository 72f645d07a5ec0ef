-- The turns of the script in which no page goes back: the resend that is due, or the next operation.
use Rattle.std.proofs.Common.{◌≡◌, ◌⊎◌, ℕ, ◌+◌, ◌≤◌, Bool, true, false, [], Some, None, length}
use Rattle.std.proofs.Common.{map, is_some, slice_get, if◌then◌else◌, refl, ap, sym, ◌∙◌, subst, arith}
use Rattle.busdma_base.specs.declared.journals.journal.Did.{Did}
use Rattle.busdma_base.specs.declared.journals.journal.Did.TheVariants as did
use Rattle.busdma_base.specs.declared.journals.journal.Side.{Side}
use Rattle.busdma_base.specs.declared.journals.journal.Side.TheVariants as side
use Rattle.busdma_base.specs.declared.scenarios.script.Op.{Op}
use Rattle.busdma_machine.specs.Bounce.Door.{Seen}
use Rattle.busdma_machine.specs.Machine.Wire.{Wire, with_bytes_of}
use Rattle.busdma_base.specs.Scenarios.Operations.{items_of}
use Rattle.phys_memory.specs.Memory.{wire}
use Rattle.ideal_lane.specs.Ahead.{items_ahead}
use Rattle.ideal_lane.specs.Asking.{Asking, Gives, Asks, goes_on}
use Rattle.ideal_lane.specs.Outcomes.{Outcome}
use Rattle.ideal_lane.specs.Sends.{Send, due_send, is_kept, resend, send_of}
use Rattle.ideal_lane.specs.Standing.{Stands}
use Rattle.ideal_lane.specs.State.{LaneState}
use Rattle.ideal_lane.specs.Turns as turns
use Rattle.ideal_lane.specs.Turns.{Turned, due_turn, lane_step, next_operation, operation, resent, script_turn, stays}
use Rattle.ideal_lane.specs.Turns.{waits, went_on}
use Rattle.ideal_lane.proofs.Falling.{rest-of}
use Rattle.ideal_wire.specs.WireStep as wires
use Rattle.lane_state.specs.declared.holdings.Answered.{Answered}
use Rattle.lane_state.specs.declared.holdings.Holdings.{Holdings}
use Rattle.lane_turns.specs.declared.turn.Turn.{Turn}
use Rattle.lane_turns.specs.declared.turn.Turn.TheVariants as turn
use Rattle.lane_state.specs.Changes.{IsWireOf, Becomes, Copies, Stays, WithMemory, KeepsAgenda}
use Rattle.lane_state.specs.Doing.{IsAllowedBy, IsDone, asks}
use Rattle.lane_state.specs.Held.{devices_of, held}
use Rattle.lane_state.specs.Ideal.{given, ideal_of}
use Rattle.lane_state.specs.Kept.{map_of, memory_of, return_of}
use Rattle.lane_state.specs.Kept.{kept_ring, kept_share, spaces_of, tag_of}
use Rattle.lane_state.specs.MapValues.{map_values}
use Rattle.lane_state.specs.Served.{IsServed}
use Rattle.lane_turns.specs.TakenTurns.{IsAtTurn, IsTurnOf, IsTurned, answered, is_held, turn_taken}
use Rattle.lane_state.specs.Wire.{held_pages, wire_of}
use Rattle.lane_turns.proofs.TurnEnds.{done-turned, turn-may}

-- ---- a step that goes on

module _ {X Y : Type 0} (f : X → Y) (d : Seen) (lane : ℕ) where
  done-on : (step : Asking X) (x : X) (e : Seen) → IsDone d lane step x e → IsDone d lane (goes_on f step) (f x) e
  done-on (Gives y) x e done = (ap f done.0, done.1)
  done-on (Asks c k) x e done = record { reply = done.reply; holds = done.holds; is = ap f done.is }

  asks-on : (step : Asking X) → asks (goes_on f step) ≡ asks step
  asks-on (Gives x) = refl
  asks-on (Asks c k) = refl

  allowed-on : (step : Asking X) → IsAllowedBy d lane (goes_on f step) → IsAllowedBy d lane step
  allowed-on (Gives x) may = tt
  allowed-on (Asks c k) may = may

-- ---- a turn that is no step

-- the turn leaves the driver and the door as they were
pub still-made : (h : Holdings) (d : Seen) (s : Side) (t : Turn) → is_held t ≡ false →
    lane_step (ideal_of h) s ≡ Gives (stays (answered t) (ideal_of h)) →
    wires.wire_lane_step (ideal_of h) s (wire_of h) ≡ wire_of h → IsTurnOf h h d d s t
still-made h d s t unheld is plain = record {
  done = subst (λ step. IsTurned d h.id.0 step (turn_taken h t) (is_held t) d) (sym is) (refl, unheld, refl);
  wire = Becomes refl (sym plain);
  places = refl;
  capacity = refl;
}

-- the items of the next operation have room
pub few-items : (h : Holdings) (o : Op) → slice_get h.script h.agenda.place ≡ Some o →
    items_ahead (ideal_of h) ≤ h.agenda.room → length (items_of o) ≤ h.agenda.room
few-items h o here room =
    let rest = rest-of (λ o. length (items_of o)) h.script h.agenda.place o here in
    omega (arith, rest, room)

-- ---- a step of the script that was done: then its driver has come to a place

module _ (h k n : Holdings) (place : ℕ) (due : Bool) (at : IsAtTurn place due k n) where
  gone-on : ideal_of n ≡ record (ideal_of k) { place = place; due = due }
  gone-on =
      let most = at.rest.most in
      λ i. record {
        id = (most.id i).0;
        maxmem = most.maxmem i;
        script = most.script i;
        place = (at.agenda i).place;
        due = most.due i;
        pages = (most.pages i).now;
        tags = map_values tag_of (at.rest.tags i).map;
        maps = map_values map_of (at.rest.maps i).map;
        mems = map_values memory_of (most.memories i).map;
        rings = map_values kept_ring (most.rings i).map;
        memory = held (most.loans i).bytes (most.loans i).loans (devices_of (at.rest.maps i).map)
            (most.memory i).memory;
        loans = (most.loans i).loans;
        queue = (at.agenda i).queue;
        returns = map return_of (at.agenda i).returns;
        shares = kept_share (most.shares i).items;
        spaces = spaces_of (at.rest.tags i).map;
      }

  same-wire : wire_of n ≡ wire_of k
  same-wire = λ i. with_bytes_of (held_pages (at.rest.maps i).map) (wire (at.rest.most.memory i).memory)

  -- the bounce pages of a map are those that it had
  same-pages : (m : ℕ) → (devices_of n.maps.map m).pages ≡ (devices_of k.maps.map m).pages
  same-pages m = ap (λ t. (devices_of t.map m).pages) at.rest.maps

  kept-pages : (m : ℕ) → (((devices_of k.maps.map m).pages ≡ (devices_of h.maps.map m).pages)
      ⊎ (((devices_of h.maps.map m).pages ≡ []) ⊎ ((devices_of k.maps.map m).pages ≡ []))) →
      (((devices_of n.maps.map m).pages ≡ (devices_of h.maps.map m).pages)
      ⊎ (((devices_of h.maps.map m).pages ≡ []) ⊎ ((devices_of n.maps.map m).pages ≡ [])))
  kept-pages m = subst (λ t. ((devices_of t.map m).pages ≡ (devices_of h.maps.map m).pages)
      ⊎ (((devices_of h.maps.map m).pages ≡ []) ⊎ ((devices_of t.map m).pages ≡ []))) (sym at.rest.maps)

  wired-on : (w : Wire) → IsWireOf h k w → IsWireOf h n w
  wired-on w (Becomes memories is) = Becomes (at.rest.most.memories ∙ memories) (same-wire ∙ is)
  wired-on w (Stays memories plain keeps) =
      Stays (at.rest.most.memories ∙ memories) plain (record {
        own = ap (λ m. wire m.memory) at.rest.most.memory ∙ keeps.own;
        pages = λ m. kept-pages m (keeps.pages m);
      })
  wired-on w (Copies from to memories plain keeps) =
      Copies from to (at.rest.most.memories ∙ memories) plain (record {
        own_from = keeps.own_from;
        own_to = keeps.own_to;
        own = ap (λ m. wire m.memory) at.rest.most.memory ∙ keeps.own;
        pages = λ m. kept-pages m (keeps.pages m);
      })
  wired-on w (WithMemory plain keeps) =
      WithMemory plain (record {
        own = λ a before after. ap (λ m. wire m.memory a) at.rest.most.memory
            ∙ keeps.own a before (ap (λ o. is_some (o.memory a)) (sym gone-on) ∙ after);
        known = λ a v none is. ap (λ m. wire m.memory a) at.rest.most.memory
            ∙ keeps.known a v none (ap (λ o. o.memory a) (sym gone-on) ∙ is);
        pages = λ m. same-pages m ∙ keeps.pages m;
      })

  -- a turn was made that goes on with a step so
  pub step-made : (d e : Seen) (what : Did) (step : Asking Outcome) (f : Outcome → Turned) (w : Wire) (r : Answered)
      (t : Turn) → lane_step (ideal_of h) side.Script ≡ goes_on f step →
      wires.wire_lane_step (ideal_of h) side.Script (wire_of h) ≡ w →
      f (given k r.answer) ≡ turns.stepped side.Script what
      (record { lane = record (ideal_of k) { place = place; due = due }; answer = r.answer }) →
      IsDone d h.id.0 step (given k r.answer) e → r.held ≡ asks step → IsWireOf h k w → KeepsAgenda h k →
      t ≡ turn.Stepped (record {
        actor = record { lane = n.id; side = side.Script };
        did = what;
        answer = r.answer;
      }) r.held → IsTurnOf h n d e side.Script t
  step-made d e what step f w r t step-is wire-is f-is done asked wire agenda is =
      subst (IsTurnOf h n d e side.Script) (sym is) (record {
        done = subst (λ x. IsTurned d h.id.0 (lane_step (ideal_of h) side.Script) x r.held e) (sym made) turn_done;
        wire = wired-on _ (subst (IsWireOf h k) (sym wire-is) wire);
        places = ap (λ a. a.length) at.agenda ∙ agenda.end;
        capacity = ap (λ a. a.room + length a.queue) at.agenda ∙ agenda.capacity;
      })
    where
      entry : Turn
      entry = turn.Stepped (record {
        actor = record { lane = n.id; side = side.Script };
        did = what;
        answer = r.answer;
      }) r.held

      made : turn_taken n entry ≡ f (given k r.answer)
      made =
          (λ i. record {
            lane = gone-on i;
            turn = turns.Stepped (record {
              actor = record { lane = at.rest.most.id i; side = side.Script };
              did = what;
              answer = r.answer;
            });
          }) ∙ sym f-is

      turn_done : IsTurned d h.id.0 (lane_step (ideal_of h) side.Script) (f (given k r.answer)) r.held e
      turn_done =
          subst (λ x. IsTurned d h.id.0 x (f (given k r.answer)) r.held e) (sym step-is)
          (done-turned d h.id.0 (goes_on f step) _ r.held e (done-on f d h.id.0 step (given k r.answer) e done)
          (asked ∙ sym (asks-on f d h.id.0 step)))

-- ---- the turns of the script in which no page goes back

module _ (h : Holdings) (empty : h.agenda.returns ≡ []) where
  abbrev l : LaneState
  l = ideal_of h

  -- the resend that is due, or the next operation
  step-due : lane_step l side.Script ≡ due_turn (due_send l) l
  step-due = ap (λ qs. script_turn (map return_of qs) l) empty

  wire-due : (w : Wire) → wires.wire_lane_step l side.Script w ≡ wires.wire_due_turn (due_send l) l w
  wire-due w = ap (λ qs. wires.wire_script_turn (map return_of qs) l w) empty

  -- ---- the next operation

  module _ (undue : due_send l ≡ None) where
    step-next : lane_step l side.Script ≡ next_operation (slice_get h.script h.agenda.place) l
    step-next = step-due ∙ ap (λ s. due_turn s l) undue

    wire-next : (w : Wire) →
        wires.wire_lane_step l side.Script w ≡ wires.wire_next_operation (slice_get h.script h.agenda.place) l w
    wire-next w = wire-due w ∙ ap (λ s. wires.wire_due_turn s l w) undue

    -- there is no next operation
    pub ended-made : (d : Seen) → slice_get h.script h.agenda.place ≡ None →
        IsTurnOf h h d d side.Script turn.Ended
    ended-made d none =
        still-made h d side.Script turn.Ended refl (step-next ∙ ap (λ o. next_operation o l) none)
        (wire-next (wire_of h) ∙ ap (λ o. wires.wire_next_operation o l (wire_of h)) none)

    module _ (o : Op) (here : slice_get h.script h.agenda.place ≡ Some o) where
      -- the next operation cannot step
      pub blocked-made : (d : Seen) → waits o l ≡ true → IsTurnOf h h d d side.Script turn.Blocked
      blocked-made d waiting =
          still-made h d side.Script turn.Blocked refl
          (step-next ∙ ap (λ q. next_operation q l) here
          ∙ ap (λ b. if b then Gives (stays turns.Blocked l) else goes_on (went_on o l.place) (operation o l)) waiting)
          (wire-next (wire_of h) ∙ ap (λ q. wires.wire_next_operation q l (wire_of h)) here
          ∙ ap (λ b. if b then wire_of h else wires.wire_operation o l (wire_of h)) waiting)

      module _ (goes : waits o l ≡ false) where
        step-is : lane_step l side.Script ≡ goes_on (went_on o h.agenda.place) (operation o l)
        step-is =
            step-next ∙ ap (λ q. next_operation q l) here
            ∙ ap (λ b. if b then Gives (stays turns.Blocked l) else goes_on (went_on o l.place) (operation o l)) goes

        wire-is : (w : Wire) → wires.wire_lane_step l side.Script w ≡ wires.wire_operation o l w
        wire-is w =
            wire-next w ∙ ap (λ q. wires.wire_next_operation q l w) here
            ∙ ap (λ b. if b then w else wires.wire_operation o l w) goes

        -- the account allows its call
        pub next-may : (d : Seen) → Stands l → IsServed l d → IsAllowedBy d h.id.0 (operation o l)
        next-may d stands served =
            allowed-on (went_on o h.agenda.place) d h.id.0 (operation o l)
            (subst (λ step. IsAllowedBy d h.id.0 step) step-is (turn-may h side.Script d stands served))

        module _ (k n : Holdings) (d e : Seen) (r : Answered) (t : Turn)
            (done : IsDone d h.id.0 (operation o l) (given k r.answer) e) (asked : r.held ≡ asks (operation o l))
            (wire : IsWireOf h k (wires.wire_operation o l (wire_of h))) (agenda : KeepsAgenda h k)
            (is : t ≡ turn.Stepped (record {
              actor = record { lane = n.id; side = side.Script };
              did = did.Op h.agenda.place;
              answer = r.answer;
            }) r.held) where
          -- the operation is done, and the script goes on
          gone-made : is_kept (send_of o) r.answer ≡ false → IsAtTurn (k.agenda.place + 1) false k n →
              IsTurnOf h n d e side.Script t
          gone-made gone at =
              step-made h k n (k.agenda.place + 1) false at d e (did.Op h.agenda.place) (operation o l)
              (went_on o h.agenda.place) (wires.wire_operation o l (wire_of h)) r t step-is (wire-is (wire_of h))
              (ap (λ b. if b then turns.kept h.agenda.place (given k r.answer)
              else turns.advanced h.agenda.place (given k r.answer)) gone
              ∙ (λ i. turns.stepped side.Script (did.Op h.agenda.place) (record {
                lane = record (ideal_of k) { place = sym agenda.place i + 1; due = false };
                answer = r.answer;
              }))) done asked wire agenda is

          -- the operation is a send whose callback is kept, and the script stays
          kept-made : is_kept (send_of o) r.answer ≡ true → IsAtTurn k.agenda.place true k n →
              IsTurnOf h n d e side.Script t
          kept-made kept at =
              step-made h k n k.agenda.place true at d e (did.Op h.agenda.place) (operation o l)
              (went_on o h.agenda.place) (wires.wire_operation o l (wire_of h)) r t step-is (wire-is (wire_of h))
              (ap (λ b. if b then turns.kept h.agenda.place (given k r.answer)
              else turns.advanced h.agenda.place (given k r.answer)) kept) done asked wire agenda is

          pub next-made : (is_kept (send_of o) r.answer ≡ false → IsAtTurn (k.agenda.place + 1) false k n) →
              (is_kept (send_of o) r.answer ≡ true → IsAtTurn k.agenda.place true k n) → IsTurnOf h n d e side.Script t
          next-made gone kept = by (is_kept (send_of o) r.answer) refl
            where
              by : (b : Bool) → is_kept (send_of o) r.answer ≡ b → IsTurnOf h n d e side.Script t
              by true e = kept-made e (kept e)
              by false e = gone-made e (gone e)

  -- ---- the resend that is due

  module _ (s : Send) (due : due_send l ≡ Some s) where
    step-again : lane_step l side.Script ≡ goes_on (resent h.agenda.place) (resend s l)
    step-again = step-due ∙ ap (λ s. due_turn s l) due

    wire-again : (w : Wire) → wires.wire_lane_step l side.Script w ≡ wires.wire_resend s l w
    wire-again w = wire-due w ∙ ap (λ s. wires.wire_due_turn s l w) due

    pub again-may : (d : Seen) → Stands l → IsServed l d → IsAllowedBy d h.id.0 (resend s l)
    again-may d stands served =
        allowed-on (resent h.agenda.place) d h.id.0 (resend s l)
        (subst (λ step. IsAllowedBy d h.id.0 step) step-again (turn-may h side.Script d stands served))

    pub again-made : (k n : Holdings) (d e : Seen) (r : Answered) (t : Turn) →
        IsAtTurn (k.agenda.place + 1) false k n → IsDone d h.id.0 (resend s l) (given k r.answer) e →
        r.held ≡ asks (resend s l) → IsWireOf h k (wires.wire_resend s l (wire_of h)) → KeepsAgenda h k →
        t ≡ turn.Stepped (record {
          actor = record { lane = n.id; side = side.Script };
          did = did.Again h.agenda.place;
          answer = r.answer;
        }) r.held → IsTurnOf h n d e side.Script t
    again-made k n d e r t at done asked wire agenda is =
        step-made h k n (k.agenda.place + 1) false at d e (did.Again h.agenda.place) (resend s l)
        (resent h.agenda.place) (wires.wire_resend s l (wire_of h)) r t step-again (wire-again (wire_of h))
        (λ i. turns.stepped side.Script (did.Again h.agenda.place) (record {
          lane = record (ideal_of k) { place = sym agenda.place i + 1; due = false };
          answer = r.answer;
        })) done asked wire agenda is
