-- A driver is ready for its next turn after one that was made, and after one that ran out of memory.
use Rattle.std.proofs.Common.{◌≡◌, inl, inr, ◌≤◌, ℕ, Bool, IsTrue, refl, ap, sym, subst, arith}
use Rattle.busdma_base.specs.declared.journals.journal.Side.{Side}
use Rattle.busdma_machine.specs.Bounce.Door.{Seen}
use Rattle.busdma_machine.specs.Bounce.EachFrame.{LiesBelowMaxmem}
use Rattle.lane_agreement.proofs.Doors.{agrees-passes}
use Rattle.ideal_lane.specs.Ahead.{items_ahead}
use Rattle.ideal_lane.specs.Standing.{Stands}
use Rattle.ideal_lane.specs.View.{view_of}
use Rattle.ideal_wire.specs.WireStep.{Follows}
use Rattle.ideal_wire.specs.WireStep as wires
use Rattle.lane_state.specs.declared.holdings.Holdings.{Holdings}
use Rattle.lane_turns.specs.declared.turn.Turn.{Turn}
use Rattle.lane_state.specs.Changes.{IsWireOf, Becomes, Copies, Stays, WithMemory, KeepsState}
use Rattle.lane_state.specs.Doing.{IsUndone}
use Rattle.lane_state.specs.Ideal.{ideal_of}
use Rattle.lane_state.specs.Served.{IsServed}
use Rattle.lane_turns.specs.TakenTurns.{IsTurnOf, IsReady, is_held, turn_taken}
use Rattle.lane_state.specs.Wire.{wire_of}
use Rattle.lane_turns.proofs.KeepsWired.{kept-wired}
use Rattle.lane_turns.proofs.TurnEnds.{end-beside, end-bounded, end-copies, end-follows, end-known, end-served}
use Rattle.lane_turns.proofs.TurnEnds.{end-stands}
use Rattle.lane_turns.proofs.TurnEnds.{end-wired}

module _ (h k : Holdings) (d e : Seen) (s : Side) (t : Turn) (ready : IsReady h d) (made : IsTurnOf h k d e s t) where
  pub end-wire : IsWireOf h k (wires.wire_lane_step (ideal_of h) s (wire_of h)) →
      Follows (ideal_of h) (ideal_of k) (wires.wire_lane_step (ideal_of h) s (wire_of h)) (wire_of k)
  end-wire (Becomes memories is) = record {
    own = λ a before after. ap (λ w. w a) is;
    pages = λ m a before after. ap (λ w. w a) is;
    known = end-known h k s d e ready.stands ready.wired ready.served (turn_taken k t) (is_held t) made.done refl
        memories
        (wire_of k);
  }
  end-wire (Stays memories plain keeps) =
      end-follows h k s d e ready.stands ready.wired ready.served (turn_taken k t) (is_held t) made.done refl memories
      keeps
      (wires.wire_lane_step (ideal_of h) s (wire_of h)) plain
  end-wire (Copies from to memories plain keeps) =
      end-copies h k s d e ready.stands ready.wired ready.served (turn_taken k t) (is_held t) made.done refl memories
      from to
      keeps (wires.wire_lane_step (ideal_of h) s (wire_of h)) plain
  end-wire (WithMemory plain keeps) =
      end-beside h k s d e ready.stands ready.wired ready.served (turn_taken k t) (is_held t) made.done refl keeps
      (wires.wire_lane_step (ideal_of h) s (wire_of h)) plain

  pub made-ready : IsReady k e
  made-ready =
      let few = end-bounded h k s d e ready.stands ready.wired ready.served (turn_taken k t) (is_held t) made.done
      refl in
      let before = ready.room in
      let capacity = made.capacity in
      record {
        stands = end-stands h k s d e ready.stands ready.wired ready.served (turn_taken k t) (is_held t) made.done refl;
        wired = end-wired h k s d e ready.stands ready.wired ready.served (turn_taken k t) (is_held t) made.done refl
            (end-wire made.wire);
        room = omega (arith, few, before, capacity);
        served = end-served h k s d e ready.stands ready.wired ready.served (turn_taken k t) (is_held t) made.done refl;
      }

module _ (h k : Holdings) (d e : Seen) (ready : IsReady h d) (same : KeepsState h k)
    (room : h.agenda.room ≤ k.agenda.room) where
  -- entries of other lanes leave a driver served
  passed : IsUndone d e → IsServed (ideal_of h) e
  passed (inl is) = subst (IsServed (ideal_of h)) (sym is) ready.served
  passed (inr fails) =
      let p = fails.passes in
      record {
        served = subst (λ (b : ℕ → Bool). IsTrue (b (ideal_of h).id)) (sym p.serves)
            ready.served.served;
        opening = p.form;
        below = subst LiesBelowMaxmem (sym p.opening) ready.served.below;
        sound = p.sound;
        agrees = agrees-passes (view_of (ideal_of h)) d fails.others e ready.served.agrees ready.served.served p;
      }

  pub wanting-ready : IsUndone d e → IsReady k e
  wanting-ready undone =
      let back = sym same.ideal in
      let before : items_ahead (ideal_of h) ≤ h.agenda.room = ready.room in
      let now : items_ahead (ideal_of k) ≡ items_ahead (ideal_of h) = ap items_ahead same.ideal in
      record {
        stands = subst Stands back ready.stands;
        wired = kept-wired h k same ready.wired;
        room = omega (arith, before, now, room);
        served = subst (λ l. IsServed l e) back (passed undone);
      }
