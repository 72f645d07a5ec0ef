-- The turn in which a page goes back to its zone, if one is there.
use Rattle.std.proofs.Common.{◌≡◌, ◌≤◌, ◌+◌, true, List, [], ◌∷◌, length, map, refl, sym, subst, arith}
use Rattle.busdma_base.specs.declared.journals.answer.Answer.TheVariants as answer
use Rattle.busdma_base.specs.declared.journals.journal.Did.TheVariants as did
use Rattle.busdma_base.specs.declared.journals.journal.Side.TheVariants as side
use Rattle.busdma_machine.specs.Bounce.Door.{Seen}
use Rattle.busdma_machine.specs.Machine.Wire.{Wire}
use Rattle.lane_tables.specs.declared.queued.QueuedPage.{QueuedPage}
use Rattle.ideal_lane.specs.State.{LaneState}
use Rattle.ideal_lane.specs.Turns.{lane_step, script_turn, stepped}
use Rattle.ideal_wire.specs.WireStep as wires
use Rattle.lane_state.specs.declared.holdings.Holdings.{Holdings}
use Rattle.lane_turns.specs.declared.returns.Released.{Released}
use Rattle.lane_turns.specs.declared.turn.Turn.{Turn}
use Rattle.lane_turns.specs.declared.turn.Turn.TheVariants as turn
use Rattle.lane_state.specs.Changes.{KeepsBytes, Stays}
use Rattle.lane_state.specs.Doing.{IsDone, asks}
use Rattle.lane_state.specs.Ideal.{given, ideal_of}
use Rattle.lane_state.specs.Kept.{return_of}
use Rattle.lane_turns.specs.TakenTurns.{IsTurnOf}
use Rattle.lane_state.specs.Wire.{wire_of}
use Rattle.lane_state.proofs.Following.{stays-all}
use Rattle.lane_turns.proofs.TurnEnds.{done-turned}

-- if a page is to go back, the turn makes a call and changes no byte
asks-there : (rs : List QueuedPage) (l : LaneState) → 1 ≤ length rs → asks (script_turn (map return_of rs) l) ≡ true
asks-there [] l h = absurd (omega (arith, h))
asks-there (r ∷ rest) l h = refl

still-there : (rs : List QueuedPage) (l : LaneState) (w : Wire) → 1 ≤ length rs →
    wires.wire_script_turn (map return_of rs) l w ≡ w
still-there [] l w h = absurd (omega (arith, h))
still-there (r ∷ rest) l w h = refl

-- what the return of a page makes
pub back-made : (h k : Holdings) (d e : Seen) (r : Released) →
    IsDone d h.id.0 (lane_step (ideal_of h) side.Script)
    (stepped side.Script (did.Release r.map r.page) (given k (answer.Served r.served))) e →
    1 ≤ length h.agenda.returns → KeepsBytes h k → k.memories ≡ h.memories → k.agenda.length ≡ h.agenda.length →
    k.agenda.room ≡ h.agenda.room → k.agenda.queue ≡ h.agenda.queue → (t : Turn) →
    t ≡ turn.Stepped (record {
      actor = record { lane = k.id; side = side.Script };
      did = did.Release r.map r.page;
      answer = answer.Served r.served;
    }) true → IsTurnOf h k d e side.Script t
back-made h k d e r done there bytes memories same_length same_room same_queue t is = subst (IsTurnOf h k d e
    side.Script)
    (sym is) (record {
      done = done-turned d h.id.0 (lane_step (ideal_of h) side.Script) _ true e done
          (sym (asks-there h.agenda.returns (ideal_of h) there));
      wire = Stays memories (still-there h.agenda.returns (ideal_of h) (wire_of h) there) (stays-all h k bytes);
      places = same_length;
      capacity = λ i. same_room i + length (same_queue i);
    })
