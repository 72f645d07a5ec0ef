-- What a turn that was made, or that ran out of memory, leaves a driver with.
use Rattle.std.proofs.Common.{◌≡◌, ◌+◌, ◌≤◌, false, Result, Ok, Err, IfOk, OnOk, OnErr, length}
use Rattle.std.proofs.Common.{refl, sym, ap, ◌∙◌, subst, arith}
use Rattle.busdma_base.specs.declared.journals.journal.Side.{Side}
use Rattle.busdma_base.specs.declared.journals.journal.Side.TheVariants as side
use Rattle.busdma_machine.specs.Bounce.Door.{Seen}
use Rattle.ideal_lane.specs.Asking.{Gives}
use Rattle.ideal_lane.specs.Turns.{lane_step}
use Rattle.ideal_wire.specs.Apart.{IsApart}
use Rattle.ideal_wire.specs.Laid.{AreLaid}
use Rattle.ideal_wire.specs.WireStep.{Follows}
use Rattle.ideal_wire.specs.WireStep as wires
use Rattle.lane_state.specs.declared.holdings.Holdings.{Holdings}
use Rattle.lane_turns.specs.declared.turn.Turn.{Turn}
use Rattle.lane_state.specs.Changes.{Becomes, KeepsState}
use Rattle.lane_state.specs.Doing.{IsUndone}
use Rattle.lane_state.specs.Ideal.{ideal_of}
use Rattle.lane_turns.specs.TakenTurns.{IsTurnOf, IsReady, IsTurned, is_held, turn_taken}
use Rattle.lane_state.specs.Wire.{IsWired, wire_of}
use Rattle.lane_state.proofs.Following.{follows, stays-all}
use Rattle.lane_turns.proofs.MadeTurns.{end-wire, made-ready, wanting-ready}
use Rattle.lane_turns.proofs.TurnEnds.{end-own}

-- a turn that was made keeps the script
pub made-script : (h k : Holdings) (d e : Seen) (s : Side) (t : Turn) → IsReady h d → IsTurnOf h k d e s t →
    k.script ≡ h.script
made-script h k d e s t ready made =
    let own = end-own h k s d e ready.stands ready.wired ready.served (turn_taken k t) (is_held t) made.done refl in
    own.same_script

-- what follows from the same driver at the same door
module _ {E : Type 0} (h k n : Holdings) (d e f : Seen) (s : Side) (same : k ≡ h) (seen : e ≡ d) where
  pub made-from : (r : Result Turn E) → IfOk r (IsTurnOf k n e f s) → IfOk r (IsTurnOf h n d f s)
  made-from (Ok t) made = subst (λ (x : Holdings). IsTurnOf x n d f s t) same (subst (λ y. IsTurnOf k n y f s t) seen
      made)
  made-from (Err x) made = tt

-- the turn of the device, which makes no call
pub transfer-made : (h k : Holdings) (d : Seen) (t : Turn) →
    Gives (turn_taken k t) ≡ lane_step (ideal_of h) side.Transfer → is_held t ≡ false →
    wire_of k ≡ wires.wire_lane_step (ideal_of h) side.Transfer (wire_of h) → k.memories ≡ h.memories →
    k.agenda.length ≡ h.agenda.length →
    k.agenda.room + length k.agenda.queue ≡ h.agenda.room + length h.agenda.queue →
    IsTurnOf h k d d side.Transfer t
transfer-made h k d t done unheld wire memories places capacity = record {
  done = subst (λ step. IsTurned d h.id.0 step (turn_taken k t) (is_held t) d) done (refl, unheld, refl);
  wire = Becomes memories wire;
  places = places;
  capacity = capacity;
}

-- the turn of the device, if it was made
pub transfer-all : {E : Type 0} (h k : Holdings) (d : Seen) (r : Result Turn E) →
    IfOk r (λ t. Gives (turn_taken k t) ≡ lane_step (ideal_of h) side.Transfer) → IfOk r (λ t. is_held t ≡ false) →
    OnOk r (wire_of k ≡ wires.wire_lane_step (ideal_of h) side.Transfer (wire_of h)) → k.memories ≡ h.memories →
    k.agenda.length ≡ h.agenda.length →
    k.agenda.room + length k.agenda.queue ≡ h.agenda.room + length h.agenda.queue →
    IfOk r (IsTurnOf h k d d side.Transfer)
transfer-all h k d (Ok t) done unheld wire memories places capacity =
    transfer-made h k d t done unheld wire memories places capacity
transfer-all h k d (Err x) done unheld wire memories places capacity = tt

-- if memory ran out, the transfer queue has at least its room
pub same-room : (h k : Holdings) → KeepsState h k →
    k.agenda.room + length k.agenda.queue ≡ h.agenda.room + length h.agenda.queue → h.agenda.room ≤ k.agenda.room
same-room h k s capacity =
    let queue : length k.agenda.queue ≡ length h.agenda.queue = ap (λ l. length l.queue) s.ideal in
    omega (arith, queue, capacity)

-- ---- after any turn

module _ {E : Type 0} (h k : Holdings) (d e : Seen) (s : Side) (ready : IsReady h d) where
  -- the driver is ready
  pub ready-after : (r : Result Turn E) → IfOk r (IsTurnOf h k d e s) → OnErr r (KeepsState h k) →
      OnErr r (h.agenda.room ≤ k.agenda.room) → OnErr r (IsUndone d e) → IsReady k e
  ready-after (Ok t) made same room undone = made-ready h k d e s t ready made
  ready-after (Err x) made same room undone = wanting-ready h k d e ready same room undone

  -- the driver's script is the same
  pub script-after : (r : Result Turn E) → IfOk r (IsTurnOf h k d e s) → OnErr r (KeepsState h k) →
      k.script ≡ h.script
  script-after (Ok t) made same = made-script h k d e s t ready made
  script-after (Err x) made same = ap (λ l. l.script) same.ideal

  -- the driver's script is as long as before
  pub length-after : (r : Result Turn E) → IfOk r (IsTurnOf h k d e s) → OnErr r (KeepsState h k) →
      k.agenda.length ≡ h.agenda.length → h.agenda.length ≡ length h.script →
      k.agenda.length ≡ length k.script
  length-after r made same places before = places ∙ before ∙ sym (ap length (script-after r made same))

  -- the driver's wire is the step's, except for pages that came and went
  pub follows-after : (r : Result Turn E) → IfOk r (IsTurnOf h k d e s) →
      OnOk r (Follows (ideal_of h) (ideal_of k) (wires.wire_lane_step (ideal_of h) s (wire_of h)) (wire_of k))
  follows-after (Ok t) made = end-wire h k d e s t ready made made.wire
  follows-after (Err x) made = tt

-- if memory ran out, no byte changed
pub kept-follows : (h k : Holdings) → IsWired h → KeepsState h k →
    Follows (ideal_of h) (ideal_of k) (wire_of h) (wire_of k)
kept-follows h k wired s =
    let back = sym s.ideal in
    follows h k wired.laid wired.apart (subst AreLaid back wired.laid) (subst IsApart back wired.apart)
    (stays-all h k s.bytes) (ap (λ l. l.pages) s.ideal) (ap (λ l. l.mems) s.ideal)
