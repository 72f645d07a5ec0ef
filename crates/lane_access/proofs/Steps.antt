-- Steps that make no call, by what they are.
use Rattle.std.proofs.Common.{◌≡◌, List, ℕ, Result, Ok, Err, IfOk, IsErr, refl, sym, ap, ◌∙◌, subst}
use Rattle.std.specs.declared.alloc.AllocError.{AllocError}
use Rattle.busdma_base.specs.declared.journals.answer.Answer.{Answer}
use Rattle.busdma_base.specs.declared.journals.answer.Answer.TheVariants as answer
use Rattle.busdma_machine.specs.declared.report.Report.{Report}
use Rattle.busdma_machine.specs.Machine.Wire.{Wire}
use Rattle.ideal_lane.specs.Asking.{Asking, Gives}
use Rattle.ideal_lane.specs.Outcomes.{Outcome, gives}
use Rattle.ideal_lane.specs.State.{LaneState}
use Rattle.ideal_wire.specs.WireStep.{Reads, if_done}
use Rattle.lane_state.specs.declared.holdings.Holdings.{Holdings}
use Rattle.lane_state.specs.Changes.{KeepsState}
use Rattle.lane_state.specs.Ideal.{given, ideal_of}
use Rattle.lane_state.specs.Wire.{wire_of}
use Rattle.lane_state.proofs.Doors.{ok-map, on-err}
use Rattle.lane_state.proofs.Keeping.{bytes-same}
use Rattle.lane_access.specs.Steps.{IsReading, IsLocalStep}
use Rattle.lane_access.proofs.CpuWrites.{wire-idle}

-- what holds in any case holds of a value that was made
pub always : {T E : Type 0} (r : Result T E) (Q : Type 0) → Q → IfOk r (λ x. Q)
always (Ok x) Q q = q
always (Err e) Q q = tt

-- what leaves all holdings leaves the state
pub same-state : (h : Holdings) → KeepsState h h
same-state h = record { ideal = refl; bytes = bytes-same h }

-- a step that is done
pub done-step : {step : LaneState → Asking Outcome} {wired : LaneState → Wire → Wire} {h k : Holdings} {a : Answer} →
    gives (ideal_of k) a ≡ step (ideal_of h) → wire_of k ≡ wired (ideal_of h) (wire_of h) → k.script ≡ h.script →
    k.memories ≡ h.memories → k.agenda ≡ h.agenda → IsLocalStep step wired h k (Ok a)
done-step done wire script memories agenda =
    record { done = done; wire = wire; err = tt; script = script; memories = memories; agenda = agenda }

-- a step that leaves all holdings
pub idle-step : (step : LaneState → Asking Outcome) (wired : LaneState → Wire → Wire) (h : Holdings) (a b : Answer) →
    a ≡ b → gives (ideal_of h) b ≡ step (ideal_of h) → wire_of h ≡ wired (ideal_of h) (wire_of h) →
    IsLocalStep step wired h h (Ok a)
idle-step step wired h a b told is stays = done-step (ap (gives (ideal_of h)) told ∙ is) stays refl refl refl

-- a step that is refused with this report
pub refused-step : (step : LaneState → Asking Outcome) (after : LaneState → Wire → Wire) (h : Holdings) (a : Answer)
    (r : Report) → a ≡ answer.Report r → gives (ideal_of h) (answer.Report r) ≡ step (ideal_of h) →
    IsLocalStep step (λ l w. if_done (step l) (after l w) w) h h (Ok a)
refused-step step after h a r told is =
    idle-step step (λ l w. if_done (step l) (after l w) w) h a (answer.Report r) told is
    (wire-idle (ideal_of h) r (step (ideal_of h)) (after (ideal_of h) (wire_of h)) (wire_of h) is)

-- a step for which memory ran out
pub failed-step : (step : LaneState → Asking Outcome) (wired : LaneState → Wire → Wire) (h k : Holdings)
    (r : Result Answer AllocError) → IsErr r → KeepsState h k → k.script ≡ h.script → k.memories ≡ h.memories →
    k.agenda ≡ h.agenda → IsLocalStep step wired h k r
failed-step step wired h k (Ok a) failed state script memories agenda = absurd (cc)
failed-step step wired h k (Err e) failed state script memories agenda =
    record { done = tt; wire = tt; err = state; script = script; memories = memories; agenda = agenda }

-- a step by another name
pub same-step : (s t : LaneState → Asking Outcome) (v w : LaneState → Wire → Wire) (h k : Holdings)
    (r : Result Answer AllocError) → s (ideal_of h) ≡ t (ideal_of h) →
    v (ideal_of h) (wire_of h) ≡ w (ideal_of h) (wire_of h) → IsLocalStep s v h k r → IsLocalStep t w h k r
same-step s t v w h k r same wires x = record {
  done = ok-map r (λ a. Gives (given k a) ≡ s (ideal_of h)) (λ a. Gives (given k a) ≡ t (ideal_of h)) (λ a e. e ∙ same)
      x.done;
  wire = ok-map r (λ (a : Answer). wire_of k ≡ v (ideal_of h) (wire_of h))
      (λ (a : Answer). wire_of k ≡ w (ideal_of h) (wire_of h)) (λ a e. e ∙ wires) x.wire;
  err = x.err;
  script = x.script;
  memories = x.memories;
  agenda = x.agenda;
}

-- a step that only reads leaves all bytes
pub read-step : (s : LaneState → Asking Outcome) (addresses : List ℕ) (h k : Holdings) (r : Result Answer AllocError) →
    IsReading s addresses h k r → IsLocalStep s (λ l w. w) h k r
read-step s addresses h k r x = record {
  done = x.done;
  wire = always r (wire_of k ≡ wire_of h) x.wire;
  err = on-err r x.kept;
  script = x.script;
  memories = x.memories;
  agenda = x.agenda;
}

-- a read that is done
pub done-reading : {step : LaneState → Asking Outcome} {addresses : List ℕ} {h k : Holdings} {a : Answer} →
    gives (ideal_of k) a ≡ step (ideal_of h) → Reads a addresses (wire_of h) → wire_of k ≡ wire_of h →
    KeepsState h k → k.script ≡ h.script → k.memories ≡ h.memories → k.agenda ≡ h.agenda →
    IsReading step addresses h k (Ok a)
done-reading done read wire kept script memories agenda = record {
  done = done;
  read = read;
  wire = wire;
  kept = kept;
  script = script;
  memories = memories;
  agenda = agenda;
}

-- a read that is refused with this report
pub refused-reading : (step : LaneState → Asking Outcome) (addresses : List ℕ) (h : Holdings) (a : Answer)
    (r : Report) → a ≡ answer.Report r → gives (ideal_of h) (answer.Report r) ≡ step (ideal_of h) →
    IsReading step addresses h h (Ok a)
refused-reading step addresses h a r told is =
    done-reading (ap (gives (ideal_of h)) told ∙ is) (subst (λ b. Reads b addresses (wire_of h)) (sym told) tt) refl
    (same-state h) refl refl refl
