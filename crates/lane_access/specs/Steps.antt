-- What a step that makes no call makes of a driver's holdings.
use Rattle.std.specs.Prelude.{◌≡◌, List, ℕ, Result, IfOk, OnErr}
use Rattle.std.specs.declared.alloc.AllocError.{AllocError}
use Rattle.busdma_base.specs.declared.journals.answer.Answer.{Answer}
use Rattle.busdma_base.specs.declared.journals.answer.Answer.TheVariants as answer
use Rattle.busdma_machine.specs.Machine.Wire.{Wire}
use Rattle.ideal_lane.specs.Asking.{Asking, Gives}
use Rattle.ideal_lane.specs.Outcomes.{Outcome, gives, unless_unloaded}
use Rattle.ideal_lane.specs.State.{LaneState}
use Rattle.ideal_lane.specs.Syncs as syncs
use Rattle.ideal_wire.specs.WireStep as wires
use Rattle.ideal_wire.specs.WireStep.{Reads}
use Rattle.lane_state.specs.declared.holdings.Holdings.{Holdings}
use Rattle.lane_state.specs.Changes.{KeepsState, with_written}
use Rattle.lane_state.specs.Ideal.{given, ideal_of}
use Rattle.lane_state.specs.Wire.{wire_of}

-- A step that makes no call: the answer and the ideal state are those of `step` of the ideal driver, and the bytes are
-- those of `wire_after`. If memory runs out, the ideal state and all bytes are unchanged. The script, the memories and
-- the agenda are unchanged in any case.
pub record IsLocalStep (step : LaneState → Asking Outcome) (wire_after : LaneState → Wire → Wire) (h k : Holdings)
    (r : Result Answer AllocError) : Type 0 where
  pub done : IfOk r (λ answer. Gives (given k answer) ≡ step (ideal_of h))
  pub wire : IfOk r (λ answer. wire_of k ≡ wire_after (ideal_of h) (wire_of h))
  pub err : OnErr r (KeepsState h k)
  pub script : k.script ≡ h.script
  pub memories : k.memories ≡ h.memories
  pub agenda : k.agenda ≡ h.agenda

-- A step that makes no call and only reads: the answer is that of `step` of the ideal driver, and its bytes are those
-- at these addresses. The ideal state, all bytes, the script, the memories and the agenda are unchanged in any case.
pub record IsReading (step : LaneState → Asking Outcome) (addresses : List ℕ) (h k : Holdings)
    (r : Result Answer AllocError) : Type 0 where
  pub done : IfOk r (λ answer. Gives (given k answer) ≡ step (ideal_of h))
  pub read : IfOk r (λ answer. Reads answer addresses (wire_of h))
  pub wire : wire_of k ≡ wire_of h
  pub kept : KeepsState h k
  pub script : k.script ≡ h.script
  pub memories : k.memories ≡ h.memories
  pub agenda : k.agenda ≡ h.agenda

-- the driver's own bytes at these addresses are written
abbrev pub own_write : List ℕ → List ℕ → LaneState → Asking Outcome
own_write addresses bytes l = gives (with_written addresses bytes l) answer.Done

-- a range of the load of a map is synced
abbrev pub part_sync : ℕ → ℕ → ℕ → ℕ → LaneState → Asking Outcome
part_sync map off len ops l = unless_unloaded map l (λ o. syncs.sync_part map o off len ops l)

-- the wire after a range of the load of a map was synced
abbrev pub wire_part_sync : ℕ → ℕ → ℕ → ℕ → LaneState → Wire → Wire
wire_part_sync map off len ops l w =
    wires.if_done (part_sync map off len ops l) (wires.wire_synced map off len ops l w) w
