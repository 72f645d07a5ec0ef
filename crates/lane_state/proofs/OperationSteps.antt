-- What an operation is that makes no call, and one that changes no byte.
use Rattle.std.proofs.Common.{◌≡◌, ℕ, Bool, List, Option, false, None, Some, ap, sym, ◌∙◌}
use Rattle.std.specs.FinMap.{FinMap, get}
use Rattle.std.specs.Ordering.{nat_cmp}
use Rattle.busdma_base.specs.declared.journals.answer.Answer.{Answer}
use Rattle.busdma_base.specs.declared.journals.answer.Answer.TheVariants as answer
use Rattle.busdma_machine.specs.declared.report.ReportName.TheVariants.{Absent}
use Rattle.busdma_machine.specs.declared.machine.bio.Bio.{Bio}
use Rattle.busdma_base.specs.declared.scenarios.buffer.Buffer.{Buffer}
use Rattle.busdma_base.specs.declared.scenarios.script.Item.{Item}
use Rattle.busdma_base.specs.declared.scenarios.script.Op.{Op}
use Rattle.busdma_machine.specs.Bounce.Door.{Seen}
use Rattle.ideal_lane.specs.Asking.{Gives}
use Rattle.ideal_lane.specs.Loads.{asked, load}
use Rattle.ideal_lane.specs.Outcomes.{gives, unless_absent}
use Rattle.ideal_lane.specs.State.{LaneState}
use Rattle.ideal_lane.specs.Turns.{bio_at, load_buffer, never_waits, operation}
use Rattle.ideal_wire.specs.WireStep as wires
use Rattle.lane_state.specs.declared.holdings.Answered.{Answered}
use Rattle.lane_state.specs.declared.holdings.Holdings.{Holdings}
use Rattle.lane_state.specs.Changes.{IsWireOf, Becomes, Stays, WithMemory, KeepsBesideMemory, KeepsWhatStays}
use Rattle.lane_state.specs.Doing.{IsDone, asks}
use Rattle.lane_state.specs.Ideal.{given, ideal_of}
use Rattle.lane_state.specs.Wire.{wire_of}
use Rattle.lane_state.specs.MapValues.{map_values}
use Rattle.lane_state.proofs.Doors.{done-gives, unasked}
use Rattle.lane_state.proofs.Keeping.{told-none}
use Rattle.lane_state.proofs.MapValues.{get-map_values}

-- nothing was made at a place, by the ideal table
pub vacant : {X Y : Type 0} (f : X → Y) (m : FinMap nat_cmp X) (k : ℕ) → get (map_values f m) k ≡ None → get m k ≡ None
vacant f m k none = told-none f (get m k) (sym (get-map_values f m k) ∙ none)

-- by another name of the operation
module _ (h k : Holdings) (o p : Op) (same : o ≡ p) where
  module _ (a : Answer) (r : Answered) (is : r ≡ record { answer = a; held = false })
      (done : Gives (given k a) ≡ operation p (ideal_of h)) where
    pub quiet-done : (d : Seen) → IsDone d h.id.0 (operation o (ideal_of h)) (given k r.answer) d
    quiet-done d =
        done-gives d h.id.0 (operation o (ideal_of h)) (given k r.answer)
        (ap (λ q. operation q (ideal_of h)) same ∙ sym done ∙ ap (λ (x : Answered). Gives (given k x.answer)) (sym is))

    pub quiet-held : r.held ≡ asks (operation o (ideal_of h))
    quiet-held =
        ap (λ (x : Answered). x.held) is
        ∙ unasked (operation o (ideal_of h)) (given k a) (ap (λ q. operation q (ideal_of h)) same ∙ sym done)

  -- the bytes of an operation that plainly leaves the wire came and went with their pages
  pub paged-wire : k.memories ≡ h.memories → wires.wire_operation p (ideal_of h) (wire_of h) ≡ wire_of h →
      KeepsWhatStays h k → IsWireOf h k (wires.wire_operation o (ideal_of h) (wire_of h))
  paged-wire memories plain keeps =
      Stays memories (ap (λ q. wires.wire_operation q (ideal_of h) (wire_of h)) same ∙ plain) keeps

  -- a memory came or went
  pub beside-wire : wires.wire_operation p (ideal_of h) (wire_of h) ≡ wire_of h → KeepsBesideMemory h k →
      IsWireOf h k (wires.wire_operation o (ideal_of h) (wire_of h))
  beside-wire plain keeps = WithMemory (ap (λ q. wires.wire_operation q (ideal_of h) (wire_of h)) same ∙ plain) keeps

  -- the bytes after a step are those that the operation makes
  pub done-wire : k.memories ≡ h.memories → wire_of k ≡ wires.wire_operation p (ideal_of h) (wire_of h) →
      IsWireOf h k (wires.wire_operation o (ideal_of h) (wire_of h))
  done-wire memories is = Becomes memories (is ∙ ap (λ q. wires.wire_operation q (ideal_of h) (wire_of h)) (sym same))

-- a load of the bytes of a buffer
pub load-named : (l : LaneState) (m : ℕ) (x : Buffer) (flags : ℕ) (items : List Item) (b : Bio) (nowait : Bool) →
    bio_at l x ≡ Some b → nowait ≡ never_waits x flags →
    load_buffer m x flags items l ≡ load m (asked m b nowait items l) l
load-named l m x flags items b nowait bytes waits =
    ap (λ (c : Option Bio). unless_absent c l (λ d. load m (asked m d (never_waits x flags) items l) l)) bytes
    ∙ ap (λ w. load m (asked m b w items l) l) (sym waits)

-- a load of a buffer in a memory that does not exist
pub load-unnamed : (l : LaneState) (m : ℕ) (x : Buffer) (flags : ℕ) (items : List Item) → bio_at l x ≡ None →
    load_buffer m x flags items l ≡ gives l (answer.Report (record { name = Absent; at = 0 }))
load-unnamed l m x flags items none =
    ap (λ (c : Option Bio). unless_absent c l (λ d. load m (asked m d (never_waits x flags) items l) l)) none
