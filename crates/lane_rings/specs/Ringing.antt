-- The steps of a ring's device and the postings to a ring, by what a driver holds.
use Rattle.std.specs.Prelude.{◌≡◌, ℕ, ◌+◌, ◌≤◌, true, false, List, [], ◌∷◌, Option, Some, None, if◌then◌else◌}
use Rattle.std.specs.Prelude.{Result, IfOk, OnErr, slice_get}
use Rattle.std.specs.declared.alloc.AllocError.{AllocError}
use Rattle.std.specs.FinMap.{get}
use Rattle.std.specs.Option.{option_map}
use Rattle.busdma_base.specs.declared.journals.answer.Answer.{Answer}
use Rattle.busdma_base.specs.declared.journals.answer.Answer.TheVariants as answer
use Rattle.busdma_base.specs.declared.scenarios.script.Item.{Item}
use Rattle.busdma_machine.specs.Machine.Wire.{Wire, put}
use Rattle.busdma_machine.specs.declared.report.Judged.TheVariants.{Fine}
use Rattle.busdma_machine.specs.declared.report.Report.{Report}
use Rattle.busdma_rules.specs.Lending.Access.{dev_read_answer}
use Rattle.busdma_rules.specs.Lending.Loans.{loan_of}
use Rattle.busdma_rules.specs.declared.descriptor.Descriptor.{Descriptor}
use Rattle.busdma_rules.specs.Rings.Ranges.{place_of}
use Rattle.ideal_lane.specs.Accesses.{unless_unread}
use Rattle.ideal_lane.specs.Asking.{Asking, Gives}
use Rattle.ideal_lane.specs.IdealMemory.{is_known}
use Rattle.ideal_lane.specs.Outcomes.{Outcome, gives, is_loaded, load_length}
use Rattle.ideal_lane.specs.Rings as rings
use Rattle.ideal_lane.specs.Rings.{allowed, blame, is_left_out, judged_at, may_post, posted}
use Rattle.ideal_lane.specs.State.{LaneState, LaneMap, LaneRing}
use Rattle.ideal_lane.specs.Unloads.{segments_in}
use Rattle.ideal_wire.specs.WireStep as wires
use Rattle.lane_state.specs.declared.holdings.Holdings.{Holdings}
use Rattle.lane_state.specs.Changes.{KeepsAgenda, KeepsBytes, KeepsState}
use Rattle.lane_state.specs.Ideal.{given, ideal_of}
use Rattle.lane_state.specs.Wire.{wire_of}
use Rattle.lane_rings.specs.declared.posts.Posting.{Posting}
use Rattle.lane_rings.specs.declared.rings.Candidate.{Candidate}
use Rattle.lane_rings.specs.declared.rings.Work.{Work}
use Rattle.lane_rings.specs.declared.rings.Work.TheVariants.{Refused, At}

-- What is read

-- the device's read of `len` bytes of a map's load, from `off` on, is refused with this report
abbrev pub IsUnread : LaneState → ℕ → ℕ → ℕ → Report → Type 0
IsUnread l m off len r = (step : Asking Outcome) → unless_unread m off len l step ≡ gives l (answer.Report r)

-- the device may read `len` bytes of a map's load, from `off` on
pub record IsReadable (l : LaneState) (m off len : ℕ) : Type 0 where
  pub map : LaneMap
  pub there : get l.maps m ≡ Some map
  pub loaded : is_loaded map.stage ≡ true
  pub range : off + len ≤ load_length l m
  pub fine : dev_read_answer (is_known l.memory) (loan_of l.loans m) off len ≡ Fine

-- What is done

-- the ideal driver's candidate of a candidate of the code
abbrev pub candidate_of : Candidate → rings.Candidate
candidate_of c = record { map = c.map; off = c.off }

-- the candidate of a map for a descriptor, if the map has one
abbrev pub candidate_in : Descriptor → ℕ → LaneState → ℕ × LaneMap → Option rings.Candidate
candidate_in d own l e =
    if is_left_out own l e then None
    else option_map (λ off. record { map = e.0; off = off }) (place_of d.addr d.len (segments_in e.1.stage))

-- the rules of lending allow the access of a descriptor at this candidate, whose map is loaded and has the range
pub record IsAllowedAt (l : LaneState) (d : Descriptor) (c : Candidate) : Type 0 where
  pub map : LaneMap
  pub there : get l.maps c.map ≡ Some map
  pub loaded : is_loaded map.stage ≡ true
  pub range : c.off + d.len ≤ load_length l c.map
  pub fine : judged_at d l (candidate_of c) ≡ Fine

-- the work at this candidate, if there is one, or else this refusal
abbrev pub at_or_refused : Option rings.Candidate → Report → Work
at_or_refused None r = Refused r
at_or_refused (Some c) r = At (record { map = c.map; off = c.off })

-- where the device of a ring does what a descriptor says: at the first of these candidates that allows it, or else the
-- refusal
abbrev pub work_of : Descriptor → LaneState → List rings.Candidate → Work
work_of d l cs = at_or_refused (slice_get (allowed d l cs) 0) (blame d l (slice_get cs 0))

-- a fact of the candidate, if the work is not refused
abbrev pub IfAt : Work → (Candidate → Type 0) → Type 0
IfAt (Refused r) P = Unit {0}
IfAt (At c) P = P c

-- what the device does at this candidate, as the ideal driver has it
abbrev pub use_step : Descriptor → Candidate → LaneState → Asking Outcome
use_step d c l = gives (rings.used d (candidate_of c) l) (rings.told d (candidate_of c) l)

-- the wire after the descriptor at the head of a ring was marked done and given back
abbrev pub retired_wire : LaneRing → LaneState → Wire → Wire
retired_wire r l w = put (wires.load_buses l r.mem (rings.head_at r + 14) 2) (0 ∷ 1 ∷ []) w

-- the ideal state and the bytes become what these two say, and the script, the memories and the agenda are unchanged
pub record IsChanged (lane_after : LaneState → LaneState) (wire_after : LaneState → Wire → Wire) (h k : Holdings) :
    Type 0 where
  pub done : ideal_of k ≡ lane_after (ideal_of h)
  pub wire : wire_of k ≡ wire_after (ideal_of h) (wire_of h)
  pub script : k.script ≡ h.script
  pub memories : k.memories ≡ h.memories
  pub agenda : k.agenda ≡ h.agenda

-- What is posted

-- the post of this to a ring, as the ideal driver has it
abbrev pub post_step : ℕ → Posting → LaneState → Asking Outcome
post_step ring p = rings.ring_post ring p.slot p.map p.off p.len p.kind p.fill

-- the wire after the post of this to a ring
abbrev pub post_wire : ℕ → Posting → LaneState → Wire → Wire
post_wire ring p = wires.wire_ring_post ring p.slot p.map p.off p.len p.kind p.fill

-- the bytes of a map may be posted to a ring, and this is their descriptor
pub record IsPosted (l : LaneState) (r : LaneRing) (p : Posting) (d : Descriptor) : Type 0 where
  pub map : LaneMap
  pub there : get l.maps p.map ≡ Some map
  pub may : may_post r p.slot p.map map p.off p.len p.kind l ≡ true
  pub is : d ≡ posted (segments_in map.stage) p.off p.len p.kind p.fill

-- the bytes of a map cannot be posted to a ring
abbrev pub IsUnposted : LaneState → LaneRing → Posting → Type 0
IsUnposted l r p = (o : LaneMap) → get l.maps p.map ≡ Some o → may_post r p.slot p.map o p.off p.len p.kind l ≡ false

-- What is kicked

-- A ring is kicked for these steps: the answer and the ideal state are the ideal driver's, and the items take free
-- places of the transfer queue. If memory runs out, the ideal state and the agenda are unchanged. All bytes, the script,
-- the memories and the promised places of the return queue are unchanged in any case.
pub record IsKicked (ring : ℕ) (steps : List Item) (h k : Holdings) (r : Result Answer AllocError) : Type 0 where
  pub done : IfOk r (λ answer. Gives (given k answer) ≡ rings.kick ring steps (ideal_of h))
  pub bytes : KeepsBytes h k
  pub err : OnErr r (KeepsState h k)
  pub unpromised : OnErr r (k.agenda ≡ h.agenda)
  pub agenda : KeepsAgenda h k
  pub promised : k.agenda.promised ≡ h.agenda.promised
  pub script : k.script ≡ h.script
  pub memories : k.memories ≡ h.memories
