-- A ring of descriptors in coherent memory: making it, posting a range of a load to it, and the steps of a device that
-- fetches the next descriptor and does what it says. This project's own.
use Rattle.std.specs.Prelude.{ℕ, ◌+◌, ◌*◌, ◌%◌, ◌==◌, Bool, true, false, not, ◌&&◌, ◌||◌, nat_le, nat_lt, List, [], ◌∷◌}
use Rattle.std.specs.Prelude.{◌++◌, replicate, Option, Some, None, if◌then◌else◌, is_some, slice_get, unwrap_or}
use Rattle.std.specs.FinMap.{get, insert, entries}
use Rattle.std.specs.List.{filter}
use Rattle.busdma_base.specs.declared.journals.answer.Answer.{Answer}
use Rattle.busdma_base.specs.declared.journals.answer.Answer.TheVariants as answer
use Rattle.busdma_base.specs.declared.scenarios.script.Item.{Item}
use Rattle.busdma_base.specs.declared.scenarios.script.Place.{Place}
use Rattle.busdma_base.specs.declared.scenarios.script.Place.TheVariants.{In}
use Rattle.busdma_machine.specs.declared.machine.address.Segment.{Segment}
use Rattle.busdma_machine.specs.declared.report.Errno.TheVariants.{EINVAL}
use Rattle.busdma_machine.specs.declared.report.Judged.{Judged}
use Rattle.busdma_machine.specs.declared.report.Judged.TheVariants.{Fine, Refused}
use Rattle.busdma_machine.specs.declared.report.Report.{Report}
use Rattle.busdma_machine.specs.declared.report.ReportName.TheVariants.{Untranslated}
use Rattle.busdma_base.specs.Scenarios.Queues.{queued_items}
use Rattle.busdma_rules.specs.Lending.Access.{dev_read_answer, dev_write_answer}
use Rattle.busdma_rules.specs.Lending.Loans.{loan_of, load_bytes}
use Rattle.busdma_rules.specs.declared.descriptor.Descriptor.{Descriptor}
use Rattle.busdma_rules.specs.Rings.Descriptors.{descriptor_of, descriptor_bytes}
use Rattle.busdma_rules.specs.Rings.Ranges.{address_of, place_of}
use Rattle.ideal_lane.specs.IdealMemory.{is_known, written}
use Rattle.ideal_lane.specs.State.{LaneState, LaneMap, LaneMemory, LaneRing}
use Rattle.ideal_lane.specs.Accesses.{cpu_write, unless_unread, values}
use Rattle.ideal_lane.specs.Asking.{Asking}
use Rattle.ideal_lane.specs.Loads.{is_device}
use Rattle.ideal_lane.specs.Outcomes.{Outcome, gives, unless_absent, unless_unloaded, unless_past}
use Rattle.ideal_lane.specs.Unloads.{segments_in}

-- Making a ring

-- a ring of so many slots fits into a memory: the memory is coherent, and has the 16 bytes of each slot
abbrev pub fits_in : ℕ → LaneMemory → Bool
fits_in slots x = x.coherent && (nat_le 1 slots && (nat_le slots 256 && nat_le (16 * slots) x.len))

-- the driver with a ring at a place
abbrev pub with_ring : ℕ → LaneRing → LaneState → LaneState
with_ring k r l = record l { rings = insert l.rings k r }

-- ring: a new ring, named by this place of the script, in the first bytes of a memory; its head is at its first slot
abbrev pub ring : ℕ → ℕ → LaneState → Asking Outcome
ring mem slots l =
    unless_absent (get l.mems mem) l (λ x.
    if fits_in slots x
    then gives (with_ring l.place (record { mem = mem; slots = slots; head = 0 }) l) answer.Done
    else gives l (answer.Refused EINVAL))

-- Posting

-- a descriptor may ask this of a device: to read (1) or to write (2), and 1 to 4096 bytes
abbrev pub is_work : ℕ → ℕ → Bool
is_work kind len = (kind == 1 || kind == 2) && (nat_le 1 len && nat_le len 4096)

-- the place of a slot, by which the driver writes it
abbrev pub slot_place : LaneRing → ℕ → Place
slot_place r slot = In r.mem (16 * slot)

-- the descriptor of a range of the load that has these segments: owned by the device, and not done
abbrev pub posted : List Segment → ℕ → ℕ → ℕ → ℕ → Descriptor
posted segments off len kind fill = record {
  addr = unwrap_or (address_of off len segments) 0;
  len = len;
  kind = kind;
  fill = fill;
  owner = 1;
  status = 0;
}

-- a range of a map's load may be posted to a slot of a ring: the ring has such a slot, a descriptor may ask this of a
-- device, the map is neither the ring's own nor one of an IOMMU tag, and the range lies in one segment
abbrev pub may_post : LaneRing → ℕ → ℕ → LaneMap → ℕ → ℕ → ℕ → LaneState → Bool
may_post r slot m o off len kind l =
    nat_lt slot r.slots
    && (is_work kind len && (not (m == r.mem)
    && (not (is_device l o) && is_some (address_of off len (segments_in o.stage)))))

-- ring_post: the driver writes the descriptor as it writes any bytes. The write is never refused, because no load lends
-- a byte of a coherent memory.
abbrev pub ring_post : ℕ → ℕ → ℕ → ℕ → ℕ → ℕ → ℕ → LaneState → Asking Outcome
ring_post k slot m off len kind fill l =
    unless_absent (get l.rings k) l (λ r.
    unless_absent (get l.mems r.mem) l (λ x.
    unless_unloaded m l (λ o. unless_past m off len l (
    if may_post r slot m o off len kind l
    then cpu_write (slot_place r slot) (descriptor_bytes (posted (segments_in o.stage) off len kind fill)) l
    else gives l (answer.Refused EINVAL)))))

-- kick: the steps of the ring's device join the transfer queue
abbrev pub kick : ℕ → List Item → LaneState → Asking Outcome
kick k steps l =
    unless_absent (get l.rings k) l (λ r.
    gives (record l { queue = l.queue ++ queued_items l.place steps }) answer.Done)

-- The device

-- the place in the load of the ring's map of the descriptor at the head
abbrev pub head_at : LaneRing → ℕ
head_at r = 16 * r.head

-- the descriptor at the head that the ideal memory has
abbrev pub head_of : LaneRing → LaneState → Descriptor
head_of r l = descriptor_of (values l (load_bytes l.loans r.mem (head_at r) 16))

-- a candidate: a map, and the place in its load of the bytes that a descriptor names
pub record Candidate : Type 0 where
  pub map : ℕ
  pub off : ℕ

-- a candidate before others, if the map has the bytes at an offset; otherwise only the others
abbrev pub before_others : ℕ → Option ℕ → List Candidate → List Candidate
before_others m None cs = cs
before_others m (Some off) cs = record { map = m; off = off } ∷ cs

-- a map is never a candidate: it is the ring's own, or one of an IOMMU tag
abbrev pub is_left_out : ℕ → LaneState → ℕ × LaneMap → Bool
is_left_out own l e = e.0 == own || is_device l e.1

-- the candidates among these maps, in their order. A map is one if one of its segments has all bytes that the
-- descriptor names; the first such segment counts. A map that is not loaded has no segments.
abbrev pub candidates_in : Descriptor → ℕ → LaneState → List (ℕ × LaneMap) → List Candidate
candidates_in d own l [] = []
candidates_in d own l (e ∷ es) =
    if is_left_out own l e then candidates_in d own l es
    else before_others e.0 (place_of d.addr d.len (segments_in e.1.stage)) (candidates_in d own l es)

-- the candidates for the descriptor at the head of a ring, the first made first
abbrev pub candidates : LaneRing → LaneState → List Candidate
candidates r l = candidates_in (head_of r l) r.mem l (entries l.maps)

-- the judgement of the access at a candidate, by the rules of lending
abbrev pub judged_at : Descriptor → LaneState → Candidate → Judged
judged_at d l c =
    if d.kind == 1 then dev_read_answer (is_known l.memory) (loan_of l.loans c.map) c.off d.len
    else dev_write_answer (loan_of l.loans c.map) c.off d.len

-- the judgement is no refusal
abbrev pub is_fine : Judged → Bool
is_fine Fine = true
is_fine (Refused r) = false

-- the candidates at which the rules of lending allow the access
abbrev pub allowed : Descriptor → LaneState → List Candidate → List Candidate
allowed d l cs = filter (λ c. is_fine (judged_at d l c)) cs

-- the report of a judgement; for one that refuses nothing, that no byte was found
abbrev pub blame_of : Judged → Report
blame_of Fine = record { name = Untranslated; at = 0 }
blame_of (Refused r) = r

-- why the access is refused: by the judgement at this candidate, or Untranslated if there is no candidate
abbrev pub blame : Descriptor → LaneState → Option Candidate → Report
blame d l None = record { name = Untranslated; at = 0 }
blame d l (Some c) = blame_of (judged_at d l c)

-- the driver after its device has written these values to `len` bytes of a map's load, from `off` on
abbrev pub stored : ℕ → ℕ → ℕ → List ℕ → LaneState → LaneState
stored m off len vs l = record l { memory = written (load_bytes l.loans m off len) vs l.memory }

-- the driver after its device has done what the descriptor says, at a candidate
abbrev pub used : Descriptor → Candidate → LaneState → LaneState
used d c l = if d.kind == 1 then l else stored c.map c.off d.len (replicate d.len d.fill) l

-- the answer of the access at a candidate: the bytes that the device read, or Done after a write
abbrev pub told : Descriptor → Candidate → LaneState → Answer
told d c l =
    if d.kind == 1 then answer.Bytes (values l (load_bytes l.loans c.map c.off d.len)) else answer.Done

-- the driver after its device has given the descriptor back to it as done
abbrev pub retired : LaneRing → LaneState → LaneState
retired r l = stored r.mem (head_at r + 14) 2 (0 ∷ 1 ∷ []) l

-- the driver with the ring's head at the next slot, or at the first after the last
abbrev pub moved_on : ℕ → LaneRing → LaneState → LaneState
moved_on k r l = with_ring k (record r { head = (r.head + 1) % r.slots }) l

-- the access at a candidate is done, the descriptor is marked done, and the head goes on
abbrev pub fetched : ℕ → LaneRing → Descriptor → Candidate → LaneState → Outcome
fetched k r d c l = record { lane = moved_on k r (retired r (used d c l)); answer = told d c l }

-- the step at the first candidate that allows the access; if none does, it is refused with the report of the first
-- candidate
abbrev pub at_first : ℕ → LaneRing → Descriptor → List Candidate → Option Candidate → LaneState → Asking Outcome
at_first k r d cs None l = gives l (answer.Report (blame d l (slice_get cs 0)))
at_first k r d cs (Some c) l = gives (fetched k r d c l).lane (fetched k r d c l).answer

-- the step with the descriptor at the head
abbrev pub fetch : ℕ → LaneRing → Descriptor → LaneState → Asking Outcome
fetch k r d l =
    if not (d.owner == 1) then gives l answer.Idle
    else if not (is_work d.kind d.len) then gives l (answer.Refused EINVAL)
    else at_first k r d (candidates r l) (slice_get (allowed d l (candidates r l)) 0) l

-- ring_step: the device reads the descriptor at the head like any bytes of the load of the ring's memory, and does what
-- it says
abbrev pub ring_step : ℕ → LaneState → Asking Outcome
ring_step k l =
    unless_absent (get l.rings k) l (λ r. unless_unread r.mem (head_at r) 16 l (fetch k r (head_of r l) l))

-- What a step that is done works on

-- the ring taken for one that does not exist
abbrev pub no_ring : LaneRing
no_ring = record { mem = 0; slots = 0; head = 0 }

-- the ring that was made at this place of the script
abbrev pub ring_of : LaneState → ℕ → LaneRing
ring_of l k = unwrap_or (get l.rings k) no_ring

-- the candidate that a step uses: the first that allows the access
abbrev pub used_candidate : LaneRing → LaneState → Candidate
used_candidate r l =
    unwrap_or (slice_get (allowed (head_of r l) l (candidates r l)) 0) (record { map = 0; off = 0 })
