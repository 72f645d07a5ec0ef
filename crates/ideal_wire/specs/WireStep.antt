-- What the steps of a driver make of its wire. Pages and the frames of memories come with any bytes, but with zeros if
-- zeros were asked for. Those that go leave the wire, and nothing is said here of the bytes that they take along.
use Rattle.std.specs.Prelude.{◌≡◌, ℕ, ◌+◌, ◌==◌, Bool, true, false, List, [], ◌∷◌, Option, Some, None, map, length}
use Rattle.std.specs.Prelude.{replicate}
use Rattle.std.specs.Prelude.{if◌then◌else◌, is_some, slice_get, unwrap_or}
use Rattle.std.specs.Ordering.{nat_cmp}
use Rattle.std.specs.FinMap.{FinMap, get}
use Rattle.busdma_base.specs.declared.scenarios.script.Op.{Op}
use Rattle.busdma_base.specs.declared.scenarios.script.Op.TheVariants as op
use Rattle.busdma_base.specs.declared.scenarios.script.Item.{Item}
use Rattle.busdma_base.specs.declared.scenarios.script.Item.TheVariants as item
use Rattle.busdma_base.specs.declared.scenarios.script.Place.{Place}
use Rattle.busdma_base.specs.declared.journals.answer.Answer.{Answer}
use Rattle.busdma_base.specs.declared.journals.answer.Answer.TheVariants as answer
use Rattle.busdma_base.specs.declared.journals.journal.Side.{Side}
use Rattle.busdma_base.specs.declared.journals.journal.Side.TheVariants as side
use Rattle.busdma_machine.specs.Machine.Wire.{Wire, Placed, buses, stretch, put, copied_in, copied_out}
use Rattle.busdma_machine.specs.Runs.{run_of}
use Rattle.busdma_base.specs.Scenarios.Operations.{bytes_of}
use Rattle.busdma_rules.specs.Tags.SyncOps.{prewrite, postread}
use Rattle.lane_agreement.specs.View.{Return}
use Rattle.busdma_base.specs.declared.scenarios.queued.QueuedItem.{QueuedItem}
use Rattle.busdma_rules.specs.Lending.Loans.{loan_of}
use Rattle.ideal_lane.specs.State.{LaneState, LaneMap, LaneRing}
use Rattle.ideal_lane.specs.Asking.{Asking, Gives, Asks}
use Rattle.ideal_lane.specs.IdealMemory.{IdealMemory, Known, is_known}
use Rattle.ideal_lane.specs.Outcomes.{Outcome, is_idle, load_length}
use Rattle.ideal_lane.specs.Places.{virtual_at, bytes_at}
use Rattle.ideal_lane.specs.Turns.{waits}
use Rattle.ideal_lane.specs.Accesses as accesses
use Rattle.ideal_lane.specs.Rings as rings
use Rattle.ideal_lane.specs.Sends.{Send, chain_bytes, cluster_bytes, due_send}
use Rattle.ideal_lane.specs.Loads.{load_judged}
use Rattle.busdma_rules.specs.Lending.Access.{cpu_read_answer, cpu_write_answer}
use Rattle.busdma_machine.specs.declared.machine.bio.Bio.TheVariants.{Vector}
use Rattle.busdma_machine.specs.declared.report.Judged.{Judged}
use Rattle.busdma_machine.specs.declared.report.Judged.TheVariants.{Fine, Refused}
use Rattle.ideal_lane.specs.Syncs as syncs
use Rattle.ideal_lane.specs.Unloads.{pages_of, segments_in}
use Rattle.busdma_rules.specs.declared.descriptor.Descriptor.{Descriptor}
use Rattle.busdma_rules.specs.Rings.Descriptors.{descriptor_bytes}
use Rattle.ideal_wire.specs.Traces.{stage_at, stage_in, is_in_pages, traces_of}

-- What is done

-- the wire after a step with this answer: if the answer is not Done, no byte changed
abbrev pub if_answered : Answer → Wire → Wire → Wire
if_answered answer.Done after w = after
if_answered _ after w = w

-- the wire after a step that is done without a call; a step that makes a call changes no byte
abbrev pub if_done : Asking Outcome → Wire → Wire → Wire
if_done (Gives o) after w = if_answered o.answer after w
if_done (Asks c k) after w = w

-- the wire after a sync of these positions: PREWRITE copies the bounced bytes into their bounce pages, and POSTREAD
-- copies them back; PREREAD and POSTWRITE copy nothing
abbrev pub copied_by : ℕ → List Placed → Wire → Wire
copied_by ops ps w = if prewrite ops then copied_in ps w else if postread ops then copied_out ps w else w

-- the wire after a sync of a range of a map's load that is done; a sync of a coherent map copies nothing
abbrev pub wire_synced : ℕ → ℕ → ℕ → ℕ → LaneState → Wire → Wire
wire_synced m off len ops l w =
    if (loan_of l.loans m).coherent then w else copied_by ops (stretch off len (traces_of l m)) w

-- the wire after a sync of the complete load of a map
abbrev pub wire_sync : ℕ → ℕ → LaneState → Wire → Wire
wire_sync m ops l w = if_done (syncs.sync m ops l) (wire_synced m 0 (load_length l m) ops l w) w

-- the wire after a sync of a range of a map's load
abbrev pub wire_sync_range : ℕ → ℕ → ℕ → ℕ → LaneState → Wire → Wire
wire_sync_range m off len ops l w = if_done (syncs.sync_range m off len ops l) (wire_synced m off len ops l w) w

-- the physical addresses of the bytes at a place
abbrev pub place_bytes : LaneState → Place → ℕ → List ℕ
place_bytes l place len = bytes_at l (run_of (unwrap_or (virtual_at l place) 0) len)

-- the wire after the driver writes the bytes at a place
abbrev pub wire_cpu_write : Place → List ℕ → LaneState → Wire → Wire
wire_cpu_write place vs l w = if_done (accesses.cpu_write place vs l) (put (place_bytes l place (length vs)) vs w) w

-- the physical addresses at which the device reaches the bytes of a range of a map's load, in order
abbrev pub load_buses : LaneState → ℕ → ℕ → ℕ → List ℕ
load_buses l m off len = buses (stretch off len (traces_of l m))

-- the wire after the device writes the bytes of a range of a map's load
abbrev pub wire_dev_write : ℕ → ℕ → List ℕ → LaneState → Wire → Wire
wire_dev_write m off vs l w = if_done (accesses.dev_write m off vs l) (put (load_buses l m off (length vs)) vs w) w

-- the wire after the device of an IOMMU tag writes bytes at device addresses: they are written to the buffers' own
-- bytes, because no load of such a tag bounces
abbrev pub wire_dev_write_at : ℕ → ℕ → List ℕ → LaneState → Wire → Wire
wire_dev_write_at t addr vs l w =
    if_done (accesses.dev_write_at t addr vs l) (put (accesses.raw_bytes l t (run_of addr (length vs))) vs w) w

-- the wire after the driver writes a descriptor into a slot of a ring
abbrev pub wire_ring_post : ℕ → ℕ → ℕ → ℕ → ℕ → ℕ → ℕ → LaneState → Wire → Wire
wire_ring_post k slot m off len kind fill l w =
    if_done (rings.ring_post k slot m off len kind fill l)
    (put (place_bytes l (rings.slot_place (rings.ring_of l k) slot) 16)
    (descriptor_bytes (rings.posted (segments_in (stage_at l m)) off len kind fill)) w) w

-- the wire after the device of a ring has done what a descriptor says: if the device writes, the bytes that the
-- descriptor names are written
abbrev pub used_wire : Descriptor → rings.Candidate → LaneState → Wire → Wire
used_wire d c l w = if d.kind == 1 then w else put (load_buses l c.map c.off d.len) (replicate d.len d.fill) w

-- the wire after a step of a ring that was done: the device has done what the descriptor at the head says, and has
-- written the descriptor's owner and status
abbrev pub fetched_wire : LaneRing → LaneState → Wire → Wire
fetched_wire r l w =
    put (load_buses l r.mem (rings.head_at r + 14) 2) (0 ∷ 1 ∷ [])
    (used_wire (rings.head_of r l) (rings.used_candidate r l) l w)

-- the wire after a step of a ring with this answer: if the answer is neither Done nor bytes, no byte changed
abbrev pub if_fetched : Answer → Wire → Wire → Wire
if_fetched answer.Done after w = after
if_fetched (answer.Bytes vs) after w = after
if_fetched _ after w = w

-- the wire after a step of a ring without a call; a step that makes a call changes no byte
abbrev pub if_step_done : Asking Outcome → Wire → Wire → Wire
if_step_done (Gives o) after w = if_fetched o.answer after w
if_step_done (Asks c k) after w = w

-- the wire after a step of a ring
abbrev pub wire_ring_step : ℕ → LaneState → Wire → Wire
wire_ring_step k l w = if_step_done (rings.ring_step k l) (fetched_wire (rings.ring_of l k) l w) w

-- the wire after an operation; only syncs, writes of the driver and posts change a byte
abbrev pub wire_operation : Op → LaneState → Wire → Wire
wire_operation (op.Tag name parent limits) l w = w
wire_operation (op.IommuTag name limits) l w = w
wire_operation (op.TagDestroy tag) l w = w
wire_operation (op.Map name tag) l w = w
wire_operation (op.MapDestroy map) l w = w
wire_operation (op.Dmamem name tag flags) l w = w
wire_operation (op.DmamemFree mem) l w = w
wire_operation (op.Load map buffer flags items) l w = w
wire_operation (op.Unload map) l w = w
wire_operation (op.Sync map ops) l w = wire_sync map ops l w
wire_operation (op.SyncRange map off len ops) l w = wire_sync_range map off len ops l w
wire_operation (op.CpuRead place len) l w = w
wire_operation (op.CpuWrite place bytes) l w = wire_cpu_write place (bytes_of bytes) l w
wire_operation (op.Await map) l w = w
wire_operation (op.Ring name mem slots) l w = w
wire_operation (op.RingPost ring slot map off len kind fill) l w = wire_ring_post ring slot map off len kind fill l w
wire_operation (op.Kick ring steps) l w = w

-- the wire after an item
abbrev pub wire_transfer : Item → LaneState → Wire → Wire
wire_transfer (item.Sync map ops) l w = wire_sync map ops l w
wire_transfer (item.SyncRange map off len ops) l w = wire_sync_range map off len ops l w
wire_transfer (item.DevRead map off len) l w = w
wire_transfer (item.DevWrite map off bytes) l w = wire_dev_write map off (bytes_of bytes) l w
wire_transfer (item.DevReadAt tag addr len) l w = w
wire_transfer (item.DevWriteAt tag addr bytes) l w = wire_dev_write_at tag addr (bytes_of bytes) l w
wire_transfer (item.RingStep ring) l w = wire_ring_step ring l w

-- the wire after the next operation of the script, if there is one and it does not wait
abbrev pub wire_next_operation : Option Op → LaneState → Wire → Wire
wire_next_operation None l w = w
wire_next_operation (Some o) l w = if waits o l then w else wire_operation o l w

-- the wire after a step that changes it, unless the judgement before the step is a refusal
abbrev pub if_fine : Judged → Wire → Wire → Wire
if_fine Fine after w = after
if_fine (Refused r) after w = w

-- the wire in which the clusters of a send have the bytes of its chain, in order
abbrev pub wire_copied : Send → LaneState → Wire → Wire
wire_copied s l w = put (cluster_bytes s l) (map w (chain_bytes s l)) w

-- a map exists and is idle
abbrev pub is_free : Option LaneMap → Bool
is_free None = false
is_free (Some o) = is_idle o.stage

-- the wire after a resend: unless it was refused before, it has copied, whatever comes of the load of the clusters
abbrev pub wire_resend : Send → LaneState → Wire → Wire
wire_resend s l w =
    if is_free (get l.maps s.map) then (
    if_fine (load_judged l s.map (Vector s.clusters)) (
    if_fine (cpu_read_answer (is_known l.memory) l.loans (chain_bytes s l)) (
    if_fine (cpu_write_answer l.loans (cluster_bytes s l)) (wire_copied s l w) w) w) w) else w

-- the wire after the resend that is due, or else after the next operation
abbrev pub wire_due_turn : Option Send → LaneState → Wire → Wire
wire_due_turn None l w = wire_next_operation (slice_get l.script l.place) l w
wire_due_turn (Some s) l w = wire_resend s l w

-- the wire after the script's turn; the return of a page changes no byte
abbrev pub wire_script_turn : List Return → LaneState → Wire → Wire
wire_script_turn [] l w = wire_due_turn (due_send l) l w
wire_script_turn (r ∷ rest) l w = w

-- the wire after the first item of the transfer queue, if there is one
abbrev pub wire_transfer_turn : List QueuedItem → LaneState → Wire → Wire
wire_transfer_turn [] l w = w
wire_transfer_turn (q ∷ rest) l w = wire_transfer q.item l w

-- the wire after the turn of a side
abbrev pub wire_lane_step : LaneState → Side → Wire → Wire
wire_lane_step l side.Script w = wire_script_turn l.returns l w
wire_lane_step l side.Transfer w = wire_transfer_turn l.queue l w
wire_lane_step l side.Callback w = w

-- What comes and goes

-- beyond the step's own writes, which `w` has already, no byte changes that is the driver's before and after the step
abbrev pub KeepsOwn : IdealMemory → IdealMemory → Wire → Wire → Type 0
KeepsOwn before after w w' =
    (a : ℕ) → is_some (before a) ≡ true → is_some (after a) ≡ true → w' a ≡ w a

-- beyond the step's own writes, which `w` has already, no byte changes of a page that a map holds before and after the
-- step
abbrev pub KeepsPages : FinMap nat_cmp LaneMap → FinMap nat_cmp LaneMap → Wire → Wire → Type 0
KeepsPages before after w w' =
    (m a : ℕ) → is_in_pages (pages_of (stage_in (get before m))) a ≡ true →
    is_in_pages (pages_of (stage_in (get after m))) a ≡ true → w' a ≡ w a

-- a byte that came to the driver and is Known has its Known value in the wire
abbrev pub BringsKnown : IdealMemory → IdealMemory → Wire → Type 0
BringsKnown before after w' = (a v : ℕ) → before a ≡ None → after a ≡ Some (Known v) → w' a ≡ v

-- The wire `w'` after a step, if `w` has the step's own writes already: beyond these, no byte changes that is the
-- driver's before and after the step. Pages came with any bytes, and frames of memories with what is Known of them.
pub record Follows (before after : LaneState) (w w' : Wire) : Type 0 where
  pub own : KeepsOwn before.memory after.memory w w'
  pub pages : KeepsPages before.maps after.maps w w'
  pub known : BringsKnown before.memory after.memory w'

-- What is read

-- if an answer has bytes, they are the bytes of the wire at these addresses
abbrev pub Reads : Answer → List ℕ → Wire → Type 0
Reads (answer.Bytes vs) addresses w = vs ≡ map w addresses
Reads _ addresses w = Unit {0}

-- if a step answers bytes, they are the bytes of the wire at these addresses
abbrev pub IsRead : Asking Outcome → List ℕ → Wire → Type 0
IsRead (Gives o) addresses w = Reads o.answer addresses w
IsRead (Asks c k) addresses w = Unit {0}
