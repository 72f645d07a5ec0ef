-- What was last written to each byte of a driver, by the entries of a journal. The driver's tables say where the bytes
-- are, and no ideal memory is used.
use Rattle.std.specs.Prelude.{◌≡◌, ℕ, ◌+◌, ◌==◌, List, [], ◌∷◌, map, length, replicate, Option, Some, None}
use Rattle.std.specs.Prelude.{if◌then◌else◌}
use Rattle.std.specs.Prelude.{slice_get, unwrap_or}
use Rattle.std.specs.FinMap.{entries, get}
use Rattle.std.specs.List.{Contains, filter}
use Rattle.busdma_machine.specs.Bounce.MemoryRuns.{in_run}
use Rattle.busdma_machine.specs.Machine.Wire.{put}
use Rattle.busdma_machine.specs.Runs.{run_of}
use Rattle.busdma_base.specs.declared.journals.answer.Answer.{Answer}
use Rattle.busdma_base.specs.declared.journals.answer.Answer.TheVariants as answer
use Rattle.busdma_base.specs.declared.journals.journal.Did.{Did}
use Rattle.busdma_base.specs.declared.journals.journal.Did.TheVariants as did
use Rattle.busdma_base.specs.declared.journals.journal.JournalEntry.{JournalEntry}
use Rattle.busdma_base.specs.declared.scenarios.queued.QueuedItem.{QueuedItem}
use Rattle.busdma_base.specs.declared.scenarios.script.Item.{Item}
use Rattle.busdma_base.specs.declared.scenarios.script.Item.TheVariants as item
use Rattle.busdma_base.specs.declared.scenarios.script.Op.{Op}
use Rattle.busdma_base.specs.declared.scenarios.script.Op.TheVariants as op
use Rattle.busdma_base.specs.declared.scenarios.scenario.Scenario.{Scenario}
use Rattle.busdma_base.specs.Journals.Reports.{is_report}
use Rattle.busdma_base.specs.Scenarios.Operations.{bytes_of}
use Rattle.busdma_rules.specs.declared.descriptor.Descriptor.{Descriptor}
use Rattle.busdma_rules.specs.Lending.Access.{dev_write_answer}
use Rattle.busdma_rules.specs.Lending.Loans.{load_bytes, loan_of}
use Rattle.busdma_rules.specs.Rings.Descriptors.{descriptor_bytes, descriptor_of}
use Rattle.busdma_rules.specs.Tags.MemFlags.{zero_filled}
use Rattle.ideal_lane.specs.Accesses.{raw_bytes}
use Rattle.ideal_lane.specs.Rings.{Candidate, candidates_in, head_at, is_fine, posted, ring_of, slot_place}
use Rattle.ideal_lane.specs.Sends.{Send, chain_bytes, cluster_bytes, send_at}
use Rattle.ideal_lane.specs.State.{LaneMemory, LaneRing, LaneState}
use Rattle.ideal_lane.specs.Unloads.{segments_in}
use Rattle.ideal_wire.specs.Traces.{stage_at}
use Rattle.ideal_wire.specs.WireStep.{Reads, if_answered, if_fetched, place_bytes}
use Rattle.ideal_world.specs.Legal.{Leads}
use Rattle.ideal_world.specs.World.{WorldState, opening_world, step}

-- the value that was last written at each physical address
abbrev pub Written : Type 0
Written = ℕ → ℕ

-- the bytes of a memory, if there is one, are written with 0
abbrev pub zeroed : Option LaneMemory → Written → Written
zeroed None w a = w a
zeroed (Some x) w a = if in_run x.first x.count a then 0 else w a

-- what an operation with this answer writes, from one state of the driver to the next: the driver's bytes, a
-- descriptor, or the zeros of a memory
abbrev pub by_operation : Op → Answer → LaneState → LaneState → Written → Written
by_operation (op.CpuWrite place bytes) a l after w =
    if_answered a (put (place_bytes l place (length (bytes_of bytes))) (bytes_of bytes) w) w
by_operation (op.RingPost ring slot map off len kind fill) a l after w =
    if_answered a (put (place_bytes l (slot_place (ring_of l ring) slot) 16)
    (descriptor_bytes (posted (segments_in (stage_at l map)) off len kind fill)) w) w
by_operation (op.Dmamem name tag flags) a l after w = if zero_filled flags then zeroed (get after.mems l.place) w else w
by_operation (op.Tag name parent limits) a l after w = w
by_operation (op.IommuTag name limits) a l after w = w
by_operation (op.TagDestroy tag) a l after w = w
by_operation (op.Map name tag) a l after w = w
by_operation (op.MapDestroy map) a l after w = w
by_operation (op.DmamemFree mem) a l after w = w
by_operation (op.Load map buffer flags items) a l after w = w
by_operation (op.Unload map) a l after w = w
by_operation (op.Sync map ops) a l after w = w
by_operation (op.SyncRange map off len ops) a l after w = w
by_operation (op.CpuRead place len) a l after w = w
by_operation (op.Await map) a l after w = w
by_operation (op.Ring name mem slots) a l after w = w
by_operation (op.Kick ring steps) a l after w = w

-- the descriptor at the head of a ring, as it was last written
abbrev pub head_written : LaneRing → LaneState → Written → Descriptor
head_written r l w = descriptor_of (map w (load_bytes l.loans r.mem (head_at r) 16))

-- the candidates for the descriptor at the head of a ring, as it was last written
abbrev pub candidates_written : LaneRing → LaneState → Written → List Candidate
candidates_written r l w = candidates_in (head_written r l w) r.mem l (entries l.maps)

-- the first of these candidates at which the device may write what the descriptor names
abbrev pub first_writable : Descriptor → LaneState → List Candidate → Candidate
first_writable d l cs =
    unwrap_or (slice_get (filter (λ c. is_fine (dev_write_answer (loan_of l.loans c.map) c.off d.len)) cs) 0)
    (record { map = 0; off = 0 })

-- what the device of a ring writes at a candidate, if the descriptor asks for a write
abbrev pub by_descriptor : Descriptor → Candidate → LaneState → Written → Written
by_descriptor d c l w = if d.kind == 1 then w else put (load_bytes l.loans c.map c.off d.len) (replicate d.len d.fill) w

-- what a step of a ring writes: the bytes that the descriptor names, and then the descriptor's owner and status
abbrev pub by_ring : LaneRing → LaneState → Written → Written
by_ring r l w =
    put (load_bytes l.loans r.mem (head_at r + 14) 2) (0 ∷ 1 ∷ [])
    (by_descriptor (head_written r l w) (first_writable (head_written r l w) l (candidates_written r l w)) l w)

-- what an item with this answer writes for its device
abbrev pub by_item : Item → Answer → LaneState → Written → Written
by_item (item.DevWrite map off bytes) a l w =
    if_answered a (put (load_bytes l.loans map off (length (bytes_of bytes))) (bytes_of bytes) w) w
by_item (item.DevWriteAt tag addr bytes) a l w =
    if_answered a (put (raw_bytes l tag (run_of addr (length (bytes_of bytes)))) (bytes_of bytes) w) w
by_item (item.RingStep ring) a l w = if_fetched a (by_ring (ring_of l ring) l w) w
by_item (item.Sync map ops) a l w = w
by_item (item.SyncRange map off len ops) a l w = w
by_item (item.DevRead map off len) a l w = w
by_item (item.DevReadAt tag addr len) a l w = w

-- what a resend with this answer writes: the chain's bytes into the clusters, unless it is a report
abbrev pub by_send : Option Send → Answer → LaneState → Written → Written
by_send None a l w = w
by_send (Some s) a l w = if is_report a then w else put (cluster_bytes s l) (map w (chain_bytes s l)) w

-- what the operation at a place writes, if there is one
abbrev pub by_next : Option Op → Answer → LaneState → LaneState → Written → Written
by_next None a l after w = w
by_next (Some o) a l after w = by_operation o a l after w

-- what the first item of the queue writes, if there is one
abbrev pub by_first : List QueuedItem → Answer → LaneState → Written → Written
by_first [] a l w = w
by_first (q ∷ rest) a l w = by_item q.item a l w

-- what is written by what was done; the return of a page and a callback write nothing
abbrev pub by_did : Did → Answer → LaneState → LaneState → Written → Written
by_did (did.Op place) a l after w = by_next (slice_get l.script place) a l after w
by_did (did.Again place) a l after w = by_send (send_at l.script place) a l w
by_did (did.Release map page) a l after w = w
by_did (did.Callback map) a l after w = w
by_did (did.Item load_at place) a l after w = by_first l.queue a l w

-- what an entry writes to the bytes of the driver of this number, if the entry is the driver's
abbrev pub by_entry : ℕ → JournalEntry → Option LaneState → Option LaneState → Written → Written
by_entry i e (Some l) (Some after) w = if e.actor.lane.0 == i then by_did e.did e.answer l after w else w
by_entry i e (Some l) None w = w
by_entry i e None after w = w

-- what was last written to the bytes of a driver after entries that lead on from a world
abbrev pub last_written : ℕ → WorldState → List JournalEntry → Written → Written
last_written i w [] last = last
last_written i w (e ∷ es) last =
    let after : WorldState = (step w e.actor).world in
    last_written i after es (by_entry i e (slice_get w.lanes i) (slice_get after.lanes i) last)

-- ---- reads

-- P holds of the bytes that an answer has, if it has bytes
abbrev pub IfBytes : Answer → (List ℕ → Type 0) → Type 0
IfBytes (answer.Bytes vs) P = P vs
IfBytes _ P = Unit {0}

-- a step of a ring answers what was last written at one of the candidates for its descriptor
pub record ReadsCandidate (r : LaneRing) (l : LaneState) (w : Written) (vs : List ℕ) : Type 0 where
  pub candidate : Candidate
  pub among : Contains (candidates_written r l w) candidate
  pub bytes : vs ≡ map w (load_bytes l.loans candidate.map candidate.off (head_written r l w).len)

-- the answer of an operation that reads has what was last written at the bytes that it reads
abbrev pub ReadsNext : Option Op → Answer → LaneState → Written → Type 0
ReadsNext (Some (op.CpuRead place len)) a l w = Reads a (place_bytes l place len) w
ReadsNext _ a l w = Unit {0}

-- the answer of an item that reads has what was last written at the bytes that it reads
abbrev pub ReadsItem : Item → Answer → LaneState → Written → Type 0
ReadsItem (item.DevRead map off len) a l w = Reads a (load_bytes l.loans map off len) w
ReadsItem (item.DevReadAt tag addr len) a l w = Reads a (raw_bytes l tag (run_of addr len)) w
ReadsItem (item.RingStep ring) a l w = IfBytes a (ReadsCandidate (ring_of l ring) l w)
ReadsItem _ a l w = Unit {0}

-- the answer of the first item of the queue, if it reads, has what was last written there
abbrev pub ReadsFirst : List QueuedItem → Answer → LaneState → Written → Type 0
ReadsFirst [] a l w = Unit {0}
ReadsFirst (q ∷ rest) a l w = ReadsItem q.item a l w

-- the answer of what was done, if it reads, has what was last written there
abbrev pub ReadsLast : Did → Answer → LaneState → Written → Type 0
ReadsLast (did.Op place) a l w = ReadsNext (slice_get l.script place) a l w
ReadsLast (did.Again place) a l w = Unit {0}
ReadsLast (did.Release map page) a l w = Unit {0}
ReadsLast (did.Callback map) a l w = Unit {0}
ReadsLast (did.Item load_at place) a l w = ReadsFirst l.queue a l w

-- an entry answers what the entries before it last wrote; these lead from the opening to the driver as it is then
pub record AnswersLast (s : Scenario) (before : List JournalEntry) (e : JournalEntry) : Type 0 where
  pub world : WorldState
  pub leads : Leads (opening_world s) before world
  pub lane : LaneState
  pub there : slice_get world.lanes e.actor.lane.0 ≡ Some lane
  pub reads : ReadsLast e.did e.answer lane (last_written e.actor.lane.0 (opening_world s) before (λ a. 0))
