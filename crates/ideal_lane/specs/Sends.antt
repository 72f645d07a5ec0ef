-- Sends: a chain that has too many segments is copied to clusters, and these are loaded instead. After the drivers that
-- gather such a chain with m_defrag(9) and load it again; the clusters are this project's own.
use Rattle.std.specs.Prelude.{ℕ, Bool, true, false, List, Option, Some, None, IfSome, if◌then◌else◌, slice_get}
use Rattle.std.specs.List.{AllByRecursion}
use Rattle.std.specs.Option.{option_and_then}
use Rattle.busdma_base.specs.declared.journals.answer.Answer.{Answer}
use Rattle.busdma_base.specs.declared.journals.answer.Answer.TheVariants as answer
use Rattle.busdma_base.specs.declared.scenarios.buffer.Buffer.{Buffer}
use Rattle.busdma_base.specs.declared.scenarios.buffer.Buffer.TheVariants as buffer
use Rattle.busdma_base.specs.declared.scenarios.script.Item.{Item}
use Rattle.busdma_base.specs.declared.scenarios.script.Op.{Op}
use Rattle.busdma_base.specs.declared.scenarios.script.Op.TheVariants as op
use Rattle.busdma_base.specs.Scenarios.Buffers.{HasClusters}
use Rattle.busdma_base.specs.Scenarios.Operations.{about}
use Rattle.busdma_machine.specs.declared.machine.address.Span.{Span}
use Rattle.busdma_machine.specs.declared.machine.bio.Bio.TheVariants.{Vector}
use Rattle.busdma_machine.specs.declared.report.Errno.{Errno}
use Rattle.busdma_machine.specs.declared.report.Errno.TheVariants as errno
use Rattle.busdma_rules.specs.Lending.Access.{cpu_read_answer, cpu_write_answer}
use Rattle.ideal_lane.specs.Accesses.{values}
use Rattle.ideal_lane.specs.Asking.{Asking}
use Rattle.ideal_lane.specs.IdealMemory.{IdealMemory, is_known, written}
use Rattle.ideal_lane.specs.Loads.{asked, load, load_addresses, load_judged}
use Rattle.ideal_lane.specs.Outcomes.{Outcome, unless_busy, unless_refused}
use Rattle.ideal_lane.specs.State.{LaneState}

-- a send whose clusters are enough: its map, its chain, its clusters as a vector of as many bytes, and its items
pub record Send : Type 0 where
  pub map : ℕ
  pub chain : List Span
  pub clusters : List Span
  pub items : List Item

-- the send of a buffer's load, if the buffer is a chain with enough clusters
abbrev pub send_in : ℕ → List Item → Buffer → Option Send
send_in m items (buffer.Flat place len) = None
send_in m items (buffer.Vector spans) = None
send_in m items (buffer.Mbuf chain) = None
send_in m items (buffer.Bio b) = None
send_in m items (buffer.Send chain None) = None
send_in m items (buffer.Send chain (Some clusters)) =
    Some (record { map = m; chain = chain; clusters = clusters; items = items })

-- the send of an operation, if it is a load of a chain with enough clusters
abbrev pub send_of : Op → Option Send
send_of (op.Load map buffer flags items) = send_in map items buffer
send_of (op.Tag name parent limits) = None
send_of (op.IommuTag name limits) = None
send_of (op.TagDestroy tag) = None
send_of (op.Map name tag) = None
send_of (op.MapDestroy map) = None
send_of (op.Dmamem name tag flags) = None
send_of (op.DmamemFree mem) = None
send_of (op.Unload map) = None
send_of (op.Sync map ops) = None
send_of (op.SyncRange map off len ops) = None
send_of (op.CpuRead place len) = None
send_of (op.CpuWrite place bytes) = None
send_of (op.Await map) = None
send_of (op.Ring name mem slots) = None
send_of (op.RingPost ring slot map off len kind fill) = None
send_of (op.Kick ring steps) = None

-- the send at a place of the script, if there is one
abbrev pub send_at : List Op → ℕ → Option Send
send_at script place = option_and_then send_of (slice_get script place)

-- each send of a script has the clusters that the rules on scripts require
abbrev pub HaveClusters : List Op → Type 0
HaveClusters script = AllByRecursion (λ o. IfSome (about o).loads HasClusters) script

-- the send whose resend is due, if one is: it is at the place of the script
abbrev pub due_send : LaneState → Option Send
due_send l = if l.due then send_at l.script l.place else None

-- the errno of a load that has too many segments
abbrev pub is_efbig : Errno → Bool
is_efbig errno.EFBIG = true
is_efbig errno.EINVAL = false
is_efbig errno.ENOMEM = false
is_efbig errno.EINPROGRESS = false
is_efbig errno.EBUSY = false

-- the answer is that a load has too many segments
abbrev pub is_too_big : Answer → Bool
is_too_big (answer.Refused e) = is_efbig e
is_too_big _ = false

-- the callback of a send with this answer is kept: its chain has too many segments, and its clusters are enough
abbrev pub is_kept : Option Send → Answer → Bool
is_kept None a = false
is_kept (Some s) a = is_too_big a

-- the physical addresses of the bytes of a send's chain, in order
abbrev pub chain_bytes : Send → LaneState → List ℕ
chain_bytes s l = load_addresses l (Vector s.chain)

-- the physical addresses of the bytes of a send's clusters, in order
abbrev pub cluster_bytes : Send → LaneState → List ℕ
cluster_bytes s l = load_addresses l (Vector s.clusters)

-- the driver with this ideal memory
abbrev pub with_bytes : IdealMemory → LaneState → LaneState
with_bytes memory l = record l { memory = memory }

-- the outcome whose driver has this ideal memory
abbrev pub outcome_with : IdealMemory → Outcome → Outcome
outcome_with memory o = record { lane = with_bytes memory o.lane; answer = o.answer }

-- the driver after the bytes of a send's chain were copied to its clusters, in order
abbrev pub copied : Send → LaneState → LaneState
copied s l = with_bytes (written (cluster_bytes s l) (values l (chain_bytes s l)) l.memory) l

-- the load of a send's clusters, which never waits
abbrev pub load_again : Send → LaneState → Asking Outcome
load_again s l = load s.map (asked s.map (Vector s.clusters) true s.items l) l

-- the resend of a send: the chain's bytes are copied to the clusters, and these are loaded. It is refused if the
-- clusters must not be loaded, the chain must not be read or the clusters must not be written.
abbrev pub resend : Send → LaneState → Asking Outcome
resend s l =
    unless_busy s.map l (λ o.
    unless_refused (load_judged l s.map (Vector s.clusters)) l (
    unless_refused (cpu_read_answer (is_known l.memory) l.loans (chain_bytes s l)) l (
    unless_refused (cpu_write_answer l.loans (cluster_bytes s l)) l (load_again s (copied s l)))))
