-- The load that a step ends, and when the segments that the step answers are those of the load.
use Rattle.std.specs.Prelude.{◌≡◌, ◌==◌, ℕ, Bool, if◌then◌else◌, length, List, Option, Some, None, slice_get}
use Rattle.std.specs.Prelude.{unwrap_or}
use Rattle.busdma_machine.specs.declared.machine.chunk.Chunk.{Chunk}
use Rattle.busdma_machine.specs.declared.machine.chunk.Entry.{Entry}
use Rattle.busdma_rules.specs.Iommu.Device.{device_chunks, load_frames}
use Rattle.busdma_rules.specs.Iommu.Space.{first_free, translated}
use Rattle.std.specs.FinMap.{get, contains_key}
use Rattle.std.specs.Option.{option_and_then, option_map}
use Rattle.busdma_base.specs.declared.journals.journal.Did.{Did}
use Rattle.busdma_base.specs.declared.journals.journal.Did.TheVariants as did
use Rattle.busdma_machine.specs.declared.machine.address.Segment.{Segment}
use Rattle.busdma_machine.specs.declared.machine.bio.Bio.{Bio}
use Rattle.busdma_base.specs.declared.scenarios.script.Op.{Op}
use Rattle.busdma_base.specs.declared.scenarios.script.Op.TheVariants as op
use Rattle.busdma_machine.specs.Bounce.Account.{Account}
use Rattle.busdma_machine.specs.Bounce.AccountStep.{account_step}
use Rattle.busdma_machine.specs.declared.machine.bio.Bio.TheVariants.{Vector}
use Rattle.ideal_lane.specs.Accesses.{values}
use Rattle.ideal_lane.specs.Asking.{Asking, Gives, Asks}
use Rattle.ideal_lane.specs.Sends.{Send, chain_bytes, cluster_bytes, send_at}
use Rattle.ideal_lane.specs.Loads.{chunks_for, is_device, limits_of, load_addresses, load_entries}
use Rattle.ideal_lane.specs.State.{LaneState, LaneMap, Stage, Idle, Waiting, Loaded, Returning}
use Rattle.ideal_lane.specs.Turns.{Turn, Turned, Stepped, Blocked, Ended, bio_at}
use Rattle.ideal_lane.specs.Unloads.{pages_of}
use Rattle.ideal_wire.specs.Accepted.{IfSegments, IsAcceptedLoad}
use Rattle.ideal_wire.specs.Traces.{stage_at}

-- a load: its map, and the bio that it loads
pub record Load : Type 0 where
  pub map : ℕ
  pub bio : Bio

-- the load that an operation asks for, if it is a load
abbrev pub load_asked_by : Op → LaneState → Option Load
load_asked_by (op.Load map buffer flags items) l =
    option_map (λ b. record { map = map; bio = b }) (bio_at l buffer)
load_asked_by (op.Tag name parent limits) l = None
load_asked_by (op.IommuTag name limits) l = None
load_asked_by (op.TagDestroy tag) l = None
load_asked_by (op.Map name tag) l = None
load_asked_by (op.MapDestroy map) l = None
load_asked_by (op.Dmamem name tag flags) l = None
load_asked_by (op.DmamemFree mem) l = None
load_asked_by (op.Unload map) l = None
load_asked_by (op.Sync map ops) l = None
load_asked_by (op.SyncRange map off len ops) l = None
load_asked_by (op.CpuRead place len) l = None
load_asked_by (op.CpuWrite place bytes) l = None
load_asked_by (op.Await map) l = None
load_asked_by (op.Ring name mem slots) l = None
load_asked_by (op.RingPost ring slot map off len kind fill) l = None
load_asked_by (op.Kick ring steps) l = None

-- the load at a place of the script, if there is one
abbrev pub load_at : LaneState → ℕ → Option Load
load_at l k = option_and_then (λ o. load_asked_by o l) (slice_get l.script k)

-- the place in the script of the load for which a map at this stage waits, or 0 if it does not wait
abbrev pub waited_at : Stage → ℕ
waited_at Idle = 0
waited_at (Waiting w) = w.load_at
waited_at (Loaded bounced segments pages) = 0
waited_at Returning = 0

-- the physical address of the byte that the device of a map finds at a bus address: through the IOMMU if the map is of
-- an IOMMU tag, else the bus address itself
abbrev pub found_at : LaneState → LaneMap → ℕ → Option ℕ
found_at l o a = if is_device l o then translated (l.spaces o.tag) a else Some a

-- the first device page of a load of these entries, or 0 if the load has no frame or finds no free run
abbrev pub first_device_page : LaneState → LaneMap → List Entry → ℕ
first_device_page l o es =
    if length (load_frames es) == 0 then 0 else unwrap_or (first_free (l.spaces o.tag) (length (load_frames es))) 0

-- the chunks of a load of a map: in device pages if its tag is an IOMMU tag, else as the x86 bounce code cuts them
abbrev pub chunks_of_load : LaneState → LaneMap → Bool → List Entry → List Chunk
chunks_of_load l o memory es =
    if is_device l o then device_chunks (first_device_page l o es) 0 es else chunks_for l o memory es

-- a map is loaded with a bio after a step, and these segments are the bytes of this load, in order, and obey the map's
-- tag
pub record AreLoaded (before after : LaneState) (m : ℕ) (b : Bio) (segments : List Segment) : Type 0 where
  pub map : LaneMap
  pub there : get before.maps m ≡ Some map
  pub accepted : IsAcceptedLoad after m (found_at after map) (limits_of before map) (load_addresses before b)
      (chunks_of_load before map (contains_key before.mems m) (load_entries before b))
      (pages_of (stage_at after m)) segments

-- the segments that an operation answers are those of its load; an operation that does not load answers none
abbrev pub AreAnswered : LaneState → LaneState → Option Load → List Segment → Type 0
AreAnswered before after None segments = ⊥
AreAnswered before after (Some x) segments = AreLoaded before after x.map x.bio segments

-- the segments that the resend of a send answers are those of the load of its clusters, and the clusters then have the
-- bytes that the chain had, in order
abbrev pub AreOfClusters : LaneState → LaneState → Option Send → List Segment → Type 0
AreOfClusters before after None segments = ⊥
AreOfClusters before after (Some s) segments =
    AreLoaded before after s.map (Vector s.clusters) segments
    × (values after (cluster_bytes s before) ≡ values before (chain_bytes s before))

-- the segments that a step answers are those of the load that it ended: the operation's, the resend's, or the one for
-- which the map waited; an item and the return of a page answer none
abbrev pub AreOf : LaneState → LaneState → Did → List Segment → Type 0
AreOf before after (did.Op place) segments = AreAnswered before after (load_at before place) segments
AreOf before after (did.Again place) segments = AreOfClusters before after (send_at before.script place) segments
AreOf before after (did.Callback m) segments =
    (b : Bio) × (load_at before (waited_at (stage_at before m.made_at))
    ≡ Some (record { map = m.made_at; bio = b })) × AreLoaded before after m.made_at b segments
AreOf before after (did.Release m page) segments = ⊥
AreOf before after (did.Item place at) segments = ⊥

-- the segments that a turn answers, if it answers any, are those of the load that it ended
abbrev pub AnswersIn : LaneState → LaneState → Turn → Type 0
AnswersIn before after (Stepped e) = IfSegments e.answer (AreOf before after e.did)
AnswersIn before after Blocked = Unit {0}
AnswersIn before after Ended = Unit {0}

-- the segments that a step answers by the account's reply, if any, are those of the load that it ended
abbrev pub AnswersLoads : LaneState → Account → Asking Turned → Type 0
AnswersLoads l a (Gives t) = AnswersIn l t.lane t.turn
AnswersLoads l a (Asks c k) =
    let t : Turned = k (account_step l.id c a).reply in AnswersIn l t.lane t.turn
