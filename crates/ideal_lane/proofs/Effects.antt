-- What a driver can do to its state: one case for each effect of a step, with what is known when it comes about. The
-- effects are at the end: `Touches` has those without a call, `Makes` has all of them, in the order of
-- `Turns.operation`, and `Steps` has those of turns. `Stepping` shows that each operation, item and callback has one of
-- them, so what holds after each effect holds after each step.
use Rattle.std.proofs.Common.{◌≡◌, ℕ, ◌+◌, ◌==◌, ◌&&◌, ◌%◌, Bool, true, false, if◌then◌else◌, List, [], ◌∷◌, ◌++◌}
use Rattle.std.proofs.Common.{length, Option, Some, None, nat_le, nat_lt, refl, slice_get, subst}
use Rattle.std.specs.Prelude.{replicate}
use Rattle.std.specs.FinMap.{get, insert, remove, contains_key}
use Rattle.busdma_machine.specs.declared.bounce.hold.HubCall.{HubCall}
use Rattle.busdma_machine.specs.declared.bounce.hold.HubCall.TheVariants as call
use Rattle.busdma_machine.specs.declared.bounce.hold.HubReply.{HubReply}
use Rattle.busdma_machine.specs.declared.bounce.hold.HubReply.TheVariants as reply
use Rattle.busdma_base.specs.declared.journals.answer.Answer.{Answer}
use Rattle.busdma_base.specs.declared.journals.answer.Answer.TheVariants as answer
use Rattle.busdma_base.specs.declared.journals.journal.Did.TheVariants as did
use Rattle.busdma_base.specs.declared.journals.journal.Side.{Side}
use Rattle.busdma_base.specs.declared.journals.journal.Side.TheVariants as side
use Rattle.busdma_machine.specs.declared.report.Errno.{Errno}
use Rattle.busdma_machine.specs.declared.report.Judged.TheVariants.{Fine, Refused}
use Rattle.busdma_machine.specs.declared.report.Report.{Report}
use Rattle.busdma_machine.specs.declared.bounce.zone.Grown.{Grown}
use Rattle.busdma_machine.specs.declared.machine.address.Pa.{Pa}
use Rattle.busdma_machine.specs.declared.machine.bio.Bio.{Bio}
use Rattle.busdma_machine.specs.declared.machine.bio.Bio.TheVariants.{Vector}
use Rattle.busdma_machine.specs.declared.machine.chunk.Chunk.{Chunk}
use Rattle.busdma_machine.specs.declared.name.MapId.{MapId}
use Rattle.busdma_base.specs.declared.scenarios.buffer.Buffer.{Buffer}
use Rattle.busdma_base.specs.declared.scenarios.buffer.Buffer.TheVariants as buffer
use Rattle.busdma_base.specs.declared.scenarios.script.Item.{Item}
use Rattle.busdma_base.specs.declared.scenarios.script.Item.TheVariants as item
use Rattle.busdma_base.specs.declared.scenarios.script.Op.{Op}
use Rattle.busdma_base.specs.declared.scenarios.script.Op.TheVariants as op
use Rattle.busdma_base.specs.declared.scenarios.script.Place.{Place}
use Rattle.busdma_base.specs.declared.scenarios.script.Bytes.{Bytes}
use Rattle.busdma_machine.specs.declared.tags.tag.SpaceLimits.{SpaceLimits}
use Rattle.busdma_machine.specs.declared.tags.tag.TagLimits.{TagLimits}
use Rattle.busdma_machine.specs.Bounce.Account.{Account}
use Rattle.busdma_machine.specs.Bounce.AccountStep.{account_step}
use Rattle.busdma_machine.specs.declared.report.ReportName.TheVariants.{Absent, DeviceWriteUnlent, MapBusy}
use Rattle.busdma_machine.specs.Judging.{judged}
use Rattle.busdma_machine.specs.Machine.Spans.{span_bytes}
use Rattle.busdma_machine.specs.Runs.{run_of}
use Rattle.busdma_base.specs.Journals.Reports.{is_report}
use Rattle.busdma_base.specs.Scenarios.Operations.{bytes_of}
use Rattle.busdma_machine.specs.Tags.Tag.{effective, could_bounce, space_limits}
use Rattle.busdma_machine.specs.Tags.TagFlags.{allocnow}
use Rattle.busdma_rules.specs.Tags.LoadFlags.{load_nowait_bit}
use Rattle.busdma_rules.specs.Tags.SyncOps.{is_mixed}
use Rattle.lane_agreement.specs.After.{addresses_of_pages}
use Rattle.lane_agreement.specs.View.{Return}
use Rattle.busdma_base.specs.declared.scenarios.queued.QueuedItem.{QueuedItem}
use Rattle.busdma_base.specs.Scenarios.Queues.{queued_items}
use Rattle.busdma_rules.specs.Lending.Access.{cpu_read_answer, cpu_write_answer, dev_read_answer, dev_write_answer}
use Rattle.busdma_rules.specs.Lending.Access.{dev_write_refusal}
use Rattle.busdma_rules.specs.Lending.SyncEffects.{sync_answer, synced, lost}
use Rattle.busdma_rules.specs.Lending.Loans.{loan_of, load_bytes}
use Rattle.busdma_rules.specs.declared.descriptor.Descriptor.{Descriptor}
use Rattle.busdma_rules.specs.Rings.Descriptors.{descriptor_bytes}
use Rattle.busdma_rules.specs.Iommu.Device.{device_chunks, load_frames}
use Rattle.busdma_rules.specs.Iommu.Space.{Space, first_free}
use Rattle.busdma_rules.specs.Segments.Chunks.{need_of}
use Rattle.ideal_lane.specs.State.{LaneState, LaneTag, LaneMap, LaneMemory, LaneRing, Stage, Waiting, WaitingLoad}
use Rattle.ideal_lane.specs.State.{named}
use Rattle.ideal_lane.specs.State.{no_space}
use Rattle.ideal_lane.specs.Accesses.{raw_bytes, raw_refusal}
use Rattle.ideal_lane.specs.IdealMemory.{is_known, written, forgotten}
use Rattle.ideal_lane.specs.Loads.{Asked, are_few, asked, limits_of, chunks_for, granted, is_device, ended}
use Rattle.ideal_lane.specs.Loads.{load_judged, unpaged, waiting_load, with_run, with_spaces, zone_of_map}
use Rattle.ideal_lane.specs.Maps.{bounces, with_map, without_map}
use Rattle.ideal_lane.specs.Memories.{memory_by_reply, without_memory}
use Rattle.ideal_lane.specs.Outcomes.{Outcome, is_idle, is_loaded}
use Rattle.ideal_lane.specs.Outcomes.{load_length}
use Rattle.ideal_lane.specs.Places.{virtual_at, first_unreached, bytes_at}
use Rattle.ideal_lane.specs.Rings.{Candidate, allowed, candidates, fetched, fits_in, head_at, head_of, is_work}
use Rattle.ideal_lane.specs.Rings.{may_post}
use Rattle.ideal_lane.specs.Rings.{moved_on, posted, retired, slot_place, stored, told, used, with_ring}
use Rattle.ideal_lane.specs.Sends.{Send, chain_bytes, cluster_bytes, copied, due_send, is_too_big, send_of}
use Rattle.ideal_lane.specs.Syncs.{copies, counted}
use Rattle.ideal_lane.specs.Tags.{with_tag, with_device_tag, has_maps, with_space}
use Rattle.ideal_lane.specs.Turns.{Turn, Turned, Blocked, Ended, stays, stepped, bio_at}
use Rattle.ideal_lane.specs.Turns.{never_waits, waits, advanced, kept, resent, maps_completed, left_queue}
use Rattle.ideal_lane.specs.Unloads.{loan_forgotten, unmapped, pages_of, segments_in, restaged, after_return}
use Rattle.ideal_lane.proofs.Endings.{fits, fitting, too_big}

-- what a step does: an operation, an item, or the callback of a map
pub data Work : Type 0 where
  Operation : Op → Work
  Transfer : Item → Work
  Callback : MapId → Work

-- an operation that is done is the one at the place of the script
abbrev pub IsNext : LaneState → Work → Type 0
IsNext l (Operation o) = slice_get l.script l.place ≡ Some o
IsNext l (Transfer i) = Unit {0}
IsNext l (Callback m) = Unit {0}

-- the reply is what the account gives to the driver's call, if it made one
abbrev pub IsReplyOf : ℕ → Account → Option HubCall → HubReply → Type 0
IsReplyOf lane a None r = Unit {0}
IsReplyOf lane a (Some c) r = (account_step lane c a).reply ≡ r

-- ---- what is known where an effect comes about

-- a reply makes no tag or map
abbrev pub IsUnmade : HubReply → Type 0
IsUnmade (reply.Grown g) = g.made ≡ false
IsUnmade _ = Unit {0}

-- a reply places no memory
abbrev pub IsUnplaced : HubReply → Type 0
IsUnplaced (reply.Run first count) = ⊥
IsUnplaced _ = Unit {0}

-- a reply brings no pages, and no wait for them
abbrev pub IsUngranted : HubReply → Type 0
IsUngranted (reply.Granted pages) = ⊥
IsUngranted (reply.Queued have) = ⊥
IsUngranted _ = Unit {0}

-- a reply brings no callback
abbrev pub IsUncalled : HubReply → Type 0
IsUncalled (reply.Called m pages) = ⊥
IsUncalled _ = Unit {0}

-- an answer has no segments
abbrev pub IsQuiet : Answer → Type 0
IsQuiet (answer.Segments ss) = ⊥
IsQuiet _ = Unit {0}

-- an answer does not say that something was done
abbrev pub IsUndone : Answer → Type 0
IsUndone answer.Done = ⊥
IsUndone _ = Unit {0}

-- an answer has no segments and is no report
abbrev pub IsUntold : Answer → Type 0
IsUntold (answer.Segments ss) = ⊥
IsUntold (answer.Report x) = ⊥
IsUntold _ = Unit {0}

-- a map at this stage has no load that waits
abbrev pub IsUnwaiting : Stage → Type 0
IsUnwaiting (Waiting v) = ⊥
IsUnwaiting _ = Unit {0}

-- a map does not exist, or has no load that waits
abbrev pub IsUnwaited : Option LaneMap → Type 0
IsUnwaited None = Unit {0}
IsUnwaited (Some o) = IsUnwaiting o.stage

-- these are the effective limits of a new tag, perhaps below a parent
pub data IsNew (l : LaneState) : Option ℕ → TagLimits → TagLimits → Type 0 where
  Top : (limits t : TagLimits) → effective None limits ≡ Some t → IsNew l None limits t
  Below : (p : ℕ) (x : LaneTag) (limits t : TagLimits) → get l.tags p ≡ Some x →
      effective (Some x.limits) limits ≡ Some t → IsNew l (Some p) limits t

-- the reply to a call brings nothing: no tag, no map and no memory, or a callback although no load waits
pub data IsVain (l : LaneState) : Work → HubCall → HubReply → Type 0 where
  Unattached : {name : List ℕ} {parent : Option ℕ} {limits : TagLimits} {r : HubReply} (t : TagLimits) →
      (could_bounce t l.maxmem && allocnow t.flags) ≡ true → IsUnmade r →
      IsVain l (Operation (op.Tag name parent limits)) (call.AttachTag t) r
  Uncreated : {name : List ℕ} {t : ℕ} {r : HubReply} (g : LaneTag) → bounces l.maxmem g ≡ true → IsUnmade r →
      IsVain l (Operation (op.Map name t)) (call.CreateMap (named l l.place) g.limits g.first_done) r
  Unplaced : {name : List ℕ} {t flags : ℕ} {r : HubReply} (g : LaneTag) → IsUnplaced r →
      IsVain l (Operation (op.Dmamem name t flags)) (call.MemAlloc (named l l.place) g.limits) r
  Unwaited : (m : MapId) (pages : List Pa) → IsUnwaited (get l.maps m.made_at) →
      IsVain l (Callback m) call.TakeCallback (reply.Called m pages)

-- an operation begins a load of a buffer: the map exists and is idle, and its bytes may be loaded
pub record Begins (l : LaneState) (d : Work) : Type 0 where
  pub m : ℕ
  pub buffer : Buffer
  pub flags : ℕ
  pub items : List Item
  pub is : d ≡ Operation (op.Load m buffer flags items)
  pub bio : Bio
  pub found : bio_at l buffer ≡ Some bio
  pub o : LaneMap
  pub there : get l.maps m ≡ Some o
  pub idle : is_idle o.stage ≡ true
  pub fine : load_judged l m bio ≡ Fine

module _ {l : LaneState} {d : Work} (b : Begins l d) where
  abbrev pub asks : Asked
  asks = asked b.m b.bio (never_waits b.buffer b.flags) b.items l

  abbrev pub chunks : List Chunk
  chunks = chunks_for l b.o (contains_key l.mems b.m) asks.entries

  -- the frames of the load
  abbrev pub frames : List ℕ
  frames = load_frames asks.entries

  -- what the map keeps while the load waits
  abbrev pub waits_for : WaitingLoad
  waits_for = waiting_load l asks chunks

  abbrev pub grab : HubCall
  grab = call.Grab (named l b.m) (record { 0 = zone_of_map b.o }) (need_of chunks) asks.nowait

  pub here : IsNext l d → slice_get l.script l.place ≡ Some (op.Load b.m b.buffer b.flags b.items)
  here at = subst (IsNext l) b.is at

-- a load that has begun is refused: it is longer than the tag allows, the reply to its call brings neither pages nor a
-- wait, or its map is of an IOMMU tag and no run of so many device pages is free
pub data IsOver {l : LaneState} {d : Work} (b : Begins l d) : Option HubCall → HubReply → Type 0 where
  TooLong : {r : HubReply} → nat_lt (limits_of l b.o).maxsize (asks b).len ≡ true → IsOver b None r
  Ungranted : {r : HubReply} → is_device l b.o ≡ false → (need_of (chunks b) == 0) ≡ false → IsUngranted r →
      IsOver b (Some (grab b)) r
  NoRun : {r : HubReply} → is_device l b.o ≡ true → first_free (l.spaces b.o.tag) (length (frames b)) ≡ None →
      IsOver b None r

-- a load of an IOMMU tag's map has its run of device pages, and the address spaces are these; one of no byte takes none
pub data IsTaken {l : LaneState} {d : Work} (b : Begins l d) : ℕ → (ℕ → Space) → Type 0 where
  NoFrame : (length (frames b) == 0) ≡ true → IsTaken b 0 l.spaces
  Run : (length (frames b) == 0) ≡ false → (first : ℕ) →
      first_free (l.spaces b.o.tag) (length (frames b)) ≡ Some first →
      IsTaken b first (with_run (are_few (limits_of l b.o) (device_chunks first 0 (asks b).entries)) b.o.tag first
      (frames b) l.spaces)

-- a load has its pages: it needs none, the reply to its call brings them, or its callback does; or its map is of an
-- IOMMU tag
pub data Ends (l : LaneState) : Work → Option HubCall → HubReply → Type 0 where
  AtOnce : {d : Work} {r : HubReply} (b : Begins l d) → is_device l b.o ≡ false → (need_of (chunks b) == 0) ≡ true →
      Ends l d None r
  Granted : {d : Work} (b : Begins l d) → is_device l b.o ≡ false → (need_of (chunks b) == 0) ≡ false →
      (pages : List Pa) →
      Ends l d (Some (grab b)) (reply.Granted pages)
  Called : (m : MapId) (pages : List Pa) (o : LaneMap) (v : WaitingLoad) → get l.maps m.made_at ≡ Some o →
      o.stage ≡ Waiting v → Ends l (Callback m) (Some call.TakeCallback) (reply.Called m pages)
  Device : {d : Work} {r : HubReply} (b : Begins l d) → is_device l b.o ≡ true → (first : ℕ) (spaces : ℕ → Space) →
      IsTaken b first spaces → Ends l d None r

-- of a load that has its pages: its map, the map's stage before, its place in the script, what it asks for, its chunks,
-- and its pages
module _ {l : LaneState} where
  abbrev pub map_in : {d : Work} {c : Option HubCall} {r : HubReply} → Ends l d c r → ℕ
  map_in (AtOnce b plain e) = b.m
  map_in (Granted b plain e pages) = b.m
  map_in (Called m pages o v e w) = m.made_at
  map_in (Device b device first spaces taken) = b.m

  abbrev pub was_in : {d : Work} {c : Option HubCall} {r : HubReply} → Ends l d c r → LaneMap
  was_in (AtOnce b plain e) = b.o
  was_in (Granted b plain e pages) = b.o
  was_in (Called m pages o v e w) = o
  was_in (Device b device first spaces taken) = b.o

  abbrev pub place_in : {d : Work} {c : Option HubCall} {r : HubReply} → Ends l d c r → ℕ
  place_in (AtOnce b plain e) = l.place
  place_in (Granted b plain e pages) = l.place
  place_in (Called m pages o v e w) = v.load_at
  place_in (Device b device first spaces taken) = l.place

  abbrev pub asked_in : {d : Work} {c : Option HubCall} {r : HubReply} → Ends l d c r → Asked
  asked_in (AtOnce b plain e) = asks b
  asked_in (Granted b plain e pages) = asks b
  asked_in (Called m pages o v e w) = asked m.made_at v.bio false v.items l
  asked_in (Device b device first spaces taken) = asks b

  abbrev pub chunks_in : {d : Work} {c : Option HubCall} {r : HubReply} → Ends l d c r → List Chunk
  chunks_in (AtOnce b plain e) = chunks b
  chunks_in (Granted b plain e pages) = chunks b
  chunks_in (Called m pages o v e w) =
      chunks_for l o (contains_key l.mems m.made_at) (asked m.made_at v.bio false v.items l).entries
  chunks_in (Device b device first spaces taken) = device_chunks first 0 (asks b).entries

  -- the address spaces after the load
  abbrev pub spaces_in : {d : Work} {c : Option HubCall} {r : HubReply} → Ends l d c r → ℕ → Space
  spaces_in (AtOnce b plain e) = l.spaces
  spaces_in (Granted b plain e pages) = l.spaces
  spaces_in (Called m pages o v e w) = l.spaces
  spaces_in (Device b device first spaces taken) = spaces

  abbrev pub pages_in : {d : Work} {c : Option HubCall} {r : HubReply} → Ends l d c r → List ℕ
  pages_in (AtOnce b plain e) = []
  pages_in (Granted b plain e pages) = addresses_of_pages pages
  pages_in (Called m pages o v e w) = addresses_of_pages pages
  pages_in (Device b device first spaces taken) = []

  pub there_in : {d : Work} {c : Option HubCall} {r : HubReply} (k : Ends l d c r) →
      get l.maps (map_in k) ≡ Some (was_in k)
  there_in (AtOnce b plain e) = b.there
  there_in (Granted b plain e pages) = b.there
  there_in (Called m pages o v e w) = e
  there_in (Device b device first spaces taken) = b.there

-- an operation or an item syncs a range of a map's load
pub data IsSync (l : LaneState) : Work → ℕ → ℕ → ℕ → ℕ → Type 0 where
  Whole : (m ops : ℕ) → IsSync l (Operation (op.Sync m ops)) m 0 (load_length l m) ops
  Range : (m off len ops : ℕ) → IsSync l (Operation (op.SyncRange m off len ops)) m off len ops
  WholeItem : (m ops : ℕ) → IsSync l (Transfer (item.Sync m ops)) m 0 (load_length l m) ops
  RangeItem : (m off len ops : ℕ) → IsSync l (Transfer (item.SyncRange m off len ops)) m off len ops

-- the call that ends a map, if it has a zone
abbrev pub end_call : LaneState → ℕ → Option ℕ → Option HubCall
end_call l m None = None
end_call l m (Some z) = Some (call.DestroyMap (named l m) (record { 0 = z }))

-- the driver after the sync of a range of a map's load
abbrev pub after_sync : LaneState → ℕ → LaneMap → ℕ → ℕ → ℕ → LaneState
after_sync l m o off len ops = record l {
  loans = synced l.loans m off len ops;
  memory = forgotten (lost l.loans m off len ops) l.memory;
  shares = counted (copies off len ops o.stage) o.zone l.shares;
}

-- the driver after a write of bytes
abbrev pub after_write : LaneState → List ℕ → List ℕ → LaneState
after_write l bytes vs = record l { memory = written bytes vs l.memory }

-- the step of a ring's device is done at a candidate: the ring's map is loaded and has the descriptor at the head, with
-- all its bytes Known; the descriptor is the device's and asks for what one may ask; and this is the first candidate
-- that allows the access
pub record Fetching (l : LaneState) (k : ℕ) : Type 0 where
  pub r : LaneRing
  pub ring : get l.rings k ≡ Some r
  pub o : LaneMap
  pub there : get l.maps r.mem ≡ Some o
  pub loaded : is_loaded o.stage ≡ true
  pub within : nat_le (head_at r + 16) (load_length l r.mem) ≡ true
  pub fine : dev_read_answer (is_known l.memory) (loan_of l.loans r.mem) (head_at r) 16 ≡ Fine
  pub owned : ((head_of r l).owner == 1) ≡ true
  pub work : is_work (head_of r l).kind (head_of r l).len ≡ true
  pub c : Candidate
  pub first : slice_get (allowed (head_of r l) l (candidates r l)) 0 ≡ Some c

-- the driver after the step of a ring's device: the bytes of its memory, and the ring's head
abbrev pub after_fetch : LaneState → ℕ → LaneRing → Descriptor → Candidate → LaneState
after_fetch l k r d c = record l {
  memory = (retired r (used d c l)).memory;
  rings = insert l.rings k (record r { head = (r.head + 1) % r.slots });
}

pub fetched-is : (l : LaneState) (k : ℕ) (r : LaneRing) (d : Descriptor) (c : Candidate) →
    (fetched k r d c l).lane ≡ after_fetch l k r d c
fetched-is l k r d c = by (d.kind == 1)
  where
    by : (b : Bool) → moved_on k r (retired r (if b then l else stored c.map c.off d.len (replicate d.len d.fill) l))
        ≡ record l {
          memory = (retired r (if b then l else stored c.map c.off d.len (replicate d.len d.fill) l)).memory;
          rings = insert l.rings k (record r { head = (r.head + 1) % r.slots });
        }
    by true = refl
    by false = refl

-- ---- the effects

-- the effects without a call: the driver is the same, or its loans, its bytes and a ring's head change
pub data Touches (l : LaneState) : Work → Outcome → Type 0 where
  -- a report, bytes that were read, or a refusal: the driver is the same
  Same : {d : Work} (a : Answer) → IsQuiet a → IsUndone a → Touches l d (record { lane = l; answer = a })
  -- sync and sync_range: the map lends its range in another way, bytes that lose their values are Unknown, and a sync
  -- that copies is counted
  Syncs : {d : Work} (m off len ops : ℕ) → IsSync l d m off len ops → (o : LaneMap) → get l.maps m ≡ Some o →
      is_loaded o.stage ≡ true → is_mixed ops ≡ false → sync_answer l.loans m off len ops ≡ Fine →
      Touches l d (record { lane = after_sync l m o off len ops; answer = answer.Done })
  -- cpu_write: the bytes at a place are Known, with the values that the driver writes
  Writes : (place : Place) (bs : Bytes) (va : ℕ) → virtual_at l place ≡ Some va →
      first_unreached l va (length (bytes_of bs)) ≡ Fine →
      cpu_write_answer l.loans (bytes_at l (run_of va (length (bytes_of bs)))) ≡ Fine →
      Touches l (Operation (op.CpuWrite place bs)) (record {
        lane = after_write l (bytes_at l (run_of va (length (bytes_of bs)))) (bytes_of bs);
        answer = answer.Done;
      })
  -- ring_post: a slot of a ring has the bytes of a descriptor, which the driver writes as it writes any
  Posts : (k slot m off len kind fill : ℕ) (r : LaneRing) → get l.rings k ≡ Some r → (o : LaneMap) →
      get l.maps m ≡ Some o → is_loaded o.stage ≡ true → may_post r slot m o off len kind l ≡ true →
      (va : ℕ) → virtual_at l (slot_place r slot) ≡ Some va → first_unreached l va 16 ≡ Fine →
      cpu_write_answer l.loans (bytes_at l (run_of va 16)) ≡ Fine →
      Touches l (Operation (op.RingPost k slot m off len kind fill)) (record {
        lane =
            after_write l (bytes_at l (run_of va 16))
            (descriptor_bytes (posted (segments_in o.stage) off len kind fill));
        answer = answer.Done;
      })
  -- dev_write: the bytes of a range of a load are Known, with the values that the device writes
  DeviceWrites : (m off : ℕ) (bs : Bytes) (o : LaneMap) → get l.maps m ≡ Some o → is_loaded o.stage ≡ true →
      dev_write_answer (loan_of l.loans m) off (length (bytes_of bs)) ≡ Fine →
      Touches l (Transfer (item.DevWrite m off bs)) (record {
        lane = after_write l (load_bytes l.loans m off (length (bytes_of bs))) (bytes_of bs);
        answer = answer.Done;
      })
  -- dev_write_at: the bytes at device addresses are Known, with the values that the device writes
  RawWrites : (t addr : ℕ) (bs : Bytes) (g : LaneTag) → get l.tags t ≡ Some g →
      judged (raw_refusal DeviceWriteUnlent (dev_write_refusal false) l t) 0 (run_of addr (length (bytes_of bs)))
      ≡ Fine →
      Touches l (Transfer (item.DevWriteAt t addr bs)) (record {
        lane = after_write l (raw_bytes l t (run_of addr (length (bytes_of bs)))) (bytes_of bs);
        answer = answer.Done;
      })
  -- ring_step: the device has done what the descriptor at the head says, the descriptor is done, and the head goes on
  Fetches : (k : ℕ) (f : Fetching l k) →
      Touches l (Transfer (item.RingStep k)) (record {
        lane = after_fetch l k f.r (head_of f.r l) f.c;
        answer = told (head_of f.r l) f.c l;
      })

-- the effects of any operation, item or callback, with its call and the reply
pub data Makes (l : LaneState) : Work → Option HubCall → HubReply → Outcome → Type 0 where
  -- it makes no call, and its effect is one of those above
  Touched : {d : Work} {r : HubReply} {x : Outcome} → Touches l d x → Makes l d None r x
  -- the reply to its call brings nothing, and the driver is the same
  Vain : {d : Work} {c : HubCall} {r : HubReply} → IsVain l d c r → (a : Answer) → IsUntold a →
      Makes l d (Some c) r (record { lane = l; answer = a })
  -- tag: the driver has one more tag, and no call was made
  Tags : {r : HubReply} (name : List ℕ) (parent : Option ℕ) (limits t : TagLimits) → IsNew l parent limits t →
      Makes l (Operation (op.Tag name parent limits)) None r
      (record { lane = with_tag l.place t false l; answer = answer.Done })
  -- tag: the driver has one more tag, whose first allocation has grown its zone
  Attaches : (name : List ℕ) (parent : Option ℕ) (limits t : TagLimits) → IsNew l parent limits t →
      (could_bounce t l.maxmem && allocnow t.flags) ≡ true → (g : Grown) → g.made ≡ true →
      Makes l (Operation (op.Tag name parent limits)) (Some (call.AttachTag t)) (reply.Grown g)
      (record { lane = with_tag l.place t true l; answer = answer.Grown g })
  -- iommu_tag: the driver has one more tag, whose device has an address space of its own, with no load
  Spaces : {r : HubReply} (name : List ℕ) (limits : SpaceLimits) (t : TagLimits) →
      effective None (space_limits limits) ≡ Some t →
      Makes l (Operation (op.IommuTag name limits)) None r
      (record { lane = with_device_tag t l; answer = answer.Done })
  -- tag_destroy: a tag without maps is gone
  Untags : {r : HubReply} (t : ℕ) → has_maps l t ≡ false →
      Makes l (Operation (op.TagDestroy t)) None r
      (record {
        lane = record l { tags = remove l.tags t; spaces = with_space t no_space l.spaces };
        answer = answer.Done;
      })
  -- map: the driver has one more map, without a zone, because its loads never bounce
  Maps : {r : HubReply} (name : List ℕ) (t : ℕ) (g : LaneTag) → get l.tags t ≡ Some g →
      bounces l.maxmem g ≡ false →
      Makes l (Operation (op.Map name t)) None r (record { lane = with_map t None l; answer = answer.Done })
  -- map: the driver has one more map, in a zone, and the first allocation of its tag is done
  Creates : (name : List ℕ) (t : ℕ) (g : LaneTag) → get l.tags t ≡ Some g → bounces l.maxmem g ≡ true →
      (n : Grown) → n.made ≡ true →
      Makes l (Operation (op.Map name t)) (Some (call.CreateMap (named l l.place) g.limits g.first_done))
      (reply.Grown n) (record {
        lane = with_tag t g.limits true (with_map t (Some n.zone.0) l);
        answer = answer.Grown n;
      })
  -- map_destroy: an idle map is gone, and has ended at its zone if it had one
  Unmaps : {r : HubReply} (m : ℕ) (o : LaneMap) → get l.maps m ≡ Some o → is_idle o.stage ≡ true →
      Makes l (Operation (op.MapDestroy m)) (end_call l m o.zone) r
      (record { lane = without_map m l; answer = answer.Done })
  -- dmamem: the driver has one more memory, with its idle map and its bytes
  Places : (name : List ℕ) (t flags : ℕ) (g : LaneTag) → get l.tags t ≡ Some g → (first : Pa) (count : ℕ) →
      Makes l (Operation (op.Dmamem name t flags)) (Some (call.MemAlloc (named l l.place) g.limits))
      (reply.Run first count) (memory_by_reply t g.limits flags l (reply.Run first count))
  -- dmamem_free: a memory whose map is idle is gone, with its map and its bytes
  Frees : {r : HubReply} (m : ℕ) (x : LaneMemory) → get l.mems m ≡ Some x → (o : LaneMap) → get l.maps m ≡ Some o →
      is_idle o.stage ≡ true →
      Makes l (Operation (op.DmamemFree m)) (Some (call.MemFree (named l m))) r
      (record { lane = without_memory m x l; answer = answer.Done })
  -- load: it is refused, and its map stays idle
  Refuses : {d : Work} {c : Option HubCall} {r : HubReply} (b : Begins l d) → IsOver b c r → (e : Errno) →
      Makes l d c r (ended b.m b.o (answer.Refused e) l)
  -- load: it waits for pages, and its map keeps it
  Waits : {d : Work} (b : Begins l d) → is_device l b.o ≡ false → (need_of (chunks b) == 0) ≡ false → (have : ℕ) →
      Makes l d (Some (grab b)) (reply.Queued have) (granted b.m b.o (asks b) (chunks b) l (reply.Queued have))
  -- load, or its callback: it has its pages, its map is loaded and lends nothing, and its items join the transfer queue
  Loads : {d : Work} {c : Option HubCall} {r : HubReply} (k : Ends l d c r) →
      fits l (map_in k) (was_in k) (place_in k) (asked_in k) (chunks_in k) (pages_in k) ≡ true →
      Makes l d c r
      (with_spaces (spaces_in k) (fitting l (map_in k) (was_in k) (place_in k) (asked_in k) (chunks_in k) (pages_in k)))
  -- load, or its callback: it has its pages but too many segments, and the pages join the return queue
  Overflows : {d : Work} {c : Option HubCall} {r : HubReply} (k : Ends l d c r) →
      fits l (map_in k) (was_in k) (place_in k) (asked_in k) (chunks_in k) (pages_in k) ≡ false →
      Makes l d c r
      (with_spaces (spaces_in k) (too_big l (map_in k) (was_in k) (place_in k) (asked_in k) (chunks_in k) (pages_in k)))
  -- unload: the map lends nothing, what it lent to write is Unknown, its pages join the return queue, and its run of
  -- device pages ends
  Unloads : {r : HubReply} (m : ℕ) (o : LaneMap) → get l.maps m ≡ Some o → is_loaded o.stage ≡ true →
      Makes l (Operation (op.Unload m)) None r
      (record { lane = unmapped o (unpaged m o (pages_of o.stage) (loan_forgotten m l)); answer = answer.Done })
  -- await: the wait has ended, and the driver is the same
  Awaits : {r : HubReply} (m : ℕ) →
      Makes l (Operation (op.Await m)) None r (record { lane = l; answer = answer.Done })
  -- ring: the driver has one more ring, in the first bytes of a memory, with the head at its first slot
  Rings : {r : HubReply} (name : List ℕ) (mem slots : ℕ) (x : LaneMemory) → get l.mems mem ≡ Some x →
      fits_in slots x ≡ true →
      Makes l (Operation (op.Ring name mem slots)) None r (record {
        lane = with_ring l.place (record { mem = mem; slots = slots; head = 0 }) l;
        answer = answer.Done;
      })
  -- kick: the steps of a ring's device join the transfer queue
  Kicks : {r : HubReply} (k : ℕ) (steps : List Item) (q : LaneRing) → get l.rings k ≡ Some q →
      Makes l (Operation (op.Kick k steps)) None r
      (record { lane = record l { queue = l.queue ++ queued_items l.place steps }; answer = answer.Done })

-- ---- sends

-- the load of a send's clusters, as an operation: it loads a vector, and must not wait
abbrev pub again : Send → Op
again s = op.Load s.map (buffer.Vector s.clusters) load_nowait_bit s.items

-- the first load of a send found its map idle, its chain may be loaded, and it is not longer than the tag allows
pub record Held (l : LaneState) (s : Send) : Type 0 where
  pub o : LaneMap
  pub there : get l.maps s.map ≡ Some o
  pub idle : is_idle o.stage ≡ true
  pub fine : load_judged l s.map (Vector s.chain) ≡ Fine
  pub short : nat_lt (limits_of l o).maxsize (span_bytes s.chain) ≡ false

-- the turn of the script is the resend of a send
pub record IsAgain (l : LaneState) (s : Send) : Type 0 where
  pub due : due_send l ≡ Some s
  pub none : l.returns ≡ []

-- the resend of a send copies: its map is idle, its clusters may be loaded and written, and its chain may be read
pub record Copies (l : LaneState) (s : Send) : Type 0 where
  pub o : LaneMap
  pub there : get l.maps s.map ≡ Some o
  pub idle : is_idle o.stage ≡ true
  pub fine : load_judged l s.map (Vector s.clusters) ≡ Fine
  pub readable : cpu_read_answer (is_known l.memory) l.loans (chain_bytes s l) ≡ Fine
  pub writable : cpu_write_answer l.loans (cluster_bytes s l) ≡ Fine

-- the resend of a send copies nothing, and answers this report
pub data IsDeclined (l : LaneState) (s : Send) : Report → Type 0 where
  NoMap : get l.maps s.map ≡ None → IsDeclined l s (record { name = Absent; at = 0 })
  BusyMap : (o : LaneMap) → get l.maps s.map ≡ Some o → is_idle o.stage ≡ false →
      IsDeclined l s (record { name = MapBusy; at = 0 })
  Unloadable : (o : LaneMap) → get l.maps s.map ≡ Some o → is_idle o.stage ≡ true → (x : Report) →
      load_judged l s.map (Vector s.clusters) ≡ Refused x → IsDeclined l s x
  Unreadable : (o : LaneMap) → get l.maps s.map ≡ Some o → is_idle o.stage ≡ true →
      load_judged l s.map (Vector s.clusters) ≡ Fine → (x : Report) →
      cpu_read_answer (is_known l.memory) l.loans (chain_bytes s l) ≡ Refused x → IsDeclined l s x
  Unwritable : (o : LaneMap) → get l.maps s.map ≡ Some o → is_idle o.stage ≡ true →
      load_judged l s.map (Vector s.clusters) ≡ Fine →
      cpu_read_answer (is_known l.memory) l.loans (chain_bytes s l) ≡ Fine → (x : Report) →
      cpu_write_answer l.loans (cluster_bytes s l) ≡ Refused x → IsDeclined l s x

-- ---- turns

-- an operation can step, and no resend comes before it
pub record IsFree (l : LaneState) (o : Op) : Type 0 where
  pub none : due_send l ≡ None
  pub free : waits o l ≡ false

-- a turn is no step: nothing can be done now, the script has ended, or no callback came
pub data IsStay : Option HubCall → HubReply → Turn → Type 0 where
  NothingNow : {r : HubReply} → IsStay None r Blocked
  NothingLeft : {r : HubReply} → IsStay None r Ended
  NoneCalled : {r : HubReply} → IsUncalled r → IsStay (Some call.TakeCallback) r Blocked

-- the effects of the turn of a side, with its call and the reply
pub data Steps (l : LaneState) : Side → Option HubCall → HubReply → Turned → Type 0 where
  -- the turn is no step, and the driver is the same
  Stays : {s : Side} {c : Option HubCall} {r : HubReply} (t : Turn) → IsStay c r t → Steps l s c r (stays t l)
  -- the next operation can step: it is done, and the script goes on to its next place
  Advances : {c : Option HubCall} {r : HubReply} {x : Outcome} (o : Op) → slice_get l.script l.place ≡ Some o →
      IsFree l o → Makes l (Operation o) c r x → Steps l side.Script c r (advanced l.place x)
  -- the next operation is a send whose chain has too many segments and whose clusters are enough: the script stays at
  -- its place
  Keeps : {c : Option HubCall} {r : HubReply} {x : Outcome} (o : Op) → slice_get l.script l.place ≡ Some o →
      IsFree l o → (s : Send) → send_of o ≡ Some s → is_too_big x.answer ≡ true → Held l s →
      Makes l (Operation o) c r x → Steps l side.Script c r (kept l.place x)
  -- the resend of a send is refused before anything is copied, and the script goes on
  Declines : {r : HubReply} (s : Send) → IsAgain l s → (x : Report) → IsDeclined l s x →
      Steps l side.Script None r (resent l.place (record { lane = l; answer = answer.Report x }))
  -- the clusters of a send have the bytes of its chain and then are loaded, and the script goes on
  Resends : {c : Option HubCall} {r : HubReply} {x : Outcome} (s : Send) → IsAgain l s → Copies l s →
      is_report x.answer ≡ false → Makes (copied s l) (Operation (again s)) c r x →
      Steps l side.Script c r (resent l.place x)
  -- the first item of the transfer queue is done, and has left the queue
  Leaves : {r : HubReply} {x : Outcome} (q : QueuedItem) (rest : List QueuedItem) → l.queue ≡ q ∷ rest →
      Touches l (Transfer q.item) x → Steps l side.Transfer None r (left_queue q rest x)
  -- the first page of the return queue goes back to its zone, and its map is idle if this was its last
  Releases : {r : HubReply} (q : Return) (rest : List Return) → l.returns ≡ q ∷ rest → (y : Option LaneMap) →
      get l.maps q.map ≡ y →
      Steps l side.Script
      (Some (call.Release (named l q.map) (record { 0 = q.zone }) (record { 0 = q.page }))) r
      (stepped side.Script (did.Release (named l q.map) (record { 0 = q.page })) (record {
        lane = record (restaged q.map y (after_return q.map rest) l) { returns = rest };
        answer = answer.Served (maps_completed r);
      }))
  -- the callback of a map is taken, with the pages of its load
  Calls : {x : Outcome} (m : MapId) (pages : List Pa) →
      Makes l (Callback m) (Some call.TakeCallback) (reply.Called m pages) x →
      Steps l side.Callback (Some call.TakeCallback) (reply.Called m pages) (stepped side.Callback (did.Callback m) x)
