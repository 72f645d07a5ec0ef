-- Each operation, item and callback of a driver, and each turn, is one of its effects, whatever the reply to its call.
use Rattle.std.proofs.Common.{◌≡◌, ℕ, ◌+◌, ◌==◌, ◌&&◌, not, Bool, true, false, if◌then◌else◌, List, [], ◌∷◌}
use Rattle.std.proofs.Common.{length, Option, Some, None, refl, nat_le, nat_lt, slice_get, subst, sym, ◌∙◌}
use Rattle.std.specs.FinMap.{get}
use Rattle.busdma_machine.specs.declared.bounce.hold.HubCall.{HubCall}
use Rattle.busdma_machine.specs.declared.bounce.hold.HubCall.TheVariants as call
use Rattle.busdma_machine.specs.declared.bounce.hold.HubReply.{HubReply}
use Rattle.busdma_machine.specs.declared.bounce.hold.HubReply.TheVariants as reply
use Rattle.busdma_base.specs.declared.journals.answer.Answer.{Answer}
use Rattle.busdma_base.specs.declared.journals.answer.Answer.TheVariants as answer
use Rattle.busdma_base.specs.declared.journals.journal.Side.{Side}
use Rattle.busdma_base.specs.declared.journals.journal.Side.TheVariants as side
use Rattle.busdma_machine.specs.declared.report.Errno.TheVariants.{EBUSY, EFBIG, EINVAL, ENOMEM}
use Rattle.busdma_machine.specs.declared.report.Judged.{Judged}
use Rattle.busdma_machine.specs.declared.report.Judged.TheVariants.{Fine, Refused}
use Rattle.busdma_machine.specs.declared.report.Report.{Report}
use Rattle.busdma_machine.specs.declared.report.ReportName.TheVariants.{DeviceReadUnlent, DeviceWriteUnlent, MapBusy}
use Rattle.busdma_machine.specs.declared.report.ReportName.TheVariants.{MixedSync}
use Rattle.busdma_machine.specs.declared.machine.address.Pa.{Pa}
use Rattle.busdma_machine.specs.declared.machine.address.Segment.{Segment}
use Rattle.busdma_machine.specs.declared.machine.chunk.Chunk.{Chunk}
use Rattle.busdma_machine.specs.declared.machine.bio.Bio.{Bio}
use Rattle.busdma_machine.specs.declared.machine.bio.Bio.TheVariants.{Vector}
use Rattle.busdma_machine.specs.declared.name.MapId.{MapId}
use Rattle.busdma_base.specs.declared.scenarios.buffer.Buffer.{Buffer}
use Rattle.busdma_base.specs.declared.scenarios.buffer.Buffer.TheVariants as buffer
use Rattle.busdma_base.specs.declared.scenarios.script.Item.{Item}
use Rattle.busdma_base.specs.declared.scenarios.script.Item.TheVariants as item
use Rattle.busdma_base.specs.declared.scenarios.script.Op.{Op}
use Rattle.busdma_base.specs.declared.scenarios.script.Op.TheVariants as op
use Rattle.busdma_base.specs.declared.scenarios.script.Place.{Place}
use Rattle.busdma_base.specs.declared.scenarios.script.Bytes.{Bytes}
use Rattle.busdma_machine.specs.declared.tags.tag.SpaceLimits.{SpaceLimits}
use Rattle.busdma_machine.specs.declared.tags.tag.TagLimits.{TagLimits}
use Rattle.busdma_machine.specs.Judging.{judged as judged_by}
use Rattle.busdma_machine.specs.Machine.Spans.{span_bytes}
use Rattle.busdma_machine.specs.Runs.{run_of}
use Rattle.busdma_base.specs.Journals.Reports.{is_report}
use Rattle.busdma_base.specs.Scenarios.Operations.{bytes_of}
use Rattle.busdma_machine.specs.Tags.Tag.{effective, could_bounce, space_limits}
use Rattle.busdma_machine.specs.Tags.TagFlags.{allocnow}
use Rattle.busdma_rules.specs.Tags.LoadFlags.{load_nowait_bit}
use Rattle.busdma_rules.specs.Tags.SyncOps.{is_mixed}
use Rattle.lane_agreement.specs.After.{addresses_of_pages}
use Rattle.lane_agreement.specs.View.{Return}
use Rattle.busdma_base.specs.declared.scenarios.queued.QueuedItem.{QueuedItem}
use Rattle.busdma_rules.specs.Lending.Access.{cpu_read_answer, cpu_write_answer, dev_read_answer, dev_write_answer}
use Rattle.busdma_rules.specs.Lending.Access.{dev_read_refusal, dev_write_refusal}
use Rattle.busdma_rules.specs.Lending.SyncEffects.{sync_answer}
use Rattle.busdma_rules.specs.Lending.Loans.{loan_of, load_bytes}
use Rattle.busdma_rules.specs.Iommu.Device.{device_chunks}
use Rattle.busdma_rules.specs.Iommu.Space.{first_free}
use Rattle.busdma_rules.specs.Segments.Chunks.{need_of}
use Rattle.busdma_rules.specs.declared.descriptor.Descriptor.{Descriptor}
use Rattle.ideal_lane.specs.State.{LaneState, LaneTag, LaneMap, LaneRing, Stage, Waiting, named}
use Rattle.ideal_lane.specs.Accesses.{cpu_read, cpu_write, dev_read, dev_read_at, dev_write, dev_write_at, raw_bytes}
use Rattle.ideal_lane.specs.Accesses.{raw_refusal, values}
use Rattle.ideal_lane.specs.Asking.{Asking, Gives, Asks, call_of, by_reply, goes_on}
use Rattle.ideal_lane.specs.IdealMemory.{is_known}
use Rattle.ideal_lane.specs.Loads.{asked, device_load, is_device, limits_of, finished, granted, load_chunks, load}
use Rattle.ideal_lane.specs.Loads.{ended, load_judged, taken, with_spaces}
use Rattle.ideal_lane.specs.Maps.{bounces, with_map, without_map, map_by_reply}
use Rattle.ideal_lane.specs.Maps.{map, end_map, map_destroy, await}
use Rattle.ideal_lane.specs.Memories.{memory_by_reply, dmamem, dmamem_free}
use Rattle.ideal_lane.specs.Outcomes.{Outcome, gives, refused, unless_absent, unless_busy, unless_past, unless_refused}
use Rattle.ideal_lane.specs.Outcomes.{is_idle, is_loaded, load_length}
use Rattle.ideal_lane.specs.Places.{virtual_at, first_unreached, bytes_at}
use Rattle.ideal_lane.specs.Rings.{Candidate, allowed, at_first, blame, candidates, fetch, fits_in, head_at, head_of}
use Rattle.ideal_lane.specs.Rings.{is_work}
use Rattle.ideal_lane.specs.Rings.{kick, may_post, ring, ring_post, ring_step, slot_place, told}
use Rattle.ideal_lane.specs.Sends.{Send, chain_bytes, cluster_bytes, copied, due_send, is_kept, is_too_big, load_again}
use Rattle.ideal_lane.specs.Sends.{resend, send_of}
use Rattle.ideal_lane.specs.Syncs.{sync_part, sync, sync_range}
use Rattle.ideal_lane.specs.Tags.{with_tag, tag_by_reply, tag_or_invalid, tag}
use Rattle.ideal_lane.specs.Tags.{device_tag, iommu_tag, tag_destroy, has_maps}
use Rattle.ideal_lane.specs.Turns.{Turned, Blocked, Ended, stays, operation, bio_at, load_buffer}
use Rattle.ideal_lane.specs.Turns.{never_waits, transfer, waits, advanced, due_turn, kept, left_queue, next_operation}
use Rattle.ideal_lane.specs.Turns.{resent, went_on}
use Rattle.ideal_lane.specs.Turns.{script_turn, transfer_turn, called, called_in, callback_turn}
use Rattle.ideal_lane.specs.Turns.{lane_step}
use Rattle.ideal_lane.specs.Unloads.{unload}
use Rattle.ideal_lane.proofs.Endings.{fits, fitting, too_big}
use Rattle.ideal_lane.proofs.Refusing.{absent, judged, either, busy, unloaded, past}
use Rattle.ideal_lane.proofs.Unread.{same-judged}
use Rattle.ideal_lane.proofs.Effects.{Advances, AtOnce, Attaches, Awaits, Begins, Below, Callback, Called, Calls}
use Rattle.ideal_lane.proofs.Effects.{Creates, Device, DeviceWrites, Ends, Frees, Granted, IsNew, IsQuiet, IsSync}
use Rattle.ideal_lane.proofs.Effects.{IsUndone}
use Rattle.ideal_lane.proofs.Effects.{IsUnwaited, IsUnwaiting, Leaves, Loads, Makes, Maps, NoFrame, NoRun, NoneCalled}
use Rattle.ideal_lane.proofs.Effects.{NothingLeft}
use Rattle.ideal_lane.proofs.Effects.{NothingNow, Operation, Overflows, Places, Range, RangeItem, RawWrites, Refuses}
use Rattle.ideal_lane.proofs.Effects.{Releases, Run, frames}
use Rattle.ideal_lane.proofs.Effects.{Same, Spaces, Stays, Steps, Syncs, Tags, TooLong, Top, Touched, Touches, Transfer}
use Rattle.ideal_lane.proofs.Effects.{spaces_in}
use Rattle.ideal_lane.proofs.Effects.{Unattached, Uncreated, Ungranted, Unloads, Unmaps, Unplaced, Untags, Unwaited}
use Rattle.ideal_lane.proofs.Effects.{Vain, Waits, Whole, WholeItem, Work, Writes, asked_in, asks, chunks, chunks_in}
use Rattle.ideal_lane.proofs.Effects.{end_call, grab, map_in, pages_in, place_in, was_in}
use Rattle.ideal_lane.proofs.Effects.{Fetches, Kicks, Posts, Rings, fetched-is}
use Rattle.ideal_lane.proofs.Effects.{BusyMap, Copies, Declines, Held, IsAgain, IsFree, Keeps, NoMap, Resends}
use Rattle.ideal_lane.proofs.Effects.{Unloadable}
use Rattle.ideal_lane.proofs.Effects.{Unreadable, Unwritable, again}

-- ---- each operation, item and callback is one of them

module _ (l : LaneState) (d : Work) where
  -- a step without a call has one of these effects
  abbrev pub Only : Asking Outcome → Type 0
  Only (Gives x) = Touches l d x
  Only (Asks c k) = ⊥

  same : (x : Report) → Only (gives l (answer.Report x))
  same x = Same (answer.Report x) tt tt

  -- a step has one of these effects, whatever the reply to its call
  abbrev pub Made : Asking Outcome → Type 0
  Made (Gives x) = (r : HubReply) → Makes l d None r x
  Made (Asks c k) = (r : HubReply) → Makes l d (Some c) r (k r)

  pub only-makes : (x : Asking Outcome) → Only x → Made x
  only-makes (Gives x) h = λ r. Touched h
  only-makes (Asks c k) h = absurd h

  answers : (a : Answer) → IsQuiet a → IsUndone a → Made (gives l a)
  answers a q u r = Touched (Same a q u)

  report : (x : Report) → Made (gives l (answer.Report x))
  report x = answers (answer.Report x) tt tt

-- ---- tags and maps

module _ (l : LaneState) (name : List ℕ) (parent : Option ℕ) (limits : TagLimits) where
  abbrev making : Work
  making = Operation (op.Tag name parent limits)

  attached-makes : (t : TagLimits) → IsNew l parent limits t → (could_bounce t l.maxmem && allocnow t.flags) ≡ true →
      Made l making (Asks (call.AttachTag t) (tag_by_reply t l))
  attached-makes t new b (reply.Grown g) = by g.made refl
    where
      by : (made : Bool) → g.made ≡ made →
          Makes l making (Some (call.AttachTag t)) (reply.Grown g)
          (record { lane = if made then with_tag l.place t true l else l; answer = answer.Grown g })
      by true e = Attaches name parent limits t new b g e
      by false e = Vain (Unattached t b e) (answer.Grown g) tt
  attached-makes t new b _ = Vain (Unattached t b tt) (answer.Refused ENOMEM) tt

  tag_or-makes : (q : Option TagLimits) → ((t : TagLimits) → q ≡ Some t → IsNew l parent limits t) →
      Made l making (tag_or_invalid q l)
  tag_or-makes None new = answers l making (answer.Refused EINVAL) tt tt
  tag_or-makes (Some t) new =
      either l (Made l making) (report l making) (could_bounce t l.maxmem && allocnow t.flags)
      (Asks (call.AttachTag t) (tag_by_reply t l)) (gives (with_tag l.place t false l) answer.Done)
      (attached-makes t (new t refl)) (λ b r. Tags name parent limits t (new t refl))

tag-makes : (l : LaneState) (name : List ℕ) (parent : Option ℕ) (limits : TagLimits) →
    Made l (Operation (op.Tag name parent limits)) (tag parent limits l)
tag-makes l name None limits = tag_or-makes l name None limits (effective None limits) (Top limits)
tag-makes l name (Some p) limits =
    absent l (Made l _) (report l _) (get l.tags p) _ (λ x there.
    tag_or-makes l name (Some p) limits (effective (Some x.limits) limits) (λ t e. Below p x limits t there e))

iommu_tag-makes : (l : LaneState) (name : List ℕ) (limits : SpaceLimits) →
    Made l (Operation (op.IommuTag name limits)) (iommu_tag limits l)
iommu_tag-makes l name limits = by (effective None (space_limits limits)) refl
  where
    by : (q : Option TagLimits) → effective None (space_limits limits) ≡ q →
        Made l (Operation (op.IommuTag name limits)) (device_tag q l)
    by None e = answers l _ (answer.Refused EINVAL) tt tt
    by (Some t) e = λ r. Spaces name limits t e

module _ (l : LaneState) where
  tag_destroy-makes : (t : ℕ) → Made l (Operation (op.TagDestroy t)) (tag_destroy t l)
  tag_destroy-makes t =
      absent l (Made l _) (report l _) (get l.tags t) _ (λ o e.
      either l (Made l _) (report l _) (has_maps l t) _ _ (λ b. answers l _ (answer.Refused EBUSY) tt tt)
      (λ b r. Untags t b))

  created-makes : (name : List ℕ) (t : ℕ) (g : LaneTag) → get l.tags t ≡ Some g →
      bounces l.maxmem g ≡ true →
      Made l (Operation (op.Map name t))
      (Asks (call.CreateMap (named l l.place) g.limits g.first_done) (map_by_reply t g l))
  created-makes name t g there b (reply.Grown n) = by n.made refl
    where
      by : (made : Bool) → n.made ≡ made →
          Makes l (Operation (op.Map name t)) (Some (call.CreateMap (named l l.place) g.limits g.first_done))
          (reply.Grown n) (record {
            lane = if made then with_tag t g.limits true (with_map t (Some n.zone.0) l) else l;
            answer = answer.Grown n;
          })
      by true e = Creates name t g there b n e
      by false e = Vain (Uncreated g b e) (answer.Grown n) tt
  created-makes name t g there b _ = Vain (Uncreated g b tt) (answer.Refused ENOMEM) tt

  map-makes : (name : List ℕ) (t : ℕ) → Made l (Operation (op.Map name t)) (map t l)
  map-makes name t =
      absent l (Made l _) (report l _) (get l.tags t) _ (λ g there.
      either l (Made l _) (report l _) (bounces l.maxmem g) _ _ (created-makes name t g there)
      (λ b r. Maps name t g there b))

  end-makes : (m : ℕ) (zone : Option ℕ) →
      ((r : HubReply) → Makes l (Operation (op.MapDestroy m)) (end_call l m zone) r
      (record { lane = without_map m l; answer = answer.Done })) →
      Made l (Operation (op.MapDestroy m)) (end_map m zone l)
  end-makes m None h = h
  end-makes m (Some z) h = h

  map_destroy-makes : (m : ℕ) → Made l (Operation (op.MapDestroy m)) (map_destroy m l)
  map_destroy-makes m =
      absent l (Made l _) (report l _) (get l.maps m) _ (λ o there.
      either l (Made l _) (report l _) (is_idle o.stage) (end_map m o.zone l) _
      (λ i. end-makes m o.zone (λ r. Unmaps m o there i)) (λ i. answers l _ (answer.Refused EBUSY) tt tt))

  await-makes : (m : ℕ) → Made l (Operation (op.Await m)) (await m l)
  await-makes m =
      absent l (Made l _) (report l _) (get l.maps m) _ (λ o there.
      either l (Made l _) (report l _) o.tried _ _ (λ b r. Awaits m) (λ b. report l _ _))

  placed-makes : (name : List ℕ) (t flags : ℕ) (g : LaneTag) → get l.tags t ≡ Some g →
      Made l (Operation (op.Dmamem name t flags))
      (Asks (call.MemAlloc (named l l.place) g.limits) (memory_by_reply t g.limits flags l))
  placed-makes name t flags g there (reply.Run first count) = Places name t flags g there first count
  placed-makes name t flags g there _ = Vain (Unplaced g tt) (answer.Refused ENOMEM) tt

  dmamem-makes : (name : List ℕ) (t flags : ℕ) → Made l (Operation (op.Dmamem name t flags)) (dmamem t flags l)
  dmamem-makes name t flags = absent l (Made l _) (report l _) (get l.tags t) _ (placed-makes name t flags)

  dmamem_free-makes : (m : ℕ) → Made l (Operation (op.DmamemFree m)) (dmamem_free m l)
  dmamem_free-makes m =
      absent l (Made l _) (report l _) (get l.mems m) _ (λ x there.
      absent l (Made l _) (report l _) (get l.maps m) _ (λ o found.
      either l (Made l _) (report l _) (is_idle o.stage) _ _ (λ i r. Frees m x there o found i)
      (λ i. answers l _ (answer.Refused EBUSY) tt tt)))

  unload-makes : (m : ℕ) → Made l (Operation (op.Unload m)) (unload m l)
  unload-makes m = unloaded l (Made l _) (report l _) m _ (λ o there i r. Unloads m o there i)

-- ---- loads, syncs and accesses

module _ (l : LaneState) (d : Work) where
  ends-makes : {c : Option HubCall} {r : HubReply} (k : Ends l d c r) → Makes l d c r
      (if fits l (map_in k) (was_in k) (place_in k) (asked_in k) (chunks_in k) (pages_in k)
      then with_spaces (spaces_in k)
      (fitting l (map_in k) (was_in k) (place_in k) (asked_in k) (chunks_in k) (pages_in k))
      else with_spaces (spaces_in k)
      (too_big l (map_in k) (was_in k) (place_in k) (asked_in k) (chunks_in k) (pages_in k)))
  ends-makes {c} {r} k =
      by (fits l (map_in k) (was_in k) (place_in k) (asked_in k) (chunks_in k) (pages_in k)) refl
    where
      by : (b : Bool) → fits l (map_in k) (was_in k) (place_in k) (asked_in k) (chunks_in k) (pages_in k) ≡ b →
          Makes l d c r
          (if b then with_spaces (spaces_in k)
          (fitting l (map_in k) (was_in k) (place_in k) (asked_in k) (chunks_in k) (pages_in k))
          else with_spaces (spaces_in k)
          (too_big l (map_in k) (was_in k) (place_in k) (asked_in k) (chunks_in k) (pages_in k)))
      by true e = Loads k e
      by false e = Overflows k e

  granted-makes : (b : Begins l d) → is_device l b.o ≡ false → (need_of (chunks b) == 0) ≡ false →
      Made l d (Asks (grab b) (granted b.m b.o (asks b) (chunks b) l))
  granted-makes b plain some (reply.Granted pages) = ends-makes (Granted b plain some pages)
  granted-makes b plain some (reply.Queued have) = Waits b plain some have
  granted-makes b plain some _ = Refuses b (Ungranted plain some tt) ENOMEM

  -- a load of an IOMMU tag's map
  device-makes : (b : Begins l d) → is_device l b.o ≡ true → Made l d (Gives (device_load b.m b.o (asks b) l))
  device-makes b device r = by (length (frames b) == 0) refl
    where
      -- a load of an IOMMU tag's map that has its run of device pages
      runs : (k : Ends l d None r) (fit : Bool) →
          fits l (map_in k) (was_in k) (place_in k) (asked_in k) (chunks_in k) (pages_in k) ≡ fit →
          Makes l d None r (with_spaces (spaces_in k)
          (if fit then fitting l (map_in k) (was_in k) (place_in k) (asked_in k) (chunks_in k) (pages_in k)
          else too_big l (map_in k) (was_in k) (place_in k) (asked_in k) (chunks_in k) (pages_in k)))
      runs k true e = Loads k e
      runs k false e = Overflows k e

      some : (length (frames b) == 0) ≡ false → (q : Option ℕ) →
          first_free (l.spaces b.o.tag) (length (frames b)) ≡ q → Makes l d None r (taken b.m b.o (asks b) q l)
      some any None e = Refuses b (NoRun device e) ENOMEM
      some any (Some first) e = runs (Device b device first _ (Run any first e)) _ refl

      by : (none : Bool) → (length (frames b) == 0) ≡ none → Makes l d None r
          (if none then finished b.m b.o l.place (asks b) (device_chunks 0 0 (asks b).entries) [] l
          else taken b.m b.o (asks b) (first_free (l.spaces b.o.tag) (length (frames b))) l)
      by true none = ends-makes (Device b device 0 l.spaces (NoFrame none))
      by false any = some any (first_free (l.spaces b.o.tag) (length (frames b))) refl

  chunks-make : (b : Begins l d) → is_device l b.o ≡ false →
      Made l d (load_chunks b.m b.o (asks b) (chunks b) l)
  chunks-make b plain =
      either l (Made l d) (report l d) (need_of (chunks b) == 0)
      (Gives (finished b.m b.o l.place (asks b) (chunks b) [] l))
      (Asks (grab b) (granted b.m b.o (asks b) (chunks b) l)) (λ none r. ends-makes (AtOnce b plain none))
      (granted-makes b plain)

  -- a load that has begun
  abbrev pub begun : Begins l d → Asking Outcome
  begun b =
      if nat_lt (limits_of l b.o).maxsize (asks b).len then Gives (ended b.m b.o (answer.Refused EINVAL) l)
      else if is_device l b.o then Gives (device_load b.m b.o (asks b) l)
      else load_chunks b.m b.o (asks b) (chunks b) l

  pub begun-makes : (b : Begins l d) → Made l d (begun b)
  begun-makes b =
      either l (Made l d) (report l d) (nat_lt (limits_of l b.o).maxsize (asks b).len) _ _
      (λ long r. Refuses b (TooLong long) EINVAL)
      (λ short. either l (Made l d) (report l d) (is_device l b.o) _ _ (device-makes b) (chunks-make b))

  load-makes : (m : ℕ) (x : Buffer) (flags : ℕ) (items : List Item) →
      d ≡ Operation (op.Load m x flags items) → Made l d (load_buffer m x flags items l)
  load-makes m x flags items is =
      absent l (Made l d) (report l d) (bio_at l x) (λ y. load m (asked m y (never_waits x flags) items l) l) by
    where
      begins : (y : Bio) → bio_at l x ≡ Some y → (o : LaneMap) → get l.maps m ≡ Some o → is_idle o.stage ≡ true →
          load_judged l m y ≡ Fine → Begins l d
      begins y found o there i fine = record {
        m = m;
        buffer = x;
        flags = flags;
        items = items;
        is = is;
        bio = y;
        found = found;
        o = o;
        there = there;
        idle = i;
        fine = fine;
      }

      by : (y : Bio) → bio_at l x ≡ Some y → Made l d (load m (asked m y (never_waits x flags) items l) l)
      by y found =
          busy l (Made l d) (report l d) m _ (λ o there i.
          judged l (Made l d) (report l d) (load_judged l m y) _ (λ fine. begun-makes (begins y found o there i fine)))

  part-touches : (m off len ops : ℕ) → IsSync l d m off len ops → (o : LaneMap) → get l.maps m ≡ Some o →
      is_loaded o.stage ≡ true → Only l d (sync_part m o off len ops l)
  part-touches m off len ops is o there i =
      either l (Only l d) (same l d) (is_mixed ops) (refused MixedSync 0 l) _ (λ mixed. same l d _) (λ alone.
      judged l (Only l d) (same l d) (sync_answer l.loans m off len ops) _ (Syncs m off len ops is o there i alone))

  pub sync-touches : (m ops : ℕ) → IsSync l d m 0 (load_length l m) ops → Only l d (sync m ops l)
  sync-touches m ops is = unloaded l (Only l d) (same l d) m _ (part-touches m 0 (load_length l m) ops is)

  pub sync_range-touches : (m off len ops : ℕ) → IsSync l d m off len ops → Only l d (sync_range m off len ops l)
  sync_range-touches m off len ops is =
      unloaded l (Only l d) (same l d) m (λ o. unless_past m off len l (sync_part m o off len ops l)) (λ o there i.
      past l (Only l d) (same l d) m off len (sync_part m o off len ops l) (part-touches m off len ops is o there i))

  pub cpu_read-touches : (place : Place) (len : ℕ) → Only l d (cpu_read place len l)
  cpu_read-touches place len =
      absent l (Only l d) (same l d) (virtual_at l place) _ (λ va e.
      judged l (Only l d) (same l d) (first_unreached l va len) _ (λ reaches.
      judged l (Only l d) (same l d) (cpu_read_answer (is_known l.memory) l.loans (bytes_at l (run_of va len))) _
      (λ fine.
      Same (answer.Bytes (values l (bytes_at l (run_of va len)))) tt tt)))

  pub dev_read-touches : (m off len : ℕ) → Only l d (dev_read m off len l)
  dev_read-touches m off len =
      unloaded l (Only l d) (same l d) m _ (λ o there i.
      past l (Only l d) (same l d) m off len _
      (judged l (Only l d) (same l d) (dev_read_answer (is_known l.memory) (loan_of l.loans m) off len) _ (λ fine.
      Same (answer.Bytes (values l (load_bytes l.loans m off len))) tt tt)))

pub cpu_write-touches : (l : LaneState) (place : Place) (bs : Bytes) →
    Only l (Operation (op.CpuWrite place bs)) (cpu_write place (bytes_of bs) l)
cpu_write-touches l place bs =
    absent l (Only l _) (same l _) (virtual_at l place) _ (λ va at.
    judged l (Only l _) (same l _) (first_unreached l va (length (bytes_of bs))) _ (λ reaches.
    judged l (Only l _) (same l _) (cpu_write_answer l.loans (bytes_at l (run_of va (length (bytes_of bs))))) _
    (Writes place bs va at reaches)))

pub dev_write-touches : (l : LaneState) (m off : ℕ) (bs : Bytes) →
    Only l (Transfer (item.DevWrite m off bs)) (dev_write m off (bytes_of bs) l)
dev_write-touches l m off bs =
    unloaded l (Only l _) (same l _) m _ (λ o there i.
    past l (Only l _) (same l _) m off (length (bytes_of bs)) _
    (judged l (Only l _) (same l _) (dev_write_answer (loan_of l.loans m) off (length (bytes_of bs))) _
    (DeviceWrites m off bs o there i)))

pub dev_read_at-touches : (l : LaneState) (d : Work) (t addr len : ℕ) → Only l d (dev_read_at t addr len l)
dev_read_at-touches l d t addr len =
    absent l (Only l d) (same l d) (get l.tags t) _ (λ g there.
    judged l (Only l d) (same l d)
    (judged_by (raw_refusal DeviceReadUnlent (dev_read_refusal (is_known l.memory) false) l t) 0 (run_of addr len)) _
    (λ fine. Same (answer.Bytes (values l (raw_bytes l t (run_of addr len)))) tt tt))

pub dev_write_at-touches : (l : LaneState) (t addr : ℕ) (bs : Bytes) →
    Only l (Transfer (item.DevWriteAt t addr bs)) (dev_write_at t addr (bytes_of bs) l)
dev_write_at-touches l t addr bs =
    absent l (Only l _) (same l _) (get l.tags t) _ (λ g there.
    judged l (Only l _) (same l _)
    (judged_by (raw_refusal DeviceWriteUnlent (dev_write_refusal false) l t) 0 (run_of addr (length (bytes_of bs)))) _
    (RawWrites t addr bs g there))

-- ---- rings

module _ (l : LaneState) where
  ring-makes : (name : List ℕ) (mem slots : ℕ) → Made l (Operation (op.Ring name mem slots)) (ring mem slots l)
  ring-makes name mem slots =
      absent l (Made l _) (report l _) (get l.mems mem) _ (λ x there.
      either l (Made l _) (report l _) (fits_in slots x) _ _ (λ fit r. Rings name mem slots x there fit)
      (λ no. answers l _ (answer.Refused EINVAL) tt tt))

  kick-makes : (k : ℕ) (steps : List Item) → Made l (Operation (op.Kick k steps)) (kick k steps l)
  kick-makes k steps =
      absent l (Made l _) (report l _) (get l.rings k) _ (λ q there r. Kicks k steps q there)

  pub ring_post-touches : (k slot m off len kind fill : ℕ) →
      Only l (Operation (op.RingPost k slot m off len kind fill)) (ring_post k slot m off len kind fill l)
  ring_post-touches k slot m off len kind fill =
      absent l (Only l _) (same l _) (get l.rings k) _ (λ r ring.
      absent l (Only l _) (same l _) (get l.mems r.mem) _ (λ x memory.
      unloaded l (Only l _) (same l _) m _ (λ o there i.
      past l (Only l _) (same l _) m off len _
      (either l (Only l _) (same l _) (may_post r slot m o off len kind l) _ _ (λ may.
      absent l (Only l _) (same l _) (virtual_at l (slot_place r slot)) _ (λ va at.
      judged l (Only l _) (same l _) (first_unreached l va 16) _ (λ reaches.
      judged l (Only l _) (same l _) (cpu_write_answer l.loans (bytes_at l (run_of va 16))) _
      (Posts k slot m off len kind fill r ring o there i may va at reaches))))
      (λ no. Same (answer.Refused EINVAL) tt tt)))))

  -- the step of a ring whose descriptor was read
  module _ (k : ℕ) (r : LaneRing) (here : get l.rings k ≡ Some r) (o : LaneMap) (there : get l.maps r.mem ≡ Some o)
      (i : is_loaded o.stage ≡ true) (within : nat_le (head_at r + 16) (load_length l r.mem) ≡ true)
      (fine : dev_read_answer (is_known l.memory) (loan_of l.loans r.mem) (head_at r) 16 ≡ Fine) where
    abbrev d : Descriptor
    d = head_of r l

    abbrev done : Work
    done = Transfer (item.RingStep k)

    yes : (b : Bool) → not b ≡ false → b ≡ true
    yes true e = refl
    yes false e = sym e

    first-touches : ((d.owner == 1) ≡ true) → is_work d.kind d.len ≡ true → (c : Option Candidate) →
        slice_get (allowed d l (candidates r l)) 0 ≡ c → Only l done (at_first k r d (candidates r l) c l)
    first-touches owned work None e = same l done (blame d l (slice_get (candidates r l) 0))
    first-touches owned work (Some c) e =
        subst (λ n. Touches l done (record { lane = n; answer = told d c l })) (sym (fetched-is l k r d c))
        (Fetches k (record {
          r = r;
          ring = here;
          o = o;
          there = there;
          loaded = i;
          within = within;
          fine = fine;
          owned = owned;
          work = work;
          c = c;
          first = e;
        }))

    fetch-touches : Only l done (fetch k r d l)
    fetch-touches =
        either l (Only l done) (same l done) (not (d.owner == 1)) _ _ (λ no. Same answer.Idle tt tt) (λ owned.
        either l (Only l done) (same l done) (not (is_work d.kind d.len)) _ _
        (λ no. Same (answer.Refused EINVAL) tt tt) (λ work.
        first-touches (yes (d.owner == 1) owned) (yes (is_work d.kind d.len) work)
        (slice_get (allowed d l (candidates r l)) 0) refl))

  ring_step-touches : (k : ℕ) → Only l (Transfer (item.RingStep k)) (ring_step k l)
  ring_step-touches k =
      absent l (Only l _) (same l _) (get l.rings k) _ (λ r here.
      unloaded l (Only l _) (same l _) r.mem _ (λ o there i.
      either l (Only l _) (same l _) (nat_le (head_at r + 16) (load_length l r.mem)) _ _ (λ within.
      judged l (Only l _) (same l _) (dev_read_answer (is_known l.memory) (loan_of l.loans r.mem) (head_at r) 16) _
      (fetch-touches k r here o there i within)) (λ past. same l _ _)))

pub operation-makes : (l : LaneState) (o : Op) → Made l (Operation o) (operation o l)
operation-makes l (op.Tag name parent limits) = tag-makes l name parent limits
operation-makes l (op.IommuTag name limits) = iommu_tag-makes l name limits
operation-makes l (op.TagDestroy t) = tag_destroy-makes l t
operation-makes l (op.Map name t) = map-makes l name t
operation-makes l (op.MapDestroy m) = map_destroy-makes l m
operation-makes l (op.Dmamem name t flags) = dmamem-makes l name t flags
operation-makes l (op.DmamemFree m) = dmamem_free-makes l m
operation-makes l (op.Load m x flags items) = load-makes l _ m x flags items refl
operation-makes l (op.Unload m) = unload-makes l m
operation-makes l (op.Sync m ops) = only-makes l _ (sync m ops l) (sync-touches l _ m ops (Whole m ops))
operation-makes l (op.SyncRange m off len ops) =
    only-makes l _ (sync_range m off len ops l) (sync_range-touches l _ m off len ops (Range m off len ops))
operation-makes l (op.CpuRead place len) = only-makes l _ (cpu_read place len l) (cpu_read-touches l _ place len)
operation-makes l (op.CpuWrite place bs) =
    only-makes l _ (cpu_write place (bytes_of bs) l) (cpu_write-touches l place bs)
operation-makes l (op.Await m) = await-makes l m
operation-makes l (op.Ring name mem slots) = ring-makes l name mem slots
operation-makes l (op.RingPost k slot m off len kind fill) =
    only-makes l _ (ring_post k slot m off len kind fill l) (ring_post-touches l k slot m off len kind fill)
operation-makes l (op.Kick k steps) = kick-makes l k steps

pub transfer-touches : (l : LaneState) (i : Item) → Only l (Transfer i) (transfer i l)
transfer-touches l (item.Sync m ops) = sync-touches l _ m ops (WholeItem m ops)
transfer-touches l (item.SyncRange m off len ops) = sync_range-touches l _ m off len ops (RangeItem m off len ops)
transfer-touches l (item.DevRead m off len) = dev_read-touches l _ m off len
transfer-touches l (item.DevWrite m off bs) = dev_write-touches l m off bs
transfer-touches l (item.DevReadAt t addr len) = dev_read_at-touches l _ t addr len
transfer-touches l (item.DevWriteAt t addr bs) = dev_write_at-touches l t addr bs
transfer-touches l (item.RingStep k) = ring_step-touches l k

pub called-makes : (l : LaneState) (m : MapId) (pages : List Pa) →
    Makes l (Callback m) (Some call.TakeCallback) (reply.Called m pages)
    (called m.made_at (get l.maps m.made_at) (addresses_of_pages pages) l)
called-makes l m pages = by (get l.maps m.made_at) refl
  where
    none : (y : Option LaneMap) → get l.maps m.made_at ≡ y → IsUnwaited y →
        Makes l (Callback m) (Some call.TakeCallback) (reply.Called m pages) (record { lane = l; answer = answer.Done })
    none y e u = Vain (Unwaited m pages (subst IsUnwaited (sym e) u)) answer.Done tt

    in-stage : (o : LaneMap) → get l.maps m.made_at ≡ Some o → (s : Stage) → o.stage ≡ s →
        Makes l (Callback m) (Some call.TakeCallback) (reply.Called m pages)
        (called_in m.made_at o s (addresses_of_pages pages) l)
    in-stage o e (Waiting v) s = ends-makes l _ (Called m pages o v e s)
    in-stage o e _ s = none (Some o) e (subst IsUnwaiting (sym s) tt)

    by : (y : Option LaneMap) → get l.maps m.made_at ≡ y →
        Makes l (Callback m) (Some call.TakeCallback) (reply.Called m pages)
        (called m.made_at y (addresses_of_pages pages) l)
    by None e = none None e tt
    by (Some o) e = in-stage o e o.stage refl

-- ---- sends

module _ (l : LaneState) where
  -- if there are too many segments, the first load of a send got so far
  abbrev Held-by : Send → Asking Outcome → Type 0
  Held-by s (Gives x) = is_too_big x.answer ≡ true → Held l s
  Held-by s (Asks c k) = (r : HubReply) → is_too_big (k r).answer ≡ true → Held l s

  held-anyway : (s : Send) → Held l s → (x : Asking Outcome) → Held-by s x
  held-anyway s h (Gives x) = λ e. h
  held-anyway s h (Asks c k) = λ r e. h

  no-report : (s : Send) (x : Report) → Held-by s (gives l (answer.Report x))
  no-report s x = λ e. absurd (cc)

  load-held : (s : Send) → Held-by s (load s.map (asked s.map (Vector s.chain) true s.items l) l)
  load-held s =
      busy l (Held-by s) (no-report s) s.map _ (λ o there i.
      judged l (Held-by s) (no-report s) (load_judged l s.map (Vector s.chain)) _ (λ fine.
      either l (Held-by s) (no-report s) (nat_lt (limits_of l o).maxsize (span_bytes s.chain)) _ _
      (λ long e. absurd (cc)) (λ short.
      held-anyway s (record { o = o; there = there; idle = i; fine = fine; short = short }) _)))

  send-held : (o : Op) (s : Send) → send_of o ≡ Some s → Held-by s (operation o l)
  send-held (op.Load m (buffer.Send chain (Some clusters)) flags items) s e =
      let same : record { map = m; chain = chain; clusters = clusters; items = items } ≡ s = cc in
      subst (λ z. Held-by z (load m (asked m (Vector chain) true items l) l)) same
      (load-held (record { map = m; chain = chain; clusters = clusters; items = items }))
  send-held _ s e = absurd (cc)

  -- ---- resends

  -- the answer has this property, whatever the reply to a call
  abbrev pub Answers-by : (Answer → Type 0) → Asking Outcome → Type 0
  Answers-by Q (Gives x) = Q x.answer
  Answers-by Q (Asks c k) = (r : HubReply) → Q (k r).answer

  answers-if : (Q : Answer → Type 0) (b : Bool) (x y : Asking Outcome) → (b ≡ true → Answers-by Q x) →
      Answers-by Q y → Answers-by Q (if b then x else y)
  answers-if Q true x y h k = h refl
  answers-if Q false x y h k = k

  -- a load that has begun answers segments, that it waits, or one of three refusals
  module _ {d : Work} (b : Begins l d) (Q : Answer → Type 0) (segments : (ss : List Segment) → Q (answer.Segments ss))
      (waiting : (have need : ℕ) → Q (answer.InProgress have need)) (big : Q (answer.Refused EFBIG))
      (refuses : Q (answer.Refused ENOMEM)) where
    finished-answers : (at : ℕ) (cs : List Chunk) (pages : List ℕ) → Q (finished b.m b.o at (asks b) cs pages l).answer
    finished-answers at cs pages = by (fits l b.m b.o at (asks b) cs pages)
      where
        by : (fit : Bool) →
            Q (if fit then fitting l b.m b.o at (asks b) cs pages else too_big l b.m b.o at (asks b) cs pages).answer
        by true = segments _
        by false = big

    taken-answers : (q : Option ℕ) → Q (taken b.m b.o (asks b) q l).answer
    taken-answers None = refuses
    taken-answers (Some first) = finished-answers l.place (device_chunks first 0 (asks b).entries) []

    device-answers : Q (device_load b.m b.o (asks b) l).answer
    device-answers = by (length (frames b) == 0)
      where
        by : (none : Bool) →
            Q
            (if none then finished b.m b.o l.place (asks b) (device_chunks 0 0 (asks b).entries) [] l
            else taken b.m b.o (asks b) (first_free (l.spaces b.o.tag) (length (frames b))) l).answer
        by true = finished-answers l.place (device_chunks 0 0 (asks b).entries) []
        by false = taken-answers (first_free (l.spaces b.o.tag) (length (frames b)))

    granted-answers : (r : HubReply) → Q (granted b.m b.o (asks b) (chunks b) l r).answer
    granted-answers (reply.Granted pages) = finished-answers l.place (chunks b) (addresses_of_pages pages)
    granted-answers (reply.Queued have) = waiting have (need_of (chunks b))
    granted-answers _ = refuses

    pub begun-answers : (nat_lt (limits_of l b.o).maxsize (asks b).len ≡ true → Q (answer.Refused EINVAL)) →
        Answers-by Q (begun l d b)
    begun-answers long =
        answers-if Q (nat_lt (limits_of l b.o).maxsize (asks b).len) _ _ long
        (answers-if Q (is_device l b.o) _ _ (λ device. device-answers)
        (answers-if Q (need_of (chunks b) == 0) _ _ (λ none. finished-answers l.place (chunks b) []) granted-answers))

module _ (l : LaneState) (P : Asking Outcome → Type 0) where
  -- the step of a map that is idle, or whose judgement is no refusal
  pub found : (m : ℕ) (step : LaneMap → Asking Outcome) (o : LaneMap) → get l.maps m ≡ Some o → is_idle o.stage ≡ true →
      P (step o) → P (unless_busy m l step)
  found m step o there i h =
      subst (λ y. P (unless_absent y l (λ q. if is_idle q.stage then step q else refused MapBusy 0 l))) (sym there)
      (subst (λ b. P (if b then step o else refused MapBusy 0 l)) (sym i) h)

  pub passed : (j : Judged) (step : Asking Outcome) → j ≡ Fine → P step → P (unless_refused j l step)
  passed j step fine h = subst (λ q. P (unless_refused q l step)) (sym fine) h

module _ (l : LaneState) (s : Send) (now : IsAgain l s) where
  -- a resend with this outcome is a step, whatever the reply to its call
  abbrev Again-by : Asking Outcome → Type 0
  Again-by (Gives x) = (r : HubReply) → Steps l side.Script None r (resent l.place x)
  Again-by (Asks c k) = (r : HubReply) → Steps l side.Script (Some c) r (resent l.place (k r))

  module _ (k : Copies l s) where
    abbrev pub filled : LaneState
    filled = copied s l

    pub fine : load_judged filled s.map (Vector s.clusters) ≡ Fine
    fine = same-judged filled.memory l s.map (Vector s.clusters) ∙ k.fine

    abbrev pub begins : Begins filled (Operation (again s))
    begins = record {
      m = s.map;
      buffer = buffer.Vector s.clusters;
      flags = load_nowait_bit;
      items = s.items;
      is = refl;
      bio = Vector s.clusters;
      found = refl;
      o = k.o;
      there = k.there;
      idle = k.idle;
      fine = fine;
    }

    -- a load that has begun reports nothing
    abbrev IsTold : Answer → Type 0
    IsTold a = is_report a ≡ false

    resends : (x : Asking Outcome) → Made filled (Operation (again s)) x → Answers-by filled IsTold x → Again-by x
    resends (Gives y) h u = λ r. Resends s now k u (h r)
    resends (Asks c f) h u = λ r. Resends s now k (u r) (h r)

    load-again : Again-by (load_again s filled)
    load-again =
        found filled Again-by s.map _ k.o k.there k.idle
        (passed filled Again-by (load_judged filled s.map (Vector s.clusters)) _ fine
        (resends _ (begun-makes filled (Operation (again s)) begins)
        (begun-answers filled begins IsTold (λ ss. refl) (λ have need. refl) refl refl (λ long. refl))))

  -- each refusal comes before the next
  module _ (o : LaneMap) (there : get l.maps s.map ≡ Some o) (idle : is_idle o.stage ≡ true) where
    written-steps : load_judged l s.map (Vector s.clusters) ≡ Fine →
        cpu_read_answer (is_known l.memory) l.loans (chain_bytes s l) ≡ Fine → (j : Judged) →
        cpu_write_answer l.loans (cluster_bytes s l) ≡ j →
        Again-by (unless_refused j l (load_again s (copied s l)))
    written-steps fine readable (Refused x) e = λ r. Declines s now x (Unwritable o there idle fine readable x e)
    written-steps fine readable Fine e =
        load-again (record { o = o; there = there; idle = idle; fine = fine; readable = readable; writable = e })

    read-steps : load_judged l s.map (Vector s.clusters) ≡ Fine → (j : Judged) →
        cpu_read_answer (is_known l.memory) l.loans (chain_bytes s l) ≡ j →
        Again-by (unless_refused j l (
        unless_refused (cpu_write_answer l.loans (cluster_bytes s l)) l (load_again s (copied s l))))
    read-steps fine (Refused x) e = λ r. Declines s now x (Unreadable o there idle fine x e)
    read-steps fine Fine e = written-steps fine e (cpu_write_answer l.loans (cluster_bytes s l)) refl

    judged-steps : (j : Judged) → load_judged l s.map (Vector s.clusters) ≡ j →
        Again-by (unless_refused j l (
        unless_refused (cpu_read_answer (is_known l.memory) l.loans (chain_bytes s l)) l (
        unless_refused (cpu_write_answer l.loans (cluster_bytes s l)) l (load_again s (copied s l)))))
    judged-steps (Refused x) e = λ r. Declines s now x (Unloadable o there idle x e)
    judged-steps Fine e = read-steps e (cpu_read_answer (is_known l.memory) l.loans (chain_bytes s l)) refl

  abbrev beyond : Asking Outcome
  beyond =
      unless_refused (load_judged l s.map (Vector s.clusters)) l (
      unless_refused (cpu_read_answer (is_known l.memory) l.loans (chain_bytes s l)) l (
      unless_refused (cpu_write_answer l.loans (cluster_bytes s l)) l (load_again s (copied s l))))

  idle-steps : (o : LaneMap) → get l.maps s.map ≡ Some o → (b : Bool) → is_idle o.stage ≡ b →
      Again-by (if b then beyond else refused MapBusy 0 l)
  idle-steps o there false e = λ r. Declines s now _ (BusyMap o there e)
  idle-steps o there true e = judged-steps o there e (load_judged l s.map (Vector s.clusters)) refl

  resend-steps : Again-by (resend s l)
  resend-steps = by (get l.maps s.map) refl
    where
      by : (y : Option LaneMap) → get l.maps s.map ≡ y →
          Again-by (unless_absent y l (λ o. if is_idle o.stage then beyond else refused MapBusy 0 l))
      by None e = λ r. Declines s now _ (NoMap e)
      by (Some o) e = idle-steps o e (is_idle o.stage) refl

-- ---- turns

module _ (l : LaneState) where
  -- a turn has one of these effects, whatever the reply to its call
  abbrev pub Stepped-by : Side → Asking Turned → Type 0
  Stepped-by s x = (r : HubReply) → Steps l s (call_of x) r (by_reply x r)

  -- an operation is done, and the script goes on or stays at a send
  went-steps : (o : Op) → slice_get l.script l.place ≡ Some o → IsFree l o → {c : Option HubCall} {r : HubReply}
      (x : Outcome) → ((s : Send) → send_of o ≡ Some s → is_too_big x.answer ≡ true → Held l s) →
      Makes l (Operation o) c r x → Steps l side.Script c r (went_on o l.place x)
  went-steps o at free {c} {r} x held m = which (send_of o) refl
    where
      either-way : (s : Send) → send_of o ≡ Some s → (b : Bool) → is_too_big x.answer ≡ b →
          Steps l side.Script c r (if b then kept l.place x else advanced l.place x)
      either-way s e true big = Keeps o at free s e big (held s e big) m
      either-way s e false big = Advances o at free m

      which : (q : Option Send) → send_of o ≡ q →
          Steps l side.Script c r (if is_kept q x.answer then kept l.place x else advanced l.place x)
      which None e = Advances o at free m
      which (Some s) e = either-way s e (is_too_big x.answer) refl

  next-steps : due_send l ≡ None → (o : Option Op) → slice_get l.script l.place ≡ o →
      Stepped-by side.Script (next_operation o l)
  next-steps none None e r = Stays Ended NothingLeft
  next-steps none (Some o) e r =
      by (waits o l) refl (operation o l) (operation-makes l o) (λ s is. send-held l o s is) r
    where
      by : (b : Bool) → waits o l ≡ b → (x : Asking Outcome) → Made l (Operation o) x →
          ((s : Send) → send_of o ≡ Some s → Held-by l s x) →
          Stepped-by side.Script (if b then Gives (stays Blocked l) else goes_on (went_on o l.place) x)
      by true w x h held r = Stays Blocked NothingNow
      by false w (Gives y) h held r = went-steps o e (record { none = none; free = w }) y held (h r)
      by false w (Asks c k) h held r =
          went-steps o e (record { none = none; free = w }) (k r) (λ s is. held s is r) (h r)

  due-steps : l.returns ≡ [] → (q : Option Send) → due_send l ≡ q → Stepped-by side.Script (due_turn q l)
  due-steps none None e r = next-steps e (slice_get l.script l.place) refl r
  due-steps none (Some s) e r =
      let now : IsAgain l s = record { due = e; none = none } in by now (resend s l) (resend-steps l s now)
    where
      by : (now : IsAgain l s) (x : Asking Outcome) → Again-by l s now x →
          Steps l side.Script (call_of (goes_on (resent l.place) x)) r (by_reply (goes_on (resent l.place) x) r)
      by now (Gives y) h = h r
      by now (Asks c k) h = h r

  script-steps : (rs : List Return) → l.returns ≡ rs → Stepped-by side.Script (script_turn rs l)
  script-steps [] e r = due-steps e (due_send l) refl r
  script-steps (q ∷ rest) e r = Releases q rest e (get l.maps q.map) refl

  queue-steps : (qs : List QueuedItem) → l.queue ≡ qs → Stepped-by side.Transfer (transfer_turn qs l)
  queue-steps [] e r = Stays Blocked NothingNow
  queue-steps (q ∷ rest) e r = by (transfer q.item l) (transfer-touches l q.item)
    where
      by : (x : Asking Outcome) → Only l (Transfer q.item) x →
          Steps l side.Transfer (call_of (goes_on (left_queue q rest) x)) r (by_reply (goes_on (left_queue q rest) x) r)
      by (Gives y) h = Leaves q rest e h
      by (Asks c k) h = absurd h

  callback-steps : Stepped-by side.Callback (callback_turn l)
  callback-steps (reply.Called m pages) = Calls m pages (called-makes l m pages)
  callback-steps _ = Stays Blocked (NoneCalled tt)

  pub turn-steps : (s : Side) → Stepped-by s (lane_step l s)
  turn-steps side.Script = script-steps l.returns refl
  turn-steps side.Transfer = queue-steps l.queue refl
  turn-steps side.Callback = callback-steps
