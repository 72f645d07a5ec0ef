-- The steps of a driver look at no operation of its script but the one at its place.
use Rattle.std.proofs.Common.{◌≡◌, ℕ, ◌+◌, ◌==◌, Bool, true, false, if◌then◌else◌, List, [], ◌∷◌, length, Option, Some}
use Rattle.std.proofs.Common.{None}
use Rattle.std.proofs.Common.{ap, ◌∙◌, map, nat_lt, nat_le, refl, not, ◌&&◌, ◌||◌, is_some, unwrap_or, slice_get, ◌^◌}
use Rattle.std.specs.FinMap.{contains_key, entries, get}
use Rattle.std.specs.List.{enumerate_from}
use Rattle.std.specs.Option.{option_and_then, option_map}
use Rattle.busdma_machine.specs.declared.bounce.hold.HubCall.{HubCall}
use Rattle.busdma_machine.specs.declared.bounce.hold.HubCall.TheVariants as hold
use Rattle.busdma_machine.specs.declared.bounce.hold.HubCall.TheVariants.{Grab}
use Rattle.busdma_machine.specs.declared.bounce.hold.HubReply.{HubReply}
use Rattle.busdma_machine.specs.declared.bounce.hold.HubReply.TheVariants as reply
use Rattle.busdma_machine.specs.declared.machine.bio.Bio.{Bio}
use Rattle.busdma_machine.specs.declared.machine.bio.Bio.TheVariants.{Mapped, Vector, Unmapped}
use Rattle.busdma_machine.specs.declared.machine.chunk.Chunk.{Chunk}
use Rattle.busdma_machine.specs.declared.report.Errno.TheVariants.{EINVAL}
use Rattle.busdma_machine.specs.declared.report.Judged.{Judged}
use Rattle.busdma_machine.specs.declared.report.Judged.TheVariants as judgement
use Rattle.busdma_machine.specs.declared.report.ReportName.{ReportName}
use Rattle.busdma_machine.specs.declared.report.ReportName.TheVariants.{MapBusy, NotLoaded, PastEnd, Untranslated}
use Rattle.busdma_machine.specs.declared.report.ReportName.TheVariants.{DeviceReadUnlent, DeviceWriteUnlent}
use Rattle.busdma_machine.specs.declared.tags.tag.TagLimits.{TagLimits}
use Rattle.busdma_base.specs.declared.journals.answer.Answer.TheVariants.{Refused, Done}
use Rattle.busdma_base.specs.declared.scenarios.buffer.Buffer.{Buffer}
use Rattle.busdma_base.specs.declared.scenarios.buffer.Buffer.TheVariants as buffer
use Rattle.busdma_base.specs.declared.scenarios.script.Item.{Item}
use Rattle.busdma_base.specs.declared.scenarios.script.Op.{Op}
use Rattle.busdma_base.specs.declared.scenarios.script.Place.{Place}
use Rattle.busdma_base.specs.declared.scenarios.script.Place.TheVariants.{At, In}
use Rattle.busdma_base.specs.Scenarios.PageRuns.{physical_in}
use Rattle.busdma_machine.specs.Judging.{judged}
use Rattle.busdma_machine.specs.Machine.Spans.{bio_spans, span_addresses}
use Rattle.busdma_machine.specs.Runs.{run_of}
use Rattle.busdma_machine.specs.Tags.Tag.{could_bounce, effective}
use Rattle.busdma_machine.specs.Tags.TagFlags.{allocnow}
use Rattle.busdma_rules.specs.Tags.SyncOps.{is_mixed}
use Rattle.busdma_rules.specs.Iommu.Device.{device_chunks, load_frames}
use Rattle.busdma_rules.specs.Iommu.Space.{first_free, translated}
use Rattle.lane_agreement.specs.After.{addresses_of_pages}
use Rattle.busdma_rules.specs.declared.position.Position.{Position}
use Rattle.busdma_rules.specs.Memory.Bios.{bio_translation, is_rounded}
use Rattle.busdma_rules.specs.Memory.Translation.{physical_or_0, unreached}
use Rattle.busdma_rules.specs.Memory.Vectors.{entries_of}
use Rattle.busdma_rules.specs.Segments.Chunks.{need_of}
use Rattle.ideal_lane.specs.State.{LaneState, LaneMap, LaneMemory, LaneRing, LaneTag, named}
use Rattle.ideal_lane.specs.Accesses as accesses
use Rattle.ideal_lane.specs.Accesses.{position_in, place_in, raw_refusal, unless_unlent}
use Rattle.ideal_lane.specs.Asking.{Asking, Gives, Asks, goes_on}
use Rattle.ideal_lane.specs.Loads.{Asked, asked, is_foreign_in, is_foreign_to, load_entries, load_judged}
use Rattle.ideal_lane.specs.Loads.{are_few, chunks_for, device_load, ended}
use Rattle.ideal_lane.specs.Loads.{finished, granted, is_device, limits_of, load}
use Rattle.ideal_lane.specs.Loads.{load_chunks, load_refusal, load_translation}
use Rattle.ideal_lane.specs.Loads.{taken, with_run, with_spaces, zone_of_map}
use Rattle.ideal_lane.specs.Outcomes.{Outcome, is_idle, is_loaded, refused, unless_absent, unless_refused, load_length}
use Rattle.ideal_lane.specs.Outcomes.{unless_busy, unless_unloaded, unless_past}
use Rattle.ideal_lane.specs.Places.{bytes_at, or_in_memory, physical, first_unreached, virtual_at}
use Rattle.ideal_lane.specs.Loads.{load_addresses}
use Rattle.ideal_lane.specs.Scripts.{LooksSame, looks_same, outcome_under, turned_under, with_script}
use Rattle.ideal_lane.specs.Sends as sends
use Rattle.ideal_lane.specs.State.{Stage, Idle, Waiting, Loaded, Returning, WaitingLoad}
use Rattle.ideal_lane.specs.Turns.{bio_at, load_buffer, never_waits, Turned}
use Rattle.ideal_lane.specs.Turns as turns
use Rattle.busdma_base.specs.declared.journals.journal.Did.TheVariants as did
use Rattle.busdma_base.specs.declared.journals.journal.Side.{Side}
use Rattle.busdma_base.specs.declared.journals.journal.Side.TheVariants as side
use Rattle.busdma_base.specs.declared.scenarios.script.Op.TheVariants as op
use Rattle.busdma_base.specs.declared.scenarios.script.Item.TheVariants as item
use Rattle.busdma_base.specs.Scenarios.Operations.{bytes_of}
use Rattle.busdma_machine.specs.declared.machine.address.Pa.{Pa}
use Rattle.busdma_machine.specs.Tags.Tag.{space_limits}
use Rattle.lane_agreement.specs.View.{Return}
use Rattle.busdma_base.specs.declared.scenarios.queued.QueuedItem.{QueuedItem}
use Rattle.busdma_base.specs.declared.journals.answer.Answer.{Answer}
use Rattle.busdma_base.specs.declared.journals.answer.Answer.TheVariants as answer
use Rattle.std.specs.Prelude.{replicate}
use Rattle.busdma_rules.specs.Lending.Access.{cpu_read_answer, cpu_write_answer, dev_read_refusal, dev_write_refusal}
use Rattle.busdma_rules.specs.Lending.SyncEffects.{sync_answer}
use Rattle.busdma_rules.specs.Lending.Loans.{loan_of, load_bytes}
use Rattle.busdma_rules.specs.Memory.Translation.{Translation}
use Rattle.busdma_rules.specs.declared.descriptor.Descriptor.{Descriptor}
use Rattle.busdma_rules.specs.Rings.Descriptors.{descriptor_bytes}
use Rattle.busdma_rules.specs.Rings.Ranges.{place_of}
use Rattle.ideal_lane.specs.IdealMemory.{is_known, written}
use Rattle.ideal_lane.specs.Maps as maps
use Rattle.ideal_lane.specs.Memories as memories
use Rattle.ideal_lane.specs.Outcomes.{gives}
use Rattle.ideal_lane.specs.Rings as rings
use Rattle.ideal_lane.specs.Syncs as syncs
use Rattle.ideal_lane.specs.Tags.{tag_by_reply, device_tag, has_maps}
use Rattle.ideal_lane.specs.Tags.{tag, tag_destroy, tag_or_invalid, with_tag}
use Rattle.ideal_lane.specs.Unloads as unloads
use Rattle.ideal_lane.specs.Unloads.{segments_in}
use Rattle.ideal_lane.proofs.Endings.{fits, fitting, too_big}

module _ (script : List Op) (l : LaneState) where
  -- the driver with the other script, and an outcome with it
  abbrev n : LaneState
  n = with_script script l

  abbrev other : Outcome → Outcome
  other = outcome_under script

  -- ---- where bytes lie

  same-place : (va : ℕ) (q : Option ℕ) → or_in_memory n va q ≡ or_in_memory l va q
  same-place va (Some pa) = refl
  same-place va None = refl

  pub same-physical : physical n ≡ physical l
  same-physical = (λ j va. same-place va (physical_in l.pages va) j)

  pub same-virtual : (p : Place) → virtual_at n p ≡ virtual_at l p
  same-virtual (At va) = refl
  same-virtual (In mem off) = refl

  same-bytes : (vas : List ℕ) → bytes_at n vas ≡ bytes_at l vas
  same-bytes vas = ap (λ t. map (physical_or_0 t) vas) same-physical

  same-reached : (va len : ℕ) → first_unreached n va len ≡ first_unreached l va len
  same-reached va len = ap (λ t. judged (unreached t) 0 (run_of va len)) same-physical

  same-translation : (b : Bio) → load_translation n b ≡ load_translation l b
  same-translation b = ap (λ t. bio_translation t b) same-physical

  same-to : (o : Option LaneMemory) (at va : ℕ) → is_foreign_to o n at va ≡ is_foreign_to o l at va
  same-to None at va = refl
  same-to (Some x) at va = refl

  same-foreign : (b : Bio) (o : Option LaneMemory) (at va : ℕ) → is_foreign_in b o n at va ≡ is_foreign_in b o l at va
  same-foreign (Mapped span) o at va = same-to o at va
  same-foreign (Vector spans) o at va = same-to o at va
  same-foreign (Unmapped frames off len) o at va = refl

  pub same-judged : (m : ℕ) (b : Bio) → load_judged n m b ≡ load_judged l m b
  same-judged m b =
      (λ j. judged (λ x. load_refusal (same-foreign b (get l.mems m) x.0 x.1 j) (same-translation b j x.1)) 0
      (enumerate_from 0 (span_addresses (bio_spans b))))

  same-entries : (b : Bio) → load_entries n b ≡ load_entries l b
  same-entries b = ap (λ t. entries_of (is_rounded b) t (bio_spans b)) (same-translation b)

  pub same-addresses : (b : Bio) → load_addresses n b ≡ load_addresses l b
  same-addresses b = ap (λ t. map (physical_or_0 t) (span_addresses (bio_spans b))) (same-translation b)

  pub same-asked : (m : ℕ) (b : Bio) (nowait : Bool) (items : List Item) →
      asked m b nowait items n ≡ asked m b nowait items l
  same-asked m b nowait items =
      (λ j. record (asked m b nowait items l) { judged = same-judged m b j; entries = same-entries b j })

  pub same-bio : (b : Buffer) → bio_at n b ≡ bio_at l b
  same-bio (buffer.Flat at len) = ap (option_map (λ va. _)) (same-virtual at)
  same-bio (buffer.Vector spans) = refl
  same-bio (buffer.Mbuf chain) = refl
  same-bio (buffer.Bio b) = refl
  same-bio (buffer.Send chain clusters) = refl

  -- ---- refusals

  abbrev Same : Asking Outcome → Asking Outcome → Type 0
  Same x y = x ≡ goes_on other y

  absent : {X : Type 0} (q : Option X) (f g : X → Asking Outcome) → ((x : X) → Same (f x) (g x)) →
      Same (unless_absent q n f) (unless_absent q l g)
  absent None f g h = refl
  absent (Some x) f g h = h x

  judge : (j : Judged) (f g : Asking Outcome) → Same f g → Same (unless_refused j n f) (unless_refused j l g)
  judge judgement.Fine f g h = h
  judge (judgement.Refused r) f g h = refl

  choose : (b : Bool) (f g p q : Asking Outcome) → Same f g → Same p q → Same (if b then f else p) (if b then g else q)
  choose true f g p q h k = h
  choose false f g p q h k = k

  busy : (m : ℕ) (f g : LaneMap → Asking Outcome) → ((o : LaneMap) → Same (f o) (g o)) →
      Same (unless_busy m n f) (unless_busy m l g)
  busy m f g h =
      absent (get l.maps m) (λ o. if is_idle o.stage then f o else refused MapBusy 0 n)
      (λ o. if is_idle o.stage then g o else refused MapBusy 0 l)
      (λ o. choose (is_idle o.stage) (f o) (g o) (refused MapBusy 0 n) (refused MapBusy 0 l) (h o) refl)

  unloaded : (m : ℕ) (f g : LaneMap → Asking Outcome) → ((o : LaneMap) → Same (f o) (g o)) →
      Same (unless_unloaded m n f) (unless_unloaded m l g)
  unloaded m f g h =
      absent (get l.maps m) (λ o. if is_loaded o.stage then f o else refused NotLoaded 0 n)
      (λ o. if is_loaded o.stage then g o else refused NotLoaded 0 l)
      (λ o. choose (is_loaded o.stage) (f o) (g o) (refused NotLoaded 0 n) (refused NotLoaded 0 l) (h o) refl)

  past : (m off len : ℕ) (f g : Asking Outcome) → Same f g → Same (unless_past m off len n f)
      (unless_past m off len l g)
  past m off len f g h =
      choose (nat_le (off + len) (load_length l m)) f g (refused PastEnd _ n) (refused PastEnd _ l) h refl

  -- ---- the load

  module _ (m : ℕ) (x : Asked) (o : LaneMap) where
    finished-same : (at : ℕ) (chunks : List Chunk) (pages : List ℕ) →
        finished m o at x chunks pages n ≡ other (finished m o at x chunks pages l)
    finished-same at chunks pages = by (fits l m o at x chunks pages)
      where
        by : (fit : Bool) →
            (if fit then fitting n m o at x chunks pages else too_big n m o at x chunks pages)
            ≡ other (if fit then fitting l m o at x chunks pages else too_big l m o at x chunks pages)
        by true = refl
        by false = refl

    taken-same : (q : Option ℕ) → taken m o x q n ≡ other (taken m o x q l)
    taken-same None = refl
    taken-same (Some first) =
        let chunks : List Chunk = device_chunks first 0 x.entries in
        ap (with_spaces (with_run (are_few (limits_of l o) chunks) o.tag first (load_frames x.entries) l.spaces))
        (finished-same l.place chunks [])

    device-same : device_load m o x n ≡ other (device_load m o x l)
    device-same = by (length (load_frames x.entries) == 0)
      where
        by : (none : Bool) →
            (if none then finished m o n.place x (device_chunks 0 0 x.entries) [] n
            else taken m o x (first_free (n.spaces o.tag) (length (load_frames x.entries))) n)
            ≡ other
            (if none then finished m o l.place x (device_chunks 0 0 x.entries) [] l
            else taken m o x (first_free (l.spaces o.tag) (length (load_frames x.entries))) l)
        by true = finished-same l.place (device_chunks 0 0 x.entries) []
        by false = taken-same (first_free (l.spaces o.tag) (length (load_frames x.entries)))

    granted-same : (chunks : List Chunk) (r : HubReply) → granted m o x chunks n r ≡ other (granted m o x chunks l r)
    granted-same chunks (reply.Granted pages) = finished-same l.place chunks (addresses_of_pages pages)
    granted-same chunks (reply.Queued have) = refl
    granted-same chunks _ = refl

    abbrev grab : List Chunk → HubCall
    grab chunks = Grab (named l m) (record { 0 = zone_of_map o }) (need_of chunks) x.nowait

    chunks-same : (chunks : List Chunk) → Same (load_chunks m o x chunks n) (load_chunks m o x chunks l)
    chunks-same chunks =
        choose (need_of chunks == 0) (Gives (finished m o n.place x chunks [] n))
        (Gives (finished m o l.place x chunks [] l))
        (Asks (grab chunks) (granted m o x chunks n)) (Asks (grab chunks) (granted m o x chunks l))
        (ap Gives (finished-same l.place chunks [])) (λ j. Asks (grab chunks) (λ r. granted-same chunks r j))

  pub load-same : (m : ℕ) (x : Asked) → Same (load m x n) (load m x l)
  load-same m x =
      busy m _ _ (λ o. judge x.judged _ _ (
      choose (nat_lt (limits_of l o).maxsize x.len) (Gives (ended m o (Refused EINVAL) n))
      (Gives (ended m o (Refused EINVAL) l)) _ _ refl (
      choose (is_device l o) (Gives (device_load m o x n)) (Gives (device_load m o x l)) _ _
      (ap Gives (device-same m x o))
      (chunks-same m x o (chunks_for l o (contains_key l.mems m) x.entries)))))

  load-buffer-same : (m : ℕ) (b : Buffer) (flags : ℕ) (items : List Item) →
      Same (load_buffer m b flags items n) (load_buffer m b flags items l)
  load-buffer-same m b flags items =
      ap (λ q. unless_absent q n (begun n)) (same-bio b) ∙ absent (bio_at l b) (begun n) (begun l) (λ x.
      ap (λ y. load m y n) (same-asked m x (never_waits b flags) items)
      ∙ load-same m (asked m x (never_waits b flags) items l))
    where
      begun : LaneState → Bio → Asking Outcome
      begun k x = load m (asked m x (never_waits b flags) items k) k

  -- ---- tags, maps and memories

  tag-same : (q : Option TagLimits) → Same (tag_or_invalid q n) (tag_or_invalid q l)
  tag-same None = refl
  tag-same (Some t) =
      choose (could_bounce t l.maxmem && allocnow t.flags) _ _ _ _
      (λ j. Asks (hold.AttachTag t) (λ r. by r j)) refl
    where
      grown : (made : Bool) → (if made then with_tag l.place t true n else n)
          ≡ with_script script (if made then with_tag l.place t true l else l)
      grown true = refl
      grown false = refl

      by : (r : HubReply) → tag_by_reply t n r ≡ other (tag_by_reply t l r)
      by (reply.Grown g) = (λ j. record { lane = grown g.made j; answer = answer.Grown g })
      by _ = refl

  tags-same : (parent : Option ℕ) (limits : TagLimits) → Same (tag parent limits n) (tag parent limits l)
  tags-same None limits = tag-same (effective None limits)
  tags-same (Some p) limits = absent (get l.tags p) _ _ (λ t. tag-same (effective (Some t.limits) limits))

  device-tag-same : (q : Option TagLimits) → Same (device_tag q n) (device_tag q l)
  device-tag-same None = refl
  device-tag-same (Some t) = refl

  destroy-same : (t : ℕ) → Same (tag_destroy t n) (tag_destroy t l)
  destroy-same t = absent (get l.tags t) _ _ (λ o. choose (has_maps l t) _ _ _ _ refl refl)

  map-same : (t : ℕ) → Same (maps.map t n) (maps.map t l)
  map-same t =
      absent (get l.tags t) _ _
      (λ o. choose (maps.bounces l.maxmem o) _ _ _ _
      (λ j. Asks (hold.CreateMap (named l l.place) o.limits o.first_done) (λ r. by o r j)) refl)
    where
      grown : (o : LaneTag) (z : ℕ) (made : Bool) →
          (if made then with_tag t o.limits true (maps.with_map t (Some z) n) else n)
          ≡ with_script script (if made then with_tag t o.limits true (maps.with_map t (Some z) l) else l)
      grown o z true = refl
      grown o z false = refl

      by : (o : LaneTag) (r : HubReply) → maps.map_by_reply t o n r ≡ other (maps.map_by_reply t o l r)
      by o (reply.Grown g) = (λ j. record { lane = grown o g.zone.0 g.made j; answer = answer.Grown g })
      by o _ = refl

  end-same : (m : ℕ) (zone : Option ℕ) → Same (maps.end_map m zone n) (maps.end_map m zone l)
  end-same m None = refl
  end-same m (Some z) = refl

  map-destroy-same : (m : ℕ) → Same (maps.map_destroy m n) (maps.map_destroy m l)
  map-destroy-same m = absent (get l.maps m) _ _ (λ o. choose (is_idle o.stage) _ _ _ _ (end-same m o.zone) refl)

  await-same : (m : ℕ) → Same (maps.await m n) (maps.await m l)
  await-same m = absent (get l.maps m) _ _ (λ o. choose o.tried _ _ _ _ refl refl)

  dmamem-same : (t flags : ℕ) → Same (memories.dmamem t flags n) (memories.dmamem t flags l)
  dmamem-same t flags =
      absent (get l.tags t) _ _ (λ o. (λ j. Asks (hold.MemAlloc (named l l.place) o.limits) (λ r. by o r j)))
    where
      by : (o : LaneTag) (r : HubReply) → memories.memory_by_reply t o.limits flags n r
          ≡ other (memories.memory_by_reply t o.limits flags l r)
      by o (reply.Run first count) = refl
      by o _ = refl

  free-same : (m : ℕ) → Same (memories.dmamem_free m n) (memories.dmamem_free m l)
  free-same m =
      absent (get l.mems m) _ _ (λ x. absent (get l.maps m) _ _ (λ o. choose (is_idle o.stage) _ _ _ _ refl refl))

  unload-same : (m : ℕ) → Same (unloads.unload m n) (unloads.unload m l)
  unload-same m = unloaded m _ _ (λ o. refl)

  -- ---- syncs and accesses

  part-same : (m : ℕ) (o : LaneMap) (off len ops : ℕ) →
      Same (syncs.sync_part m o off len ops n) (syncs.sync_part m o off len ops l)
  part-same m o off len ops =
      choose (is_mixed ops) _ _ _ _ refl (judge (sync_answer l.loans m off len ops) _ _ refl)

  sync-same : (m ops : ℕ) → Same (syncs.sync m ops n) (syncs.sync m ops l)
  sync-same m ops = unloaded m _ _ (λ o. part-same m o 0 (load_length l m) ops)

  sync-range-same : (m off len ops : ℕ) → Same (syncs.sync_range m off len ops n) (syncs.sync_range m off len ops l)
  sync-range-same m off len ops = unloaded m _ _ (λ o. past m off len _ _ (part-same m o off len ops))

  cpu-read-same : (p : Place) (len : ℕ) → Same (accesses.cpu_read p len n) (accesses.cpu_read p len l)
  cpu-read-same p len =
      ap (λ q. unless_absent q n (read n (physical n))) (same-virtual p)
      ∙ absent (virtual_at l p) (read n (physical n)) (read l (physical l)) (λ va.
      ap (λ t. read n t va) same-physical ∙ same-read (physical l) va)
    where
      read : LaneState → Translation → ℕ → Asking Outcome
      read k t va =
          unless_refused (judged (unreached t) 0 (run_of va len)) k (
          unless_refused (cpu_read_answer (is_known k.memory) k.loans (map (physical_or_0 t) (run_of va len))) k (
          gives k (answer.Bytes (accesses.values k (map (physical_or_0 t) (run_of va len))))))

      same-read : (t : Translation) (va : ℕ) → Same (read n t va) (read l t va)
      same-read t va =
          judge (judged (unreached t) 0 (run_of va len)) _ _ (
          judge (cpu_read_answer (is_known l.memory) l.loans (map (physical_or_0 t) (run_of va len)))
          (gives n (answer.Bytes (accesses.values n (map (physical_or_0 t) (run_of va len)))))
          (gives l (answer.Bytes (accesses.values l (map (physical_or_0 t) (run_of va len))))) refl)

  cpu-write-same : (p : Place) (vs : List ℕ) → Same (accesses.cpu_write p vs n) (accesses.cpu_write p vs l)
  cpu-write-same p vs =
      ap (λ q. unless_absent q n (write n (physical n))) (same-virtual p)
      ∙ absent (virtual_at l p) (write n (physical n)) (write l (physical l)) (λ va.
      ap (λ t. write n t va) same-physical ∙ same-write (physical l) va)
    where
      stored : LaneState → Translation → ℕ → LaneState
      stored k t va = record k { memory = written (map (physical_or_0 t) (run_of va (length vs))) vs k.memory }

      write : LaneState → Translation → ℕ → Asking Outcome
      write k t va =
          unless_refused (judged (unreached t) 0 (run_of va (length vs))) k (
          unless_refused (cpu_write_answer k.loans (map (physical_or_0 t) (run_of va (length vs)))) k (
          gives (stored k t va) answer.Done))

      same-write : (t : Translation) (va : ℕ) → Same (write n t va) (write l t va)
      same-write t va =
          judge (judged (unreached t) 0 (run_of va (length vs))) _ _ (
          judge (cpu_write_answer l.loans (map (physical_or_0 t) (run_of va (length vs))))
          (gives (stored n t va) answer.Done) (gives (stored l t va) answer.Done) refl)

  unread-same : (m off len : ℕ) (f g : Asking Outcome) → Same f g →
      Same (accesses.unless_unread m off len n f) (accesses.unless_unread m off len l g)
  unread-same m off len f g h = unloaded m _ _ (λ o. past m off len _ _ (judge _ f g h))

  dev-read-same : (m off len : ℕ) → Same (accesses.dev_read m off len n) (accesses.dev_read m off len l)
  dev-read-same m off len = unread-same m off len _ _ refl

  dev-write-same : (m off : ℕ) (vs : List ℕ) → Same (accesses.dev_write m off vs n) (accesses.dev_write m off vs l)
  dev-write-same m off vs = unloaded m _ _ (λ o. past m off (length vs) _ _ (judge _ _ _ refl))

  position-same : (t a : ℕ) (es : List (ℕ × LaneMap)) → position_in n t a es ≡ position_in l t a es
  position-same t a [] = refl
  position-same t a (e ∷ es) =
      ap (λ q. if e.1.tag == t && is_some (place_in 0 (segments_in e.1.stage) a)
      then slice_get (loan_of l.loans e.0).positions (unwrap_or (place_in 0 (segments_in e.1.stage) a) 0) else q)
      (position-same t a es)

  raw-same : (unlent : ReportName) (refusal : Position → Option ReportName) (t : ℕ) →
      raw_refusal unlent refusal n t ≡ raw_refusal unlent refusal l t
  raw-same unlent refusal t =
      (λ j a. if nat_le (2 ^ 64) a || not (is_some (translated (l.spaces t) a)) then Some Untranslated
      else unless_unlent unlent refusal (position-same t a (entries l.maps) j))

  dev-read-at-same : (t addr len : ℕ) → Same (accesses.dev_read_at t addr len n) (accesses.dev_read_at t addr len l)
  dev-read-at-same t addr len =
      absent (get l.tags t) _ _ (λ o.
      ap (λ f. unless_refused (judged f 0 (run_of addr len)) n
      (gives n (answer.Bytes (accesses.values n (accesses.raw_bytes n t (run_of addr len))))))
      (raw-same DeviceReadUnlent (dev_read_refusal (is_known l.memory) false) t)
      ∙ judge _ _ _ refl)

  dev-write-at-same : (t addr : ℕ) (vs : List ℕ) → Same (accesses.dev_write_at t addr vs n)
      (accesses.dev_write_at t addr vs l)
  dev-write-at-same t addr vs =
      absent (get l.tags t) _ _ (λ o.
      ap (λ f. unless_refused (judged f 0 (run_of addr (length vs))) n
      (gives (record n { memory = written (accesses.raw_bytes n t (run_of addr (length vs))) vs n.memory })
      answer.Done)) (raw-same DeviceWriteUnlent (dev_write_refusal false) t)
      ∙ judge _ _ _ refl)

  -- ---- rings

  ring-same : (mem slots : ℕ) → Same (rings.ring mem slots n) (rings.ring mem slots l)
  ring-same mem slots = absent (get l.mems mem) _ _ (λ x. choose (rings.fits_in slots x) _ _ _ _ refl refl)

  post-same : (k slot m off len kind fill : ℕ) →
      Same (rings.ring_post k slot m off len kind fill n) (rings.ring_post k slot m off len kind fill l)
  post-same k slot m off len kind fill =
      absent (get l.rings k) _ _ (λ r. absent (get l.mems r.mem) _ _ (λ x. unloaded m _ _ (λ o. past m off len _ _ (
      choose (rings.may_post r slot m o off len kind l) _ _ _ _
      (cpu-write-same (rings.slot_place r slot)
      (descriptor_bytes (rings.posted (segments_in o.stage) off len kind fill))) refl))))

  kick-same : (k : ℕ) (steps : List Item) → Same (rings.kick k steps n) (rings.kick k steps l)
  kick-same k steps = absent (get l.rings k) _ _ (λ r. refl)

  candidates-same : (d : Descriptor) (own : ℕ) (es : List (ℕ × LaneMap)) →
      rings.candidates_in d own n es ≡ rings.candidates_in d own l es
  candidates-same d own [] = refl
  candidates-same d own (e ∷ es) =
      ap (λ q. if rings.is_left_out own l e then q
      else rings.before_others e.0 (place_of d.addr d.len (segments_in e.1.stage)) q) (candidates-same d own es)

  blame-same : (d : Descriptor) (c : Option rings.Candidate) → rings.blame d n c ≡ rings.blame d l c
  blame-same d None = refl
  blame-same d (Some c) = refl

  module _ (k : ℕ) (r : LaneRing) (d : Descriptor) where
    fetched-same : (c : rings.Candidate) → rings.fetched k r d c n ≡ other (rings.fetched k r d c l)
    fetched-same c = by (d.kind == 1)
      where
        used : Bool → LaneState → LaneState
        used b x = if b then x else rings.stored c.map c.off d.len (replicate d.len d.fill) x

        told : Bool → Answer
        told b = if b then answer.Bytes (accesses.values l (load_bytes l.loans c.map c.off d.len)) else answer.Done

        by : (b : Bool) →
            ◌≡◌ {A = Outcome}
            (record { lane = rings.moved_on k r (rings.retired r (used b n)); answer = told b })
            (other (record { lane = rings.moved_on k r (rings.retired r (used b l)); answer = told b }))
        by true = refl
        by false = refl

    first-same : (cs : List rings.Candidate) (c : Option rings.Candidate) →
        Same (rings.at_first k r d cs c n) (rings.at_first k r d cs c l)
    first-same cs None = ap (λ x. gives n (answer.Report x)) (blame-same d (slice_get cs 0))
    first-same cs (Some c) = ap Gives (fetched-same c)

    fetch-same : Same (rings.fetch k r d n) (rings.fetch k r d l)
    fetch-same =
        choose (not (d.owner == 1)) _ _ _ _ refl (choose (not (rings.is_work d.kind d.len)) _ _ _ _ refl (
        ap (λ cs. rings.at_first k r d cs (slice_get (rings.allowed d l cs) 0) n)
        (candidates-same (rings.head_of r l) r.mem (entries l.maps))
        ∙ first-same (rings.candidates r l) (slice_get (rings.allowed d l (rings.candidates r l)) 0)))

  ring-step-same : (k : ℕ) → Same (rings.ring_step k n) (rings.ring_step k l)
  ring-step-same k =
      absent (get l.rings k) _ _ (λ r. unread-same r.mem (rings.head_at r) 16 _ _ (fetch-same k r (rings.head_of r l)))

  -- ---- what operations and items do

  pub operation-same : (o : Op) → Same (turns.operation o n) (turns.operation o l)
  operation-same (op.Tag name parent limits) = tags-same parent limits
  operation-same (op.IommuTag name limits) = device-tag-same (effective None (space_limits limits))
  operation-same (op.TagDestroy t) = destroy-same t
  operation-same (op.Map name t) = map-same t
  operation-same (op.MapDestroy m) = map-destroy-same m
  operation-same (op.Dmamem name t flags) = dmamem-same t flags
  operation-same (op.DmamemFree m) = free-same m
  operation-same (op.Load m b flags items) = load-buffer-same m b flags items
  operation-same (op.Unload m) = unload-same m
  operation-same (op.Sync m ops) = sync-same m ops
  operation-same (op.SyncRange m off len ops) = sync-range-same m off len ops
  operation-same (op.CpuRead p len) = cpu-read-same p len
  operation-same (op.CpuWrite p bytes) = cpu-write-same p (bytes_of bytes)
  operation-same (op.Await m) = await-same m
  operation-same (op.Ring name mem slots) = ring-same mem slots
  operation-same (op.RingPost k slot m off len kind fill) = post-same k slot m off len kind fill
  operation-same (op.Kick k steps) = kick-same k steps

  transfer-same : (i : Item) → Same (turns.transfer i n) (turns.transfer i l)
  transfer-same (item.Sync m ops) = sync-same m ops
  transfer-same (item.SyncRange m off len ops) = sync-range-same m off len ops
  transfer-same (item.DevRead m off len) = dev-read-same m off len
  transfer-same (item.DevWrite m off bytes) = dev-write-same m off (bytes_of bytes)
  transfer-same (item.DevReadAt t addr len) = dev-read-at-same t addr len
  transfer-same (item.DevWriteAt t addr bytes) = dev-write-at-same t addr (bytes_of bytes)
  transfer-same (item.RingStep k) = ring-step-same k

  pub waits-same : (o : Op) → turns.waits o n ≡ turns.waits o l
  waits-same (op.Tag name parent limits) = refl
  waits-same (op.IommuTag name limits) = refl
  waits-same (op.TagDestroy t) = refl
  waits-same (op.Map name t) = refl
  waits-same (op.MapDestroy m) = refl
  waits-same (op.Dmamem name t flags) = refl
  waits-same (op.DmamemFree m) = refl
  waits-same (op.Load m b flags items) = refl
  waits-same (op.Unload m) = refl
  waits-same (op.Sync m ops) = refl
  waits-same (op.SyncRange m off len ops) = refl
  waits-same (op.CpuRead p len) = refl
  waits-same (op.CpuWrite p bytes) = refl
  waits-same (op.Await m) = refl
  waits-same (op.Ring name mem slots) = refl
  waits-same (op.RingPost k slot m off len kind fill) = refl
  waits-same (op.Kick k steps) = refl

module _ (script : List Op) where
  abbrev under : Turned → Turned
  under = turned_under script

  -- the end of a step, which looks at no script
  ends-same : (f : Outcome → Turned) → ((o : Outcome) → f (outcome_under script o) ≡ under (f o)) →
      (x y : Asking Outcome) → x ≡ goes_on (outcome_under script) y → goes_on f x ≡ goes_on under (goes_on f y)
  ends-same f h x y e = ap (goes_on f) e ∙ by y
    where
      by : (y : Asking Outcome) → goes_on f (goes_on (outcome_under script) y) ≡ goes_on under (goes_on f y)
      by (Gives o) = ap Gives (h o)
      by (Asks c k) = (λ j. Asks c (λ r. h (k r) j))

  went-same : (o : Op) (place : ℕ) (x : Outcome) →
      turns.went_on o place (outcome_under script x) ≡ under (turns.went_on o place x)
  went-same o place x = by (sends.is_kept (sends.send_of o) x.answer)
    where
      by : (b : Bool) →
          (if b then turns.kept place (outcome_under script x) else turns.advanced place (outcome_under script x))
          ≡ under (if b then turns.kept place x else turns.advanced place x)
      by true = refl
      by false = refl

  module _ (l : LaneState) where
    abbrev m : LaneState
    m = with_script script l

    next-same : (o : Option Op) → turns.next_operation o m ≡ goes_on under (turns.next_operation o l)
    next-same None = refl
    next-same (Some o) =
        ap (λ b. if b then Gives (turns.stays turns.Blocked m) else goes_on (turns.went_on o l.place)
        (turns.operation o m))
        (waits-same script l o) ∙ by (turns.waits o l)
      where
        by : (b : Bool) →
            (if b then Gives (turns.stays turns.Blocked m) else goes_on (turns.went_on o l.place) (turns.operation o m))
            ≡ goes_on under
            (if b then Gives (turns.stays turns.Blocked l) else goes_on (turns.went_on o l.place) (turns.operation o l))
        by true = refl
        by false =
            ends-same (turns.went_on o l.place) (went-same o l.place) (turns.operation o m) (turns.operation o l)
            (operation-same script l o)

    -- a resend, which copies bytes and then loads
    resend-same : (s : sends.Send) → sends.resend s m ≡ goes_on (outcome_under script) (sends.resend s l)
    resend-same s =
        busy script l s.map (beyond m (load_judged m s.map (Vector s.clusters)) (sends.chain_bytes s m)
        (sends.cluster_bytes s m))
        (beyond l (load_judged l s.map (Vector s.clusters)) (sends.chain_bytes s l) (sends.cluster_bytes s l)) (λ o.
        (λ j. beyond m (same-judged script l s.map (Vector s.clusters) j) (same-addresses script l (Vector s.chain) j)
        (same-addresses script l (Vector s.clusters) j) o) ∙
        judge script l (load_judged l s.map (Vector s.clusters)) _ _ (
        judge script l (cpu_read_answer (is_known l.memory) l.loans (sends.chain_bytes s l)) _ _ (
        judge script l (cpu_write_answer l.loans (sends.cluster_bytes s l)) _ _ (
        ap (λ x. load s.map x m') (same-asked script (sends.copied s l) s.map (Vector s.clusters) true s.items)
        ∙ load-same script (sends.copied s l) s.map
        (asked s.map (Vector s.clusters) true s.items (sends.copied s l))))))
      where
        beyond : LaneState → Judged → List ℕ → List ℕ → LaneMap → Asking Outcome
        beyond k j from to o =
            unless_refused j k (
            unless_refused (cpu_read_answer (is_known k.memory) k.loans from) k (
            unless_refused (cpu_write_answer k.loans to) k (
            sends.load_again s (sends.with_bytes (written to (accesses.values k from) k.memory) k))))

        m' : LaneState
        m' = with_script script (sends.copied s l)

    due-same : (q : Option sends.Send) → slice_get script l.place ≡ slice_get l.script l.place →
        turns.due_turn q m ≡ goes_on under (turns.due_turn q l)
    due-same None e = ap (λ o. turns.next_operation o m) e ∙ next-same (slice_get l.script l.place)
    due-same (Some s) e =
        ends-same (turns.resent l.place) (λ o. refl) (sends.resend s m) (sends.resend s l) (resend-same s)

    due-send-same : slice_get script l.place ≡ slice_get l.script l.place → sends.due_send m ≡ sends.due_send l
    due-send-same e = ap (λ o. if l.due then option_and_then sends.send_of o else None) e

    restaged-same : (k : ℕ) (o : Option LaneMap) (s : Stage) →
        unloads.restaged k o s m ≡ with_script script (unloads.restaged k o s l)
    restaged-same k None s = refl
    restaged-same k (Some o) s = refl

    release-same : (r : Return) (rest : List Return) → turns.release r rest m ≡ goes_on under (turns.release r rest l)
    release-same r rest = by (get l.maps r.map)
      where
        released : Option LaneMap → LaneState → Asking Turned
        released o k =
            let page : Pa = record { 0 = r.page } in
            Asks (hold.Release (named k r.map) (record { 0 = r.zone }) page) (λ got.
            turns.stepped side.Script (did.Release (named k r.map) page)
            (record {
              lane = record (unloads.restaged r.map o (unloads.after_return r.map rest) k) { returns = rest };
              answer = answer.Served (turns.maps_completed got);
            }))

        by : (o : Option LaneMap) → released o m ≡ goes_on under (released o l)
        by None = refl
        by (Some o) = refl

    queue-same : (qs : List QueuedItem) → turns.transfer_turn qs m ≡ goes_on under (turns.transfer_turn qs l)
    queue-same [] = refl
    queue-same (q ∷ rest) =
        ends-same (turns.left_queue q rest) (λ o. refl) (turns.transfer q.item m) (turns.transfer q.item l)
        (transfer-same script l q.item)

    called-at-same : (k : ℕ) (o : LaneMap) (w : WaitingLoad) (pages : List ℕ) →
        turns.called_at k o w pages m ≡ outcome_under script (turns.called_at k o w pages l)
    called-at-same k o w pages =
        ap (λ x. finished k o w.load_at x (chunks_for m o (contains_key m.mems k) x.entries) pages m)
        (same-asked script l k w.bio false w.items)
        ∙ (let x : Asked = asked k w.bio false w.items l in
        finished-same script l k x o w.load_at (chunks_for l o (contains_key l.mems k) x.entries) pages)

    called-in-same : (k : ℕ) (o : LaneMap) (s : Stage) (pages : List ℕ) →
        turns.called_in k o s pages m ≡ outcome_under script (turns.called_in k o s pages l)
    called-in-same k o Idle pages = refl
    called-in-same k o (Waiting w) pages = called-at-same k o w pages
    called-in-same k o (Loaded bounced segments held) pages = refl
    called-in-same k o Returning pages = refl

    called-same : (k : ℕ) (o : Option LaneMap) (pages : List ℕ) →
        turns.called k o pages m ≡ outcome_under script (turns.called k o pages l)
    called-same k None pages = refl
    called-same k (Some o) pages = called-in-same k o o.stage pages

    called-back-same : (r : HubReply) → turns.called_back m r ≡ under (turns.called_back l r)
    called-back-same (reply.Called k pages) =
        ap (turns.stepped side.Callback (did.Callback k))
        (called-same k.made_at (get l.maps k.made_at) (addresses_of_pages pages))
    called-back-same _ = refl

    script-same : (rs : List Return) → looks_same side.Script rs script l →
        turns.script_turn rs m ≡ goes_on under (turns.script_turn rs l)
    script-same [] e = ap (λ q. turns.due_turn q m) (due-send-same e) ∙ due-same (sends.due_send l) e
    script-same (r ∷ rest) e = release-same r rest

    -- each turn of a driver with another script that looks the same
    pub turn-same : (s : Side) → LooksSame s script l → turns.lane_step m s ≡ goes_on under (turns.lane_step l s)
    turn-same side.Script e = script-same l.returns e
    turn-same side.Transfer e = queue-same l.queue
    turn-same side.Callback e = (λ j. Asks hold.TakeCallback (λ r. called-back-same r j))
