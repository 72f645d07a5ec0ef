-- What a turn is: it steps or leaves its driver as it was, and only the turn of the callbacks asks for a callback.
use Rattle.std.proofs.Common.{◌≡◌, ℕ, ◌+◌, ◌-◌, ◌==◌, ◌&&◌, not, Bool, true, false, List, [], ◌∷◌, length, nat_le}
use Rattle.std.proofs.Common.{nat_lt}
use Rattle.std.proofs.Common.{Option, Some, None, if◌then◌else◌, inl, inr, ◌⊎◌, refl, slice_get}
use Rattle.std.specs.FinMap.{get, contains_key}
use Rattle.busdma_machine.specs.declared.bounce.hold.HubCall.{HubCall}
use Rattle.busdma_machine.specs.declared.bounce.hold.HubCall.TheVariants as call
use Rattle.busdma_machine.specs.declared.bounce.hold.HubReply.{HubReply}
use Rattle.busdma_machine.specs.declared.bounce.zone.Waiter.{Waiter}
use Rattle.busdma_base.specs.declared.journals.answer.Answer.TheVariants as answer
use Rattle.busdma_base.specs.declared.journals.journal.Side.{Side}
use Rattle.busdma_base.specs.declared.journals.journal.Side.TheVariants as side
use Rattle.busdma_machine.specs.declared.machine.bio.Bio.TheVariants.{Vector}
use Rattle.busdma_machine.specs.declared.report.Judged.{Judged}
use Rattle.busdma_machine.specs.declared.report.Judged.TheVariants.{Fine, Refused}
use Rattle.busdma_machine.specs.declared.report.ReportName.TheVariants.{DeviceReadUnlent, DeviceWriteUnlent, MapBusy}
use Rattle.busdma_machine.specs.declared.report.ReportName.TheVariants.{NotLoaded, PastEnd}
use Rattle.busdma_base.specs.declared.scenarios.buffer.Buffer.{Buffer}
use Rattle.busdma_base.specs.declared.scenarios.script.Item.{Item}
use Rattle.busdma_base.specs.declared.scenarios.script.Item.TheVariants as item
use Rattle.busdma_base.specs.declared.scenarios.script.Op.{Op}
use Rattle.busdma_base.specs.declared.scenarios.script.Op.TheVariants as op
use Rattle.busdma_base.specs.declared.scenarios.script.Place.{Place}
use Rattle.busdma_machine.specs.declared.tags.tag.TagLimits.{TagLimits}
use Rattle.busdma_machine.specs.Bounce.Account.{Account}
use Rattle.busdma_machine.specs.Bounce.AccountStep.{called_from}
use Rattle.busdma_machine.specs.Bounce.History.{is_entry}
use Rattle.busdma_machine.specs.Judging as judging
use Rattle.busdma_machine.specs.Runs.{run_of}
use Rattle.busdma_base.specs.Scenarios.Operations.{bytes_of}
use Rattle.busdma_machine.specs.Tags.Tag.{effective, could_bounce, space_limits}
use Rattle.busdma_machine.specs.Tags.TagFlags.{allocnow}
use Rattle.busdma_rules.specs.Tags.SyncOps.{is_mixed}
use Rattle.lane_agreement.specs.View.{Return}
use Rattle.busdma_base.specs.declared.scenarios.queued.QueuedItem.{QueuedItem}
use Rattle.busdma_rules.specs.Lending.Access.{cpu_read_answer, cpu_write_answer, dev_read_answer, dev_read_refusal}
use Rattle.busdma_rules.specs.Lending.Access.{dev_write_answer, dev_write_refusal}
use Rattle.busdma_rules.specs.Lending.SyncEffects.{lost, sync_answer, synced}
use Rattle.busdma_rules.specs.Lending.Loans.{load_bytes, loan_of}
use Rattle.busdma_rules.specs.Segments.Chunks.{need_of}
use Rattle.busdma_rules.specs.declared.descriptor.Descriptor.{Descriptor}
use Rattle.busdma_rules.specs.Rings.Descriptors.{descriptor_bytes}
use Rattle.ideal_lane.specs.State.{LaneState, LaneMap, LaneMemory, LaneRing, LaneTag}
use Rattle.ideal_lane.specs.Accesses.{cpu_read, cpu_write, dev_read, dev_read_at, dev_write, dev_write_at, values}
use Rattle.ideal_lane.specs.Accesses.{raw_bytes, raw_refusal}
use Rattle.ideal_lane.specs.Asking.{Asking, Gives, Asks, goes_on}
use Rattle.ideal_lane.specs.IdealMemory.{forgotten, is_known, written}
use Rattle.ideal_lane.specs.Loads.{Asked, asked, is_device, limits_of, chunks_for, load, load_judged}
use Rattle.ideal_lane.specs.Maps.{bounces, map, end_map, map_destroy, await}
use Rattle.ideal_lane.specs.Memories.{dmamem, dmamem_free}
use Rattle.ideal_lane.specs.Outcomes.{Outcome, gives, refused, unless_absent, unless_refused, unless_busy}
use Rattle.ideal_lane.specs.Outcomes.{unless_unloaded}
use Rattle.ideal_lane.specs.Outcomes.{unless_past, is_idle, is_loaded, load_length}
use Rattle.ideal_lane.specs.Places.{bytes_at, first_unreached, virtual_at}
use Rattle.ideal_lane.specs.Rings.{Candidate, allowed, at_first, candidates, fits_in, head_at, head_of, is_work, kick}
use Rattle.ideal_lane.specs.Rings.{may_post, posted, ring, ring_post, ring_step, slot_place}
use Rattle.ideal_lane.specs.Sends as sends
use Rattle.ideal_lane.specs.Sends.{Send, chain_bytes, cluster_bytes, copied, due_send, resend, send_of}
use Rattle.ideal_lane.specs.Syncs.{copies, counted, sync_part, sync, sync_range}
use Rattle.ideal_lane.specs.Tags.{device_tag, tag_or_invalid, tag, tag_destroy, has_maps}
use Rattle.ideal_lane.specs.Turns.{Turn, Turned, Stepped, Blocked, Ended, stays, bio_at, load_buffer, never_waits}
use Rattle.ideal_lane.specs.Turns.{operation, transfer}
use Rattle.ideal_lane.specs.Unloads.{segments_in}
use Rattle.ideal_lane.specs.Turns.{waits, advanced, due_turn, kept, left_queue, next_operation, resent, script_turn}
use Rattle.ideal_lane.specs.Turns.{called_back, lane_step, transfer_turn, went_on}

-- a call takes a callback
abbrev pub takes : HubCall → Bool
takes call.TakeCallback = true
takes (call.AttachTag t) = false
takes (call.CreateMap m t first_done) = false
takes (call.DestroyMap m z) = false
takes (call.Grab m z need nowait) = false
takes (call.Release m z page) = false
takes (call.MemAlloc m t) = false
takes (call.MemFree m) = false

-- an answer of a turn is a step
abbrev pub is_step : Turn → Bool
is_step (Stepped e) = true
is_step Blocked = false
is_step Ended = false

-- what is made asks for a callback
abbrev taking : {X : Type 0} → Asking X → Bool
taking {X} (Gives x) = false
taking {X} (Asks c k) = takes c

-- what is made asks for none
record IsFree {X : Type 0} (x : Asking X) : Type 0 where
  is : taking x ≡ false

-- what is known of a turn without a call, and of a turn with a call
abbrev pub Shape : LaneState → Asking Turned → Type 0
Shape l (Gives t) = (is_step t.turn ≡ true) ⊎ (t.lane ≡ l)
Shape l (Asks c k) =
    ((c ≡ call.TakeCallback) × (k ≡ called_back l)) ⊎
    ((takes c ≡ false) × ((r : HubReply) → is_step (k r).turn ≡ true))

module _ (l : LaneState) where
  absent : {X : Type 0} (o : Option X) (step : X → Asking Outcome) → ((x : X) → IsFree (step x)) →
      IsFree (unless_absent o l step)
  absent None step h = (record { is = refl })
  absent (Some x) step h = h x

  judged : (j : Judged) (x : Asking Outcome) → IsFree x → IsFree (unless_refused j l x)
  judged Fine x h = h
  judged (Refused report) x h = (record { is = refl })

  either : (b : Bool) (x y : Asking Outcome) → IsFree x → IsFree y → IsFree (if b then x else y)
  either true x y h k = h
  either false x y h k = k

  busy : (m : ℕ) (step : LaneMap → Asking Outcome) → ((o : LaneMap) → IsFree (step o)) → IsFree (unless_busy m l step)
  busy m step h =
      absent (get l.maps m) (λ o. if is_idle o.stage then step o else refused MapBusy 0 l) (λ o.
      either (is_idle o.stage) (step o) (refused MapBusy 0 l) (h o) (record { is = refl }))

  unloaded : (m : ℕ) (step : LaneMap → Asking Outcome) → ((o : LaneMap) → IsFree (step o)) →
      IsFree (unless_unloaded m l step)
  unloaded m step h =
      absent (get l.maps m) (λ o. if is_loaded o.stage then step o else refused NotLoaded 0 l) (λ o.
      either (is_loaded o.stage) (step o) (refused NotLoaded 0 l) (h o) (record { is = refl }))

  past : (m off len : ℕ) (x : Asking Outcome) → IsFree x → IsFree (unless_past m off len l x)
  past m off len x h =
      either (nat_le (off + len) (load_length l m)) x (refused PastEnd (load_length l m - off) l) h
      (record { is = refl })

  -- ---- operations and items

  tag_or-free : (t : Option TagLimits) → IsFree (tag_or_invalid t l)
  tag_or-free None = (record { is = refl })
  tag_or-free (Some t) = either (could_bounce t l.maxmem && allocnow t.flags) _ _ (record { is = refl })
      (record { is = refl })

  tag-free : (parent : Option ℕ) (limits : TagLimits) → IsFree (tag parent limits l)
  tag-free None limits = tag_or-free (effective None limits)
  tag-free (Some p) limits = absent (get l.tags p) _ (λ (x : LaneTag). tag_or-free (effective (Some x.limits) limits))

  device_tag-free : (t : Option TagLimits) → IsFree (device_tag t l)
  device_tag-free None = (record { is = refl })
  device_tag-free (Some t) = (record { is = refl })

  tag_destroy-free : (t : ℕ) → IsFree (tag_destroy t l)
  tag_destroy-free t = absent (get l.tags t) _ (λ x. either (has_maps l t) _ _ (record { is = refl })
      (record { is = refl }))

  map-free : (t : ℕ) → IsFree (map t l)
  map-free t = absent (get l.tags t) _ (λ (o : LaneTag). either (bounces l.maxmem o) _ _
      (record { is = refl }) (record { is = refl }))

  end-free : (m : ℕ) (zone : Option ℕ) → IsFree (end_map m zone l)
  end-free m None = (record { is = refl })
  end-free m (Some z) = (record { is = refl })

  map_destroy-free : (m : ℕ) → IsFree (map_destroy m l)
  map_destroy-free m =
      absent (get l.maps m) _ (λ (o : LaneMap). either (is_idle o.stage) _ _ (end-free m o.zone)
      (record { is = refl }))

  dmamem-free : (t flags : ℕ) → IsFree (dmamem t flags l)
  dmamem-free t flags = absent (get l.tags t) _ (λ (o : LaneTag). (record { is = refl }))

  dmamem_free-free : (m : ℕ) → IsFree (dmamem_free m l)
  dmamem_free-free m =
      absent (get l.mems m) _ (λ x. absent (get l.maps m) _ (λ (o : LaneMap).
      either (is_idle o.stage) _ _ (record { is = refl }) (record { is = refl })))

  await-free : (m : ℕ) → IsFree (await m l)
  await-free m = absent (get l.maps m) _ (λ (o : LaneMap). either o.tried _ _ (record { is = refl })
      (record { is = refl }))

  load-free : (m : ℕ) (x : Asked) → IsFree (load m x l)
  load-free m x =
      busy m _ (λ o.
      judged x.judged _ (
      either (nat_lt (limits_of l o).maxsize x.len) _ _ (record { is = refl })
      (either (is_device l o) _ _ (record { is = refl })
      (either (need_of (chunks_for l o (contains_key l.mems m) x.entries) == 0) _ _ (record { is = refl })
      (record { is = refl })))))

  load_buffer-free : (m : ℕ) (x : Buffer) (flags : ℕ) (items : List Item) → IsFree (load_buffer m x flags items l)
  load_buffer-free m x flags items = absent (bio_at l x) _ (λ b. load-free m (asked m b (never_waits x flags) items l))

  part-free : (m : ℕ) (o : LaneMap) (off len ops : ℕ) → IsFree (sync_part m o off len ops l)
  part-free m o off len ops =
      either (is_mixed ops) _ _ (record { is = refl }) (judged (sync_answer l.loans m off len ops)
      (gives (record l {
        loans = synced l.loans m off len ops;
        memory = forgotten (lost l.loans m off len ops) l.memory;
        shares = counted (copies off len ops o.stage) o.zone l.shares;
      }) answer.Done) (record { is = refl }))

  sync-free : (m ops : ℕ) → IsFree (sync m ops l)
  sync-free m ops = unloaded m _ (λ o. part-free m o 0 (load_length l m) ops)

  sync_range-free : (m off len ops : ℕ) → IsFree (sync_range m off len ops l)
  sync_range-free m off len ops = unloaded m _ (λ o. past m off len _ (part-free m o off len ops))

  cpu_read-free : (place : Place) (len : ℕ) → IsFree (cpu_read place len l)
  cpu_read-free place len =
      absent (virtual_at l place) _ (λ va.
      judged (first_unreached l va len) _ (
      judged (cpu_read_answer (is_known l.memory) l.loans (bytes_at l (run_of va len)))
      (gives l (answer.Bytes (values l (bytes_at l (run_of va len))))) (record { is = refl })))

  cpu_write-free : (place : Place) (vs : List ℕ) → IsFree (cpu_write place vs l)
  cpu_write-free place vs =
      absent (virtual_at l place) _ (λ va.
      judged (first_unreached l va (length vs)) _ (
      judged (cpu_write_answer l.loans (bytes_at l (run_of va (length vs))))
      (gives (record l { memory = written (bytes_at l (run_of va (length vs))) vs l.memory }) answer.Done)
      (record { is = refl })))

  dev_read-free : (m off len : ℕ) → IsFree (dev_read m off len l)
  dev_read-free m off len =
      unloaded m _ (λ o. past m off len _ (
      judged (dev_read_answer (is_known l.memory) (loan_of l.loans m) off len)
      (gives l (answer.Bytes (values l (load_bytes l.loans m off len)))) (record { is = refl })))

  dev_write-free : (m off : ℕ) (vs : List ℕ) → IsFree (dev_write m off vs l)
  dev_write-free m off vs =
      unloaded m _ (λ o. past m off (length vs) _ (
      judged (dev_write_answer (loan_of l.loans m) off (length vs))
      (gives (record l { memory = written (load_bytes l.loans m off (length vs)) vs l.memory }) answer.Done)
      (record { is = refl })))

  dev_read_at-free : (t addr len : ℕ) → IsFree (dev_read_at t addr len l)
  dev_read_at-free t addr len =
      absent (get l.tags t) _ (λ (o : LaneTag).
      judged (judging.judged
      (raw_refusal DeviceReadUnlent (dev_read_refusal (is_known l.memory) false) l t) 0 (run_of addr len))
      (gives l (answer.Bytes (values l (raw_bytes l t (run_of addr len))))) (record { is = refl }))

  dev_write_at-free : (t addr : ℕ) (vs : List ℕ) → IsFree (dev_write_at t addr vs l)
  dev_write_at-free t addr vs =
      absent (get l.tags t) _ (λ (o : LaneTag).
      judged (judging.judged (raw_refusal DeviceWriteUnlent (dev_write_refusal false) l t) 0 (run_of addr (length vs)))
      (gives (record l { memory = written (raw_bytes l t (run_of addr (length vs))) vs l.memory }) answer.Done)
      (record { is = refl }))

  ring-free : (mem slots : ℕ) → IsFree (ring mem slots l)
  ring-free mem slots =
      absent (get l.mems mem) _ (λ (x : LaneMemory). either (fits_in slots x) _ _ (record { is = refl })
      (record { is = refl }))

  ring_post-free : (k slot m off len kind fill : ℕ) → IsFree (ring_post k slot m off len kind fill l)
  ring_post-free k slot m off len kind fill =
      absent (get l.rings k) _ (λ (r : LaneRing). absent (get l.mems r.mem) _ (λ (x : LaneMemory).
      unloaded m _ (λ o. past m off len _ (
      either (may_post r slot m o off len kind l) _ _
      (cpu_write-free (slot_place r slot) (descriptor_bytes (posted (segments_in o.stage) off len kind fill)))
      (record { is = refl })))))

  kick-free : (k : ℕ) (steps : List Item) → IsFree (kick k steps l)
  kick-free k steps = absent (get l.rings k) _ (λ (r : LaneRing). (record { is = refl }))

  first-free : (k : ℕ) (r : LaneRing) (d : Descriptor) (cs : List Candidate) (o : Option Candidate) →
      IsFree (at_first k r d cs o l)
  first-free k r d cs None = (record { is = refl })
  first-free k r d cs (Some c) = (record { is = refl })

  ring_step-free : (k : ℕ) → IsFree (ring_step k l)
  ring_step-free k =
      absent (get l.rings k) _ (λ (r : LaneRing).
      unloaded r.mem _ (λ o. past r.mem (head_at r) 16 _ (
      judged (dev_read_answer (is_known l.memory) (loan_of l.loans r.mem) (head_at r) 16) _ (
      either (not ((head_of r l).owner == 1)) _ _ (record { is = refl }) (
      either (not (is_work (head_of r l).kind (head_of r l).len)) _ _ (record { is = refl })
      (first-free k r (head_of r l) (candidates r l) (slice_get (allowed (head_of r l) l (candidates r l)) 0)))))))

  operation-free : (o : Op) → IsFree (operation o l)
  operation-free (op.Tag name parent limits) = tag-free parent limits
  operation-free (op.IommuTag name limits) = device_tag-free (effective None (space_limits limits))
  operation-free (op.TagDestroy t) = tag_destroy-free t
  operation-free (op.Map name t) = map-free t
  operation-free (op.MapDestroy m) = map_destroy-free m
  operation-free (op.Dmamem name t flags) = dmamem-free t flags
  operation-free (op.DmamemFree m) = dmamem_free-free m
  operation-free (op.Load m buffer flags items) = load_buffer-free m buffer flags items
  operation-free (op.Unload m) = unloaded m _ (λ o. (record { is = refl }))
  operation-free (op.Sync m ops) = sync-free m ops
  operation-free (op.SyncRange m off len ops) = sync_range-free m off len ops
  operation-free (op.CpuRead place len) = cpu_read-free place len
  operation-free (op.CpuWrite place bytes) = cpu_write-free place (bytes_of bytes)
  operation-free (op.Await m) = await-free m
  operation-free (op.Ring name mem slots) = ring-free mem slots
  operation-free (op.RingPost k slot m off len kind fill) = ring_post-free k slot m off len kind fill
  operation-free (op.Kick k steps) = kick-free k steps

  transfer-free : (i : Item) → IsFree (transfer i l)
  transfer-free (item.Sync m ops) = sync-free m ops
  transfer-free (item.SyncRange m off len ops) = sync_range-free m off len ops
  transfer-free (item.DevRead m off len) = dev_read-free m off len
  transfer-free (item.DevWrite m off bytes) = dev_write-free m off (bytes_of bytes)
  transfer-free (item.DevReadAt t addr len) = dev_read_at-free t addr len
  transfer-free (item.DevWriteAt t addr bytes) = dev_write_at-free t addr (bytes_of bytes)
  transfer-free (item.RingStep k) = ring_step-free k

-- ---- turns

-- if both of two turns are steps, so is either
either-steps : (b : Bool) (x y : Turned) → is_step x.turn ≡ true → is_step y.turn ≡ true →
    is_step (if b then x else y).turn ≡ true
either-steps true x y h k = h
either-steps false x y h k = k

module _ (l : LaneState) where
  resend-free : (s : Send) → IsFree (resend s l)
  resend-free s =
      busy l s.map _ (λ o.
      judged l (load_judged l s.map (Vector s.clusters)) _ (
      judged l (cpu_read_answer (is_known l.memory) l.loans (chain_bytes s l)) _ (
      judged l (cpu_write_answer l.loans (cluster_bytes s l)) _
      (load-free (copied s l) s.map (asked s.map (Vector s.clusters) true s.items (copied s l))))))

  next-shape : (o : Option Op) → Shape l (next_operation o l)
  next-shape None = inr refl
  next-shape (Some o) = by (waits o l)
    where
      steps : (y : Outcome) → is_step (went_on o l.place y).turn ≡ true
      steps y = either-steps (sends.is_kept (send_of o) y.answer) (kept l.place y) (advanced l.place y) refl refl

      goes : (x : Asking Outcome) → IsFree x → Shape l (goes_on (went_on o l.place) x)
      goes (Gives y) h = inl (steps y)
      goes (Asks c k) h = inr (h.is, λ r. steps (k r))

      by : (b : Bool) → Shape l (if b then Gives (stays Blocked l) else goes_on (went_on o l.place) (operation o l))
      by true = inr refl
      by false = goes (operation o l) (operation-free l o)

  due-shape : (s : Option Send) → Shape l (due_turn s l)
  due-shape None = next-shape (slice_get l.script l.place)
  due-shape (Some s) = goes (resend s l) (resend-free s)
    where
      goes : (x : Asking Outcome) → IsFree x → Shape l (goes_on (resent l.place) x)
      goes (Gives y) h = inl refl
      goes (Asks c k) h = inr (h.is, λ r. refl)

  script-shape : (rs : List Return) → Shape l (script_turn rs l)
  script-shape [] = due-shape (due_send l)
  script-shape (x ∷ rest) = inr (refl, λ r. refl)

  queue-shape : (qs : List QueuedItem) → Shape l (transfer_turn qs l)
  queue-shape [] = inr refl
  queue-shape (q ∷ rest) = goes (transfer q.item l) (transfer-free l q.item)
    where
      goes : (x : Asking Outcome) → IsFree x → Shape l (goes_on (left_queue q rest) x)
      goes (Gives y) h = inl refl
      goes (Asks c k) h = inr (h.is, λ r. refl)

  pub turn-shape : (s : Side) → Shape l (lane_step l s)
  turn-shape side.Script = script-shape l.returns
  turn-shape side.Transfer = queue-shape l.queue
  turn-shape side.Callback = inl (refl, refl)

  -- a callback that was taken is a step
  pub taken-steps : (ws : List Waiter) (a : Account) → is_entry call.TakeCallback (called_from ws l.id a).reply ≡ true →
      is_step (called_back l (called_from ws l.id a).reply).turn ≡ true
  taken-steps [] a h = absurd (cc)
  taken-steps (x ∷ ws) a h = by (x.map.lane.0 == l.id) refl h
    where
      by : (b : Bool) → (x.map.lane.0 == l.id) ≡ b →
          is_entry call.TakeCallback (called_from (x ∷ ws) l.id a).reply ≡ true →
          is_step (called_back l (called_from (x ∷ ws) l.id a).reply).turn ≡ true
      by true e h = rw e refl
      by false e h = absurd (cc)
