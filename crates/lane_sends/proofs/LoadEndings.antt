-- What a load leaves of a driver, whatever the reply to its call: it changes only one map and no byte, and lends
-- nothing.
use Rattle.std.proofs.Common.{◌≡◌, ℕ, ◌==◌, Bool, true, false, cond, List, [], length, Option, Some, None, refl, ap}
use Rattle.std.proofs.Common.{◌∙◌}
use Rattle.std.proofs.Common.{nat_le, nat_lt, if◌then◌else◌, arith}
use Rattle.std.proofs.lemmas.Bool.Decides.{nat_tests}
use Rattle.std.specs.FinMap.{get, insert, contains_key}
use Rattle.busdma_machine.specs.declared.bounce.hold.HubCall.{HubCall}
use Rattle.busdma_machine.specs.declared.bounce.hold.HubCall.TheVariants.{Grab}
use Rattle.busdma_machine.specs.declared.bounce.hold.HubReply.{HubReply}
use Rattle.busdma_machine.specs.declared.bounce.hold.HubReply.TheVariants as reply
use Rattle.busdma_base.specs.declared.journals.answer.Answer.TheVariants as answer
use Rattle.busdma_machine.specs.declared.report.Errno.TheVariants.{EFBIG, EINVAL}
use Rattle.busdma_machine.specs.declared.report.Judged.{Judged}
use Rattle.busdma_machine.specs.declared.report.Judged.TheVariants as judged
use Rattle.busdma_machine.specs.declared.report.ReportName.TheVariants.{MapBusy}
use Rattle.busdma_machine.specs.declared.machine.address.Segment.{Segment}
use Rattle.busdma_machine.specs.declared.machine.chunk.Chunk.{Chunk}
use Rattle.busdma_machine.specs.declared.tags.tag.TagLimits.{TagLimits}
use Rattle.busdma_machine.specs.Bounce.AccountStep.{as_pages}
use Rattle.busdma_machine.specs.Machine.Entry.{entries_addresses}
use Rattle.busdma_rules.specs.Iommu.Device.{device_chunks, load_frames}
use Rattle.busdma_rules.specs.Iommu.Space.{Space, first_free}
use Rattle.lane_agreement.specs.After.{addresses_of_pages}
use Rattle.busdma_rules.specs.Lending.Loans.{Loans, new_loan}
use Rattle.busdma_rules.specs.Segments.Building.{placed_pieces, tag_placed}
use Rattle.busdma_rules.specs.Segments.Chunks.{bounced_of, need_of}
use Rattle.busdma_rules.specs.Segments.Segmentation.{segmentation}
use Rattle.ideal_lane.specs.Asking.{Asking, Gives, Asks, by_reply}
use Rattle.ideal_lane.specs.Loads.{Asked, are_few, chunks_for, device_load}
use Rattle.ideal_lane.specs.Loads.{emptied, ended, finished, granted, is_coherent}
use Rattle.ideal_lane.specs.Loads.{is_device, limits_of, load, load_chunks}
use Rattle.ideal_lane.specs.Loads.{loaded, taken, unpaged, waiting_load, with_run}
use Rattle.ideal_lane.specs.Loads.{with_spaces, zone_of_map}
use Rattle.ideal_lane.specs.Outcomes.{Outcome, is_idle, refused, unless_absent, unless_refused}
use Rattle.ideal_lane.specs.State.{Idle, LaneMap, LaneState, Loaded, Stage, Waiting, named}
use Rattle.ideal_lane.proofs.Lookups.{get_put}

-- the loans are as they were, or one is new that lends nothing
pub data AreLoansOf (m : ℕ) (before after : Loans) : Type 0 where
  Same : after ≡ before → AreLoansOf m before after
  More : (coherent : Bool) (bytes : List ℕ) → after ≡ insert before m (new_loan coherent bytes) →
      AreLoansOf m before after

-- a driver after a load has changed one map only, and no byte
pub record IsAfterLoad (m : ℕ) (l n : LaneState) : Type 0 where
  pub memory : n.memory ≡ l.memory
  pub others : (q : ℕ) → (m == q) ≡ false → get n.maps q ≡ get l.maps q
  pub loans : AreLoansOf m l.loans n.loans

module _ (m : ℕ) (x : Asked) (l : LaneState) where
  elsewhere : (v : LaneMap) (q : ℕ) → (m == q) ≡ false → get (insert l.maps m v) q ≡ get l.maps q
  elsewhere v q off =
      let away : (q == m) ≡ false = grind (arith, nat_tests) in
      get_put l.maps m v q ∙ ap (λ b. cond b (Some v) (get l.maps q)) away

  unchanged : IsAfterLoad m l l
  unchanged = record { memory = refl; others = λ q off. refl; loans = Same refl }

  abbrev restaged : LaneMap → Stage → LaneMap
  restaged o s = record o { tried = true; stage = s }

  chosen : (b : Bool) (p q : Outcome) → IsAfterLoad m l p.lane → IsAfterLoad m l q.lane →
      IsAfterLoad m l (if b then p else q).lane
  chosen true p q h k = h
  chosen false p q h k = k

  finished-leaves : (o : LaneMap) (at : ℕ) (chunks : List Chunk) (pages : List ℕ) →
      IsAfterLoad m l (finished m o at x chunks pages l).lane
  finished-leaves o at chunks pages =
      let t : TagLimits = limits_of l o in
      let placed : List Chunk = tag_placed t chunks (as_pages pages) in
      let segments : List Segment = segmentation t (placed_pieces t chunks (as_pages pages)) in
      chosen (nat_le (length segments) t.nsegments)
      (record { lane = loaded m o at x placed segments pages l; answer = answer.Segments segments })
      (record { lane = unpaged m o pages l; answer = answer.Refused EFBIG })
      (record {
        memory = refl;
        others = elsewhere (restaged o (Loaded (bounced_of placed) segments pages));
        loans = More (is_coherent (get l.mems m)) (entries_addresses x.entries) refl;
      })
      (record { memory = refl; others = elsewhere (restaged o (emptied pages)); loans = Same refl })

  -- a load that was refused
  ended-leaves : (o : LaneMap) (s : Stage) → IsAfterLoad m l (record l { maps = insert l.maps m (restaged o s) })
  ended-leaves o s = record { memory = refl; others = elsewhere (restaged o s); loans = Same refl }

  granted-leaves : (o : LaneMap) (chunks : List Chunk) (r : HubReply) →
      IsAfterLoad m l (granted m o x chunks l r).lane
  granted-leaves o chunks (reply.Granted pages) = finished-leaves o l.place chunks (addresses_of_pages pages)
  granted-leaves o chunks (reply.Queued have) = ended-leaves o (Waiting (waiting_load l x chunks))
  granted-leaves o chunks _ = ended-leaves o Idle

  with-spaces : (spaces : ℕ → Space) (y : Outcome) → IsAfterLoad m l y.lane →
      IsAfterLoad m l (with_spaces spaces y).lane
  with-spaces spaces y h = record { memory = h.memory; others = h.others; loans = h.loans }

  taken-leaves : (o : LaneMap) (first : Option ℕ) → IsAfterLoad m l (taken m o x first l).lane
  taken-leaves o None = ended-leaves o Idle
  taken-leaves o (Some first) =
      let chunks : List Chunk = device_chunks first 0 x.entries in
      with-spaces (with_run (are_few (limits_of l o) chunks) o.tag first (load_frames x.entries) l.spaces)
      (finished m o l.place x chunks [] l) (finished-leaves o l.place chunks [])

  device-leaves : (o : LaneMap) → IsAfterLoad m l (device_load m o x l).lane
  device-leaves o =
      chosen (length (load_frames x.entries) == 0)
      (finished m o l.place x (device_chunks 0 0 x.entries) [] l)
      (taken m o x (first_free (l.spaces o.tag) (length (load_frames x.entries))) l)
      (finished-leaves o l.place (device_chunks 0 0 x.entries) [])
      (taken-leaves o (first_free (l.spaces o.tag) (length (load_frames x.entries))))

  module _ (r : HubReply) where
    abbrev Leaves : Asking Outcome → Type 0
    Leaves step = IsAfterLoad m l (by_reply step r).lane

    either : (b : Bool) (p q : Asking Outcome) → Leaves p → Leaves q → Leaves (if b then p else q)
    either true p q h k = h
    either false p q h k = k

    chunks-leave : (o : LaneMap) (chunks : List Chunk) → Leaves (load_chunks m o x chunks l)
    chunks-leave o chunks =
        let call : HubCall = Grab (named l m) (record { 0 = zone_of_map o }) (need_of chunks) x.nowait in
        either (need_of chunks == 0) (Gives (finished m o l.place x chunks [] l)) (Asks call (granted m o x chunks l))
        (finished-leaves o l.place chunks []) (granted-leaves o chunks r)

    -- a load of a map that is idle, whose bytes are judged fine
    abbrev fit : LaneMap → Asking Outcome
    fit o =
        if nat_lt (limits_of l o).maxsize x.len then Gives (ended m o (answer.Refused EINVAL) l)
        else if is_device l o then Gives (device_load m o x l)
        else load_chunks m o x (chunks_for l o (contains_key l.mems m) x.entries) l

    fit-leaves : (o : LaneMap) → Leaves (fit o)
    fit-leaves o =
        let chunks : List Chunk = chunks_for l o (contains_key l.mems m) x.entries in
        either (nat_lt (limits_of l o).maxsize x.len) (Gives (ended m o (answer.Refused EINVAL) l))
        (if is_device l o then Gives (device_load m o x l) else load_chunks m o x chunks l)
        (ended-leaves o Idle)
        (either (is_device l o) (Gives (device_load m o x l)) (load_chunks m o x chunks l)
        (device-leaves o) (chunks-leave o chunks))

    refused-leaves : (j : Judged) (step : Asking Outcome) → Leaves step → Leaves (unless_refused j l step)
    refused-leaves judged.Fine step h = h
    refused-leaves (judged.Refused report) step h = unchanged

    pub load-leaves : Leaves (load m x l)
    load-leaves = by (get l.maps m)
      where
        by : (q : Option LaneMap) → Leaves (unless_absent q l
            (λ o. if is_idle o.stage then unless_refused x.judged l (fit o) else refused MapBusy 0 l))
        by None = unchanged
        by (Some o) =
            either (is_idle o.stage) (unless_refused x.judged l (fit o)) (refused MapBusy 0 l)
            (refused-leaves x.judged (fit o) (fit-leaves o)) unchanged
