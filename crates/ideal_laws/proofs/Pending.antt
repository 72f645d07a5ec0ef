-- One more load of a map waits after each load that is answered EINPROGRESS, and one fewer after each call of its
-- callback.
use Rattle.std.proofs.Common.{◌≡◌, ℕ, ◌+◌, ◌==◌, Bool, true, false, ◌&&◌, ◌||◌, cond, if◌then◌else◌, List, [], ◌∷◌}
use Rattle.std.proofs.Common.{length}
use Rattle.std.proofs.Common.{Option, Some, None, is_some, slice_get, refl, sym, ap, ◌∙◌, arith, nat_lt}
use Rattle.std.proofs.lemmas.Bool.{eq-eqb, false≢true, ne_eqb}
use Rattle.std.proofs.lemmas.List.Sums.{sum_by-cons}
use Rattle.std.proofs.lemmas.Map.Views.{exact_unsigned_eq}
use Rattle.std.specs.FinMap.{FinMap, get, insert, remove, contains_key}
use Rattle.std.specs.List.{list_any}
use Rattle.std.specs.Option.{option_map_or}
use Rattle.std.specs.Ordering.{nat_cmp}
use Rattle.busdma_machine.specs.declared.bounce.hold.HubCall.{HubCall}
use Rattle.busdma_machine.specs.declared.bounce.hold.HubCall.TheVariants as call
use Rattle.busdma_machine.specs.declared.bounce.hold.HubReply.{HubReply}
use Rattle.busdma_machine.specs.declared.bounce.hold.HubReply.TheVariants as reply
use Rattle.busdma_machine.specs.declared.machine.address.Pa.{Pa}
use Rattle.busdma_machine.specs.declared.machine.bio.Bio.TheVariants.{Vector}
use Rattle.busdma_machine.specs.declared.machine.chunk.Chunk.{Chunk}
use Rattle.busdma_machine.specs.declared.name.MapId.{MapId}
use Rattle.busdma_machine.specs.declared.report.Errno.TheVariants.{EINVAL, ENOMEM}
use Rattle.busdma_machine.specs.declared.report.Report.{Report}
use Rattle.busdma_base.specs.declared.journals.answer.Answer.{Answer}
use Rattle.busdma_base.specs.declared.journals.answer.Answer.TheVariants as answer
use Rattle.busdma_base.specs.declared.scenarios.buffer.Buffer.{Buffer}
use Rattle.busdma_base.specs.declared.scenarios.queued.QueuedItem.{QueuedItem}
use Rattle.busdma_base.specs.declared.scenarios.script.Item.{Item}
use Rattle.busdma_base.specs.declared.scenarios.script.Op.{Op}
use Rattle.busdma_base.specs.declared.scenarios.script.Op.TheVariants as op
use Rattle.busdma_base.specs.Scenarios.Operations.{about}
use Rattle.busdma_rules.specs.Iommu.Device.{device_chunks, load_frames}
use Rattle.busdma_rules.specs.Iommu.Space.{Space, first_free}
use Rattle.busdma_rules.specs.Segments.Chunks.{need_of}
use Rattle.busdma_rules.specs.Lending.Access.{cpu_read_answer, cpu_write_answer}
use Rattle.lane_agreement.specs.After.{addresses_of_pages}
use Rattle.lane_agreement.specs.View.{Return, is_returning, returning}
use Rattle.ideal_lane.specs.Asking.{Asking, Gives, Asks, by_reply, goes_on}
use Rattle.ideal_lane.specs.IdealMemory.{is_known}
use Rattle.ideal_lane.specs.Loads.{Asked, are_few, asked, chunks_for, device_load, emptied, ended, finished, granted}
use Rattle.ideal_lane.specs.Loads.{is_device}
use Rattle.ideal_lane.specs.Loads.{limits_of, load, load_chunks, load_judged, taken, waiting_load, with_run}
use Rattle.ideal_lane.specs.Loads.{with_spaces}
use Rattle.ideal_lane.specs.Outcomes.{Outcome, gives, is_idle, is_loaded}
use Rattle.ideal_lane.specs.Sends.{Send, chain_bytes, cluster_bytes, copied, due_send, is_kept, resend, send_of}
use Rattle.ideal_lane.specs.State.{LaneState, LaneMap, Stage, Idle, Waiting, Loaded, Returning, WaitingLoad}
use Rattle.ideal_lane.specs.Turns.{Turn, Turned, Stepped, Blocked, Ended, advanced, called, called_back, due_turn}
use Rattle.ideal_lane.specs.Turns.{is_waiting, kept}
use Rattle.ideal_lane.specs.Turns.{left_queue, load_buffer, never_waits, next_operation, operation, resent}
use Rattle.ideal_lane.specs.Turns.{bio_at, script_turn, stays, transfer, transfer_turn, waits, waits_in, went_on}
use Rattle.ideal_lane.specs.Unloads.{after_return, given_back, pages_of, restaged}
use Rattle.ideal_lane.specs.View.{in_zone, own_map}
use Rattle.ideal_lane.proofs.Effects.{Work, Operation, Transfer, Callback, Touches, Same, Makes, Touched, Vain, Maps}
use Rattle.ideal_lane.proofs.Effects.{Creates}
use Rattle.ideal_lane.proofs.Effects.{Begins, Called, Device, Ends, AtOnce, Granted, Unmaps, Places, Frees, Refuses}
use Rattle.ideal_lane.proofs.Effects.{Waits, Loads}
use Rattle.ideal_lane.proofs.Effects.{IsUnwaited, IsUnwaiting, Overflows, Unloads, Unwaited}
use Rattle.ideal_lane.proofs.Endings.{bounced_in, fits, fitting, segments_of, too_big}
use Rattle.ideal_lane.proofs.Lookups.{get_cut, get_put, mapped, put_same}
use Rattle.ideal_lane.proofs.Refusing.{absent, busy, either, judged}
use Rattle.ideal_lane.proofs.Sent.{due-at, sent}
use Rattle.ideal_lane.proofs.Stepping.{Made, Only, called-makes, operation-makes, transfer-touches}
use Rattle.ideal_laws.specs.Deferrals.{is_callback_of, is_in_progress, loads_by, loads_map}

abbrev pub one : Bool → ℕ
one b = if b then 1 else 0

or-false : (b : Bool) → (b || false) ≡ b
or-false true = refl
or-false false = refl

and-false : (b : Bool) → (b && false) ≡ false
and-false true = refl
and-false false = refl

-- whether the map at a place waits
abbrev pub pend : Option LaneMap → ℕ
pend q = one (is_waiting q)

idle-free : (s : Stage) → is_idle s ≡ true → 0 ≡ one (waits_in s)
idle-free Idle i = refl
idle-free (Waiting w) i = absurd (cc)
idle-free (Loaded bounced segments pages) i = refl
idle-free Returning i = refl

loaded-free : (s : Stage) → is_loaded s ≡ true → 0 ≡ one (waits_in s)
loaded-free Idle i = refl
loaded-free (Waiting w) i = absurd (cc)
loaded-free (Loaded bounced segments pages) i = refl
loaded-free Returning i = refl

emptied-free : (pages : List ℕ) → one (waits_in (emptied pages)) ≡ 0
emptied-free [] = refl
emptied-free (p ∷ ps) = refl

module _ (m : ℕ) where
  abbrev pub pending : LaneState → ℕ
  pending l = pend (get l.maps m)

  -- a map is put, or gone, at a place at which as many wait
  put : (ms : FinMap nat_cmp LaneMap) (k : ℕ) (o : LaneMap) → one (waits_in o.stage) ≡ pend (get ms k) →
      pend (get (insert ms k o) m) ≡ pend (get ms m)
  put ms k o e =
      ap pend (get_put ms k o m) ∙ mapped pend (m == k) (Some o) (get ms m)
      ∙ put_same (λ j. pend (get ms j)) k m (one (waits_in o.stage)) e

  cut : (ms : FinMap nat_cmp LaneMap) (k : ℕ) → 0 ≡ pend (get ms k) → pend (get (remove ms k) m) ≡ pend (get ms m)
  cut ms k e =
      ap pend (get_cut ms k m) ∙ mapped pend (m == k) None (get ms m)
      ∙ put_same (λ j. pend (get ms j)) k m 0 e

  module _ (l : LaneState) where
    there-free : (k : ℕ) (o : LaneMap) → get l.maps k ≡ Some o → 0 ≡ one (waits_in o.stage) → 0 ≡ pend (get l.maps k)
    there-free k o there e = e ∙ sym (ap pend there)

    -- ---- loads

    -- an outcome, with `hit` if it is of a load of this map: the map waits with the load that the outcome says waits
    abbrev pub Pends : Bool → Outcome → Type 0
    Pends hit x = pending x.lane ≡ pending l + one (is_in_progress x.answer && hit)

    abbrev pub PendsIn : Bool → Asking Outcome → Type 0
    PendsIn hit (Gives x) = Pends hit x
    PendsIn hit (Asks c k) = (r : HubReply) → Pends hit (k r)

    module _ (hit : Bool) where
      -- nothing waits for it that did not wait
      as-before : (x : Outcome) → pending x.lane ≡ pending l → is_in_progress x.answer ≡ false → Pends hit x
      as-before x e q =
          let zero : pending l ≡ pending l + 0 = omega arith in
          e ∙ zero ∙ ap (λ b. pending l + one (b && hit)) (sym q)

      report : (x : Report) → PendsIn hit (gives l (answer.Report x))
      report x = as-before (record { lane = l; answer = answer.Report x }) refl refl

      module _ (n : ℕ) (mine : hit ≡ (n == m)) (o : LaneMap) (there : get l.maps n ≡ Some o)
          (idle : is_idle o.stage ≡ true) where
        free : 0 ≡ pend (get l.maps n)
        free = there-free n o there (idle-free o.stage idle)

        -- the load has ended
        over : (x : Outcome) (s : Stage) → x.lane.maps ≡ insert l.maps n (record o { tried = true; stage = s }) →
            one (waits_in s) ≡ 0 → is_in_progress x.answer ≡ false → Pends hit x
        over x s e w q =
            as-before x
            (ap (λ ms. pend (get ms m)) e ∙ put l.maps n (record o { tried = true; stage = s }) (w ∙ free)) q

        module _ (at : ℕ) (x : Asked) (cs : List Chunk) (pages : List ℕ) where
          fit-pends : Pends hit (fitting l n o at x cs pages)
          fit-pends =
              over (fitting l n o at x cs pages)
              (Loaded (bounced_in l n o at x cs pages) (segments_of l n o at x cs pages) pages) refl refl refl

          big-pends : Pends hit (too_big l n o at x cs pages)
          big-pends = over (too_big l n o at x cs pages) (emptied pages) refl (emptied-free pages) refl

          finished-pends : Pends hit (finished n o at x cs pages l)
          finished-pends = by (fits l n o at x cs pages)
            where
              by : (b : Bool) → Pends hit (if b then fitting l n o at x cs pages else too_big l n o at x cs pages)
              by true = fit-pends
              by false = big-pends

          spaced-pends : (spaces : ℕ → Space) → Pends hit (with_spaces spaces (finished n o at x cs pages l))
          spaced-pends spaces = by (fits l n o at x cs pages)
            where
              by : (b : Bool) →
                  Pends hit (with_spaces spaces (if b then fitting l n o at x cs pages
                  else too_big l n o at x cs pages))
              by true = fit-pends
              by false = big-pends

        refused-pends : (a : Answer) → is_in_progress a ≡ false → Pends hit (ended n o a l)
        refused-pends a q = over (ended n o a l) Idle refl refl q

        taken-pends : (x : Asked) (q : Option ℕ) → Pends hit (taken n o x q l)
        taken-pends x None = refused-pends (answer.Refused ENOMEM) refl
        taken-pends x (Some first) =
            spaced-pends l.place x (device_chunks first 0 x.entries) []
            (with_run (are_few (limits_of l o) (device_chunks first 0 x.entries)) o.tag first (load_frames x.entries)
            l.spaces)

        device-pends : (x : Asked) → Pends hit (device_load n o x l)
        device-pends x = by (length (load_frames x.entries) == 0)
          where
            by : (b : Bool) → Pends hit (if b then finished n o l.place x (device_chunks 0 0 x.entries) [] l
                else taken n o x (first_free (l.spaces o.tag) (length (load_frames x.entries))) l)
            by true = finished-pends l.place x (device_chunks 0 0 x.entries) []
            by false = taken-pends x (first_free (l.spaces o.tag) (length (load_frames x.entries)))

        -- the load waits
        queued-pends : (x : Asked) (cs : List Chunk) (have : ℕ) → Pends hit (granted n o x cs l (reply.Queued have))
        queued-pends x cs have =
            ap pend (get_put l.maps n (record o { tried = true; stage = Waiting (waiting_load l x cs) }) m)
            ∙ mapped pend (m == n) (Some (record o { tried = true; stage = Waiting (waiting_load l x cs) }))
            (get l.maps m)
            ∙ by (m == n) refl ∙ ap (λ b. pending l + one b) (sym mine)
          where
            by : (b : Bool) → (m == n) ≡ b → cond b 1 (pending l) ≡ pending l + one (n == m)
            by true e =
                let same : m ≡ n = exact_unsigned_eq m n e in
                let none : 0 ≡ pending l = free ∙ ap (λ k. pend (get l.maps k)) (sym same) in
                let this : one (n == m) ≡ 1 = ap one (eq-eqb n m (sym same)) in
                omega (arith, none, this)
            by false e =
                let other : one (n == m) ≡ 0 = ap one (ne_eqb n m (λ h. false≢true (sym e ∙ eq-eqb m n (sym h)))) in
                omega (arith, other)

        granted-pends : (x : Asked) (cs : List Chunk) (r : HubReply) → Pends hit (granted n o x cs l r)
        granted-pends x cs (reply.Granted pages) = finished-pends l.place x cs (addresses_of_pages pages)
        granted-pends x cs (reply.Queued have) = queued-pends x cs have
        granted-pends x cs _ = refused-pends (answer.Refused ENOMEM) refl

        chunks-pend : (x : Asked) (cs : List Chunk) → PendsIn hit (load_chunks n o x cs l)
        chunks-pend x cs =
            either l (PendsIn hit) report (need_of cs == 0) _ _ (λ none. finished-pends l.place x cs [])
            (λ some r. granted-pends x cs r)

      load-pends : (n : ℕ) → hit ≡ (n == m) → (x : Asked) → PendsIn hit (load n x l)
      load-pends n mine x =
          busy l (PendsIn hit) report n _ (λ o there idle.
          judged l (PendsIn hit) report x.judged _ (λ fine.
          either l (PendsIn hit) report (nat_lt (limits_of l o).maxsize x.len) _ _
          (λ long. refused-pends n mine o there idle (answer.Refused EINVAL) refl) (λ short.
          either l (PendsIn hit) report (is_device l o) _ _ (λ device. device-pends n mine o there idle x)
          (λ plain. chunks-pend n mine o there idle x (chunks_for l o (contains_key l.mems n) x.entries)))))

      buffer-pends : (n : ℕ) → hit ≡ (n == m) → (x : Buffer) (flags : ℕ) (items : List Item) →
          PendsIn hit (load_buffer n x flags items l)
      buffer-pends n mine x flags items =
          absent l (PendsIn hit) report (bio_at l x) _ (λ b e.
          load-pends n mine (asked n b (never_waits x flags) items l))

    -- ---- other operations

    touched-same : {d : Work} {x : Outcome} → Touches l d x → pending x.lane ≡ pending l
    touched-same (Same a q u) = refl
    touched-same _ = refl

    abbrev loaded_in : Work → Option Buffer
    loaded_in (Operation o) = (about o).loads
    loaded_in (Transfer i) = None
    loaded_in (Callback n) = None

    -- what loads nothing begins no load
    begins-load : {d : Work} → Begins l d → loaded_in d ≡ None → ⊥
    begins-load b none = let some : None ≡ Some b.buffer = sym none ∙ ap loaded_in b.is in absurd (cc)

    ends-load : {o : Op} {c : Option HubCall} {r : HubReply} → Ends l (Operation o) c r → (about o).loads ≡ None → ⊥
    ends-load (AtOnce b plain e) none = begins-load b none
    ends-load (Granted b plain e pages) none = begins-load b none
    ends-load (Device b device first spaces taken) none = begins-load b none

    module _ (free : get l.maps l.place ≡ None) where
      others-same : {o : Op} {c : Option HubCall} {r : HubReply} {x : Outcome} → (about o).loads ≡ None →
          Makes l (Operation o) c r x → pending x.lane ≡ pending l
      others-same none (Touched t) = touched-same t
      others-same none (Maps name t g e b) = put l.maps l.place _ (sym (ap pend free))
      others-same none (Creates name t g e b n made) = put l.maps l.place _ (sym (ap pend free))
      others-same none (Places name t flags g e first count) = put l.maps l.place _ (sym (ap pend free))
      others-same none (Unmaps n o there i) = cut l.maps n (there-free n o there (idle-free o.stage i))
      others-same none (Frees n x e o there i) = cut l.maps n (there-free n o there (idle-free o.stage i))
      others-same none (Refuses b over e) = absurd (begins-load b none)
      others-same none (Waits b plain some have) = absurd (begins-load b none)
      others-same none (Loads k e) = absurd (ends-load k none)
      others-same none (Overflows k e) = absurd (ends-load k none)
      others-same none (Unloads n o there i) =
          put l.maps n (record o { tried = true; stage = emptied (pages_of o.stage) })
          (emptied-free (pages_of o.stage) ∙ there-free n o there (loaded-free o.stage i))
      others-same none _ = refl

      -- an operation that loads nothing
      other-pends : (o : Op) → (about o).loads ≡ None → (x : Asking Outcome) → Made l (Operation o) x →
          PendsIn (loads_map m o) x
      other-pends o none = by
        where
          no-hit : loads_map m o ≡ false
          no-hit = ap (λ q. is_some q && list_any (λ u. u.made_at == m) (about o).uses) none

          same : {c : Option HubCall} {r : HubReply} (x : Outcome) → Makes l (Operation o) c r x →
              Pends (loads_map m o) x
          same x k =
              let zero : pending l ≡ pending l + 0 = omega arith in
              others-same none k ∙ zero
              ∙ ap (λ b. pending l + one b)
              (sym (ap (λ b. is_in_progress x.answer && b) no-hit ∙ and-false (is_in_progress x.answer)))

          by : (x : Asking Outcome) → Made l (Operation o) x → PendsIn (loads_map m o) x
          by (Gives x) h = same x (h reply.Nothing)
          by (Asks c k) h = λ r. same (k r) (h r)

      operation-pends : (o : Op) → PendsIn (loads_map m o) (operation o l)
      operation-pends (op.Load n x flags items) =
          buffer-pends (loads_map m (op.Load n x flags items)) n (or-false (n == m)) x flags items
      operation-pends o = other-pends o refl (operation o l) (operation-makes l o)

  module _ (l : LaneState) where
    -- ---- turns

    -- what a turn counts, if it is a step: the loads of the map that waited, and the one that the entry answers with
    -- EINPROGRESS, are those that wait afterwards and the one whose callback the entry calls
    abbrev pub CountsIn : Turn → LaneState → Type 0
    CountsIn (Stepped e) after =
        pending l + one (is_in_progress e.answer && loads_by m l.script e.did)
        ≡ one (is_callback_of m e.did) + pending after
    CountsIn Blocked after = Unit {0}
    CountsIn Ended after = Unit {0}

    abbrev pub Counts : Turned → Type 0
    Counts t = CountsIn t.turn t.lane

    -- an operation, or a resend, whose load is of this map if the operation at the place is
    script-count : (x : Outcome) (hit : Bool) → Pends l hit x →
        option_map_or (loads_map m) (slice_get l.script l.place) false ≡ hit →
        pending l + one (is_in_progress x.answer && option_map_or (loads_map m) (slice_get l.script l.place) false)
        ≡ 0 + pending x.lane
    script-count x hit h e =
        let zero : pending x.lane ≡ 0 + pending x.lane = omega arith in
        ap (λ b. pending l + one (is_in_progress x.answer && b)) e ∙ sym h ∙ zero

    went-counts : (o : Op) → slice_get l.script l.place ≡ Some o → (x : Outcome) → Pends l (loads_map m o) x →
        Counts (went_on o l.place x)
    went-counts o at x h = by (is_kept (send_of o) x.answer)
      where
        e : option_map_or (loads_map m) (slice_get l.script l.place) false ≡ loads_map m o
        e = ap (λ q. option_map_or (loads_map m) q false) at

        by : (b : Bool) → Counts (if b then kept l.place x else advanced l.place x)
        by true = script-count x (loads_map m o) h e
        by false = script-count x (loads_map m o) h e

    module _ (free : get l.maps l.place ≡ None) where
      next-counts : (q : Option Op) → slice_get l.script l.place ≡ q → (r : HubReply) →
          Counts (by_reply (next_operation q l) r)
      next-counts None at r = tt
      next-counts (Some o) at r = by (waits o l) (operation o l) (operation-pends l free o)
        where
          by : (b : Bool) (x : Asking Outcome) → PendsIn l (loads_map m o) x →
              Counts (by_reply (if b then Gives (stays Blocked l) else goes_on (went_on o l.place) x) r)
          by true x h = tt
          by false (Gives x) h = went-counts o at x h
          by false (Asks c k) h = went-counts o at (k r) (h r)

      resend-counts : (s : Send) → due_send l ≡ Some s → (r : HubReply) →
          Counts (by_reply (goes_on (resent l.place) (resend s l)) r)
      resend-counts s due r = by (resend s l) resend-pends
        where
          hit : Bool
          hit = s.map == m

          e : option_map_or (loads_map m) (slice_get l.script l.place) false ≡ hit
          e =
              let d = due-at l s due in
              ap (λ q. option_map_or (loads_map m) q false) d.at ∙ ap (loads_map m) (sent d.o s d.is).is
              ∙ or-false (s.map == m)

          resend-pends : PendsIn l hit (resend s l)
          resend-pends =
              busy l (PendsIn l hit) (report l hit) s.map _ (λ o there idle.
              judged l (PendsIn l hit) (report l hit) (load_judged l s.map (Vector s.clusters)) _ (λ fine.
              judged l (PendsIn l hit) (report l hit) (cpu_read_answer (is_known l.memory) l.loans (chain_bytes s l)) _
              (λ reads.
              judged l (PendsIn l hit) (report l hit) (cpu_write_answer l.loans (cluster_bytes s l)) _ (λ writes.
              load-pends (copied s l) hit s.map refl (asked s.map (Vector s.clusters) true s.items (copied s l))))))

          by : (x : Asking Outcome) → PendsIn l hit x → Counts (by_reply (goes_on (resent l.place) x) r)
          by (Gives x) h = script-count x hit h e
          by (Asks c k) h = script-count (k r) hit (h r) e

      due-counts : (q : Option Send) → due_send l ≡ q → (r : HubReply) → Counts (by_reply (due_turn q l) r)
      due-counts None e r = next-counts (slice_get l.script l.place) refl r
      due-counts (Some s) e r = resend-counts s e r

    bare : (b : Bool) → one (waits_in (if b then Idle else Returning)) ≡ 0
    bare true = refl
    bare false = refl

    unreturning : (w : WaitingLoad) (zone : Option ℕ) → is_returning (in_zone (Waiting w) zone) ≡ false
    unreturning w None = refl
    unreturning w (Some z) = refl

    -- the map of a page that goes back waits for nothing
    module _ (back : (k : ℕ) → is_returning (own_map (get l.maps k)) ≡ false → returning k l.returns ≡ 0)
        (q : Return) (rest : List Return) (front : l.returns ≡ q ∷ rest) where
      one-back : returning q.map l.returns ≡ 1 + returning q.map rest
      one-back =
          let first : one (q.map == q.map) ≡ 1 = ap one (eq-eqb q.map q.map refl) in
          let more : returning q.map (q ∷ rest) ≡ 1 + returning q.map rest =
          omega (arith, first, sum_by-cons (λ (r : Return). cond (r.map == q.map) 1 0) q rest) in
          ap (returning q.map) front ∙ more

      release-free : (o : LaneMap) → get l.maps q.map ≡ Some o → 0 ≡ one (waits_in o.stage)
      release-free o there = by o.stage refl
        where
          by : (s : Stage) → o.stage ≡ s → 0 ≡ one (waits_in s)
          by (Waiting w) is =
              let none : is_returning (own_map (get l.maps q.map)) ≡ false =
              ap (λ y. is_returning (own_map y)) there ∙ ap (λ s. is_returning (in_zone s o.zone)) is
              ∙ unreturning w o.zone in
              absurd (omega (arith, one-back, back q.map none))
          by _ is = refl

      release-same : pending (given_back q rest l) ≡ pending l
      release-same = by (get l.maps q.map) refl
        where
          by : (y : Option LaneMap) → get l.maps q.map ≡ y →
              pend (get (restaged q.map y (after_return q.map rest) l).maps m) ≡ pending l
          by None is = refl
          by (Some o) is =
              put l.maps q.map (record o { stage = after_return q.map rest })
              (bare (returning q.map rest == 0) ∙ there-free l q.map o is (release-free o is))

    pub script-counts : get l.maps l.place ≡ None →
        ((k : ℕ) → is_returning (own_map (get l.maps k)) ≡ false → returning k l.returns ≡ 0) →
        (rs : List Return) → l.returns ≡ rs → (r : HubReply) → Counts (by_reply (script_turn rs l) r)
    script-counts free back [] e r = due-counts free (due_send l) refl r
    script-counts free back (q ∷ rest) e r = omega (arith, release-same back q rest e)

    pub queue-counts : (qs : List QueuedItem) (r : HubReply) → Counts (by_reply (transfer_turn qs l) r)
    queue-counts [] r = tt
    queue-counts (q ∷ rest) r = by (transfer q.item l) (transfer-touches l q.item)
      where
        by : (x : Asking Outcome) → Only l (Transfer q.item) x → Counts (by_reply (goes_on (left_queue q rest) x) r)
        by (Gives x) h = omega (arith, touched-same l h, ap one (and-false (is_in_progress x.answer)))
        by (Asks c k) h = absurd h

    -- ---- callbacks

    unwaiting : (s : Stage) → IsUnwaiting s → waits_in s ≡ true → ⊥
    unwaiting (Waiting w) u e = u
    unwaiting _ u e = cc

    unwaited : (y : Option LaneMap) → IsUnwaited y → is_waiting y ≡ true → ⊥
    unwaited None u e = cc
    unwaited (Some o) u e = unwaiting o.stage u e

    -- a map that waited does not
    put-over : (k : ℕ) (o : LaneMap) → one (waits_in o.stage) ≡ 0 → is_waiting (get l.maps k) ≡ true →
        pend (get (insert l.maps k o) m) + one (k == m) ≡ pending l
    put-over k o none waited =
        let found : pend (get (insert l.maps k o) m) ≡ cond (m == k) (one (waits_in o.stage)) (pending l) =
        ap pend (get_put l.maps k o m) ∙ mapped pend (m == k) (Some o) (get l.maps m) in
        omega (arith, found, by (m == k) refl)
      where
        by : (b : Bool) → (m == k) ≡ b → cond b (one (waits_in o.stage)) (pending l) + one (k == m) ≡ pending l
        by true e =
            let same : m ≡ k = exact_unsigned_eq m k e in
            let this : one (k == m) ≡ 1 = ap one (eq-eqb k m (sym same)) in
            let was : pending l ≡ 1 = ap (λ j. pend (get l.maps j)) same ∙ ap one waited in
            omega (arith, none, this, was)
        by false e =
            let other : one (k == m) ≡ 0 = ap one (ne_eqb k m (λ h. false≢true (sym e ∙ eq-eqb m k (sym h)))) in
            omega (arith, other)

    called-counts : {d n : MapId} {pages : List Pa} {x : Outcome} →
        Makes l (Callback d) (Some call.TakeCallback) (reply.Called n pages) x →
        is_waiting (get l.maps n.made_at) ≡ true → pending x.lane + one (n.made_at == m) ≡ pending l
    called-counts (Vain (Unwaited n pages u) a q) w = absurd (unwaited (get l.maps n.made_at) u w)
    called-counts (Refuses b past e) w = elim past [ ]
    called-counts (Loads (Called n pages o v there is) fit) w =
        put-over n.made_at (record o {
          tried = true;
          stage = Loaded (bounced_in l n.made_at o v.load_at (asked n.made_at v.bio false v.items l)
              (chunks_for l o (contains_key l.mems n.made_at) (asked n.made_at v.bio false v.items l).entries)
              (addresses_of_pages pages))
              (segments_of l n.made_at o v.load_at (asked n.made_at v.bio false v.items l)
              (chunks_for l o (contains_key l.mems n.made_at) (asked n.made_at v.bio false v.items l).entries)
              (addresses_of_pages pages))
              (addresses_of_pages pages);
        }) refl w
    called-counts (Overflows (Called n pages o v there is) fit) w =
        put-over n.made_at (record o { tried = true; stage = emptied (addresses_of_pages pages) })
        (emptied-free (addresses_of_pages pages)) w

    pub callback-counts : (r : HubReply) →
        ((n : MapId) (pages : List Pa) → r ≡ reply.Called n pages → is_waiting (get l.maps n.made_at) ≡ true) →
        Counts (called_back l r)
    callback-counts (reply.Called n pages) waits =
        let x : Outcome = called n.made_at (get l.maps n.made_at) (addresses_of_pages pages) l in
        let none : one (is_in_progress x.answer && false) ≡ 0 = ap one (and-false (is_in_progress x.answer)) in
        let one_less : pending x.lane + one (n.made_at == m) ≡ pending l =
        called-counts (called-makes l n pages) (waits n pages refl) in
        omega (arith, none, one_less)
    callback-counts _ waits = tt
