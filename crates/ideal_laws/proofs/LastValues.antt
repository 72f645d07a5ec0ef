-- What is Known of a driver's bytes is what was last written, after each turn.
use Rattle.std.proofs.Common.{◌≡◌, ℕ, suc, ◌+◌, ◌==◌, ◌||◌, Bool, true, false, if◌then◌else◌, List, [], ◌∷◌, map}
use Rattle.std.proofs.Common.{length}
use Rattle.std.proofs.Common.{Option, Some, None, slice_get, unwrap_or, refl, sym, ap, ◌∙◌, subst}
use Rattle.std.specs.Prelude.{replicate}
use Rattle.std.specs.FinMap.{entries, get}
use Rattle.std.specs.List.{filter}
use Rattle.std.specs.Option.{option_map}
use Rattle.busdma_machine.specs.declared.bounce.hold.HubCall.{HubCall}
use Rattle.busdma_machine.specs.declared.bounce.hold.HubCall.TheVariants as call
use Rattle.busdma_machine.specs.declared.bounce.hold.HubReply.{HubReply}
use Rattle.busdma_machine.specs.declared.bounce.hold.HubReply.TheVariants as reply
use Rattle.busdma_machine.specs.declared.machine.address.Pa.{Pa}
use Rattle.busdma_machine.specs.declared.name.MapId.{MapId}
use Rattle.busdma_machine.specs.declared.report.Judged.TheVariants.{Fine}
use Rattle.busdma_machine.specs.Bounce.MemoryRuns.{in_run}
use Rattle.busdma_machine.specs.Machine.Wire.{put, stretch}
use Rattle.busdma_machine.specs.Runs.{run_of}
use Rattle.busdma_base.specs.declared.journals.answer.Answer.{Answer}
use Rattle.busdma_base.specs.declared.journals.answer.Answer.TheVariants as answer
use Rattle.busdma_base.specs.declared.scenarios.script.Item.{Item}
use Rattle.busdma_base.specs.declared.scenarios.script.Item.TheVariants as item
use Rattle.busdma_base.specs.declared.scenarios.script.Op.{Op}
use Rattle.busdma_base.specs.declared.scenarios.script.Op.TheVariants as op
use Rattle.busdma_rules.specs.declared.descriptor.Descriptor.{Descriptor}
use Rattle.busdma_rules.specs.declared.position.Position.{Position}
use Rattle.busdma_rules.specs.Lending.Access.{dev_read_answer, dev_read_refusal, dev_write_answer}
use Rattle.busdma_rules.specs.Lending.Loans.{load_bytes, loan_of}
use Rattle.busdma_rules.specs.Rings.Descriptors.{descriptor_bytes, descriptor_of}
use Rattle.busdma_rules.specs.Lending.SyncEffects.{lost, lost_by_forgetting}
use Rattle.busdma_rules.specs.Tags.MemFlags.{coherent, zero_filled}
use Rattle.ideal_lane.specs.Accesses.{raw_bytes, values}
use Rattle.ideal_lane.specs.Asking.{Asking, Gives, Asks}
use Rattle.ideal_lane.specs.IdealMemory.{Content, IdealMemory, Known, Unknown, forgotten, is_known, joined, parted}
use Rattle.ideal_lane.specs.IdealMemory.{value, written}
use Rattle.ideal_lane.specs.IdealMemory.{written_at}
use Rattle.ideal_lane.specs.Outcomes.{Outcome}
use Rattle.ideal_lane.specs.Places.{bytes_at}
use Rattle.ideal_lane.specs.Rings.{Candidate, candidates, candidates_in, head_at, head_of, is_fine, no_ring, posted}
use Rattle.ideal_lane.specs.Rings.{retired, ring_of}
use Rattle.ideal_lane.specs.Rings.{ring_step, slot_place, stored}
use Rattle.ideal_lane.specs.State.{LaneMemory, LaneState}
use Rattle.ideal_lane.specs.Unloads.{segments_in}
use Rattle.busdma_base.specs.Scenarios.Operations.{bytes_of}
use Rattle.busdma_machine.specs.declared.report.ReportName.TheVariants.{DeviceReadUnlent, StaleByte}
use Rattle.std.proofs.lemmas.Option.{slice_get-map}
use Rattle.ideal_lane.proofs.Effects.{Work, Operation, Transfer, Callback, AtOnce, Begins, Device, DeviceWrites, Ends}
use Rattle.ideal_lane.proofs.Effects.{Fetches}
use Rattle.ideal_lane.proofs.Effects.{Fetching, Frees, Granted, IsUndone, Loads, Makes, Overflows, Places, Posts}
use Rattle.ideal_lane.proofs.Effects.{RawWrites, Refuses, Same}
use Rattle.ideal_lane.proofs.Effects.{IsSync, IsVain, Range, RangeItem, Syncs, Touched, Touches, Unattached, Uncreated}
use Rattle.ideal_lane.proofs.Effects.{Unloads, Unplaced, Unwaited, Vain}
use Rattle.ideal_lane.proofs.Effects.{Waits, Whole, WholeItem, Writes, after_fetch}
use Rattle.ideal_wire.specs.Traces.{stage_at, stage_in}
use Rattle.ideal_wire.specs.WireStep.{if_answered, if_fetched, place_bytes}
use Rattle.ideal_wire.proofs.Faithful.BytesPut.{known_value}
use Rattle.ideal_wire.proofs.Tags.KeptTags.{put-there}
use Rattle.ideal_wire.proofs.Laid.Positions.{fine_at, found_one}
use Rattle.ideal_wire.proofs.Faithful.RingCases.{by-fetch, ring-is, told-fetched, unfetched}
use Rattle.ideal_wire.proofs.Faithful.SyncedPositions.{known_before}
use Rattle.ideal_laws.specs.LastWrites.{Written, by_descriptor, by_item, by_operation, by_ring, first_writable}
use Rattle.ideal_laws.specs.LastWrites.{head_written, zeroed}

-- what is Known is what was last written
abbrev pub IsLast : IdealMemory → Written → Type 0
IsLast memory w = (a v : ℕ) → memory a ≡ Some (Known v) → w a ≡ v

-- ---- writes and reads

one-last : (k v : ℕ) (memory : IdealMemory) (w : Written) → IsLast memory w →
    IsLast (written_at k v memory) (λ b. if b == k then v else w b)
one-last k v memory w h a u = by (a == k) (memory a) (h a u)
  where
    by : (b : Bool) (c : Option Content) → (c ≡ Some (Known u) → w a ≡ u) →
        (if b then option_map (λ x. Known v) c else c) ≡ Some (Known u) → (if b then v else w a) ≡ u
    by true None f e = absurd (cc)
    by true (Some c) f e = ap value e
    by false c f e = f e

pub write-last : (keys vs : List ℕ) (memory : IdealMemory) (w : Written) → IsLast memory w →
    IsLast (written keys vs memory) (put keys vs w)
write-last [] vs memory w h = h
write-last (k ∷ keys) [] memory w h = h
write-last (k ∷ keys) (v ∷ vs) memory w h =
    write-last keys vs (written_at k v memory) (λ b. if b == k then v else w b) (one-last k v memory w h)

-- bytes that are Known have the values that were last written
pub last-values : (keys : List ℕ) (memory : IdealMemory) (w : Written) → IsLast memory w →
    ((i a : ℕ) → slice_get keys i ≡ Some a → is_known memory a ≡ true) → map (λ a. value (memory a)) keys ≡ map w keys
last-values [] memory w h all = refl
last-values (x ∷ keys) memory w h all =
    let first = sym (h x (value (memory x)) (known_value (memory x) (all 0 x refl))) in
    let rest = last-values keys memory w h (λ i a at. all (suc i) a at) in
    λ j. first j ∷ rest j

-- bytes that are forgotten
pub forget-last : (keys : List ℕ) (memory : IdealMemory) (w : Written) → IsLast memory w →
    IsLast (forgotten keys memory) w
forget-last keys memory w h a v e = h a v (known_before keys memory a v e).1

-- bytes that leave
part-last : (gone : ℕ → Bool) (memory : IdealMemory) (w : Written) → IsLast memory w → IsLast (parted gone memory) w
part-last gone memory w h a v = by (gone a) (h a v)
  where
    by : (b : Bool) → (memory a ≡ Some (Known v) → w a ≡ v) → (if b then None else memory a) ≡ Some (Known v) → w a ≡ v
    by true f e = absurd (cc)
    by false f e = f e

-- bytes that come, with zeros or Unknown
join-last : (x : LaneMemory) (zero : Bool) (memory : IdealMemory) (w : Written) → IsLast memory w →
    IsLast (joined (in_run x.first x.count) (if zero then Known 0 else Unknown) memory)
    (if zero then zeroed (Some x) w else w)
join-last x true memory w h a v = by (in_run x.first x.count a) (h a v)
  where
    by : (b : Bool) → (memory a ≡ Some (Known v) → w a ≡ v) →
        (if b then Some (Known 0) else memory a) ≡ Some (Known v) → (if b then 0 else w a) ≡ v
    by true f e = ap value e
    by false f e = f e
join-last x false memory w h a v = by (in_run x.first x.count a) (h a v)
  where
    by : (b : Bool) → (memory a ≡ Some (Known v) → w a ≡ v) →
        (if b then Some Unknown else memory a) ≡ Some (Known v) → w a ≡ v
    by true f e = absurd (cc)
    by false f e = f e

undone : (a : Answer) (after w : Written) → IsUndone a → if_answered a after w ≡ w
undone answer.Done after w u = absurd u
undone _ after w u = refl

module _ (l : LaneState) (w : Written) (last : IsLast l.memory w) where
  -- ---- operations
  module _ (none : get l.mems l.place ≡ None) where
    no-zeros : (flags : ℕ) → (if zero_filled flags then zeroed (get l.mems l.place) w else w) ≡ w
    no-zeros flags = ap (λ q. if zero_filled flags then zeroed q w else w) none ∙ by (zero_filled flags)
      where
        by : (b : Bool) → (if b then zeroed None w else w) ≡ w
        by true = refl
        by false = refl

    -- an operation that does nothing writes nothing
    same-operation : (o : Op) (a : Answer) → IsUndone a → by_operation o a l l w ≡ w
    same-operation (op.CpuWrite place bytes) a u = undone a _ w u
    same-operation (op.RingPost ring slot map off len kind fill) a u = undone a _ w u
    same-operation (op.Dmamem name tag flags) a u = no-zeros flags
    same-operation _ a u = refl

    -- a load writes nothing
    abbrev by_work : Work → Answer → LaneState → Written
    by_work (Operation o) a after = by_operation o a l after w
    by_work _ a after = w

    load-writes : {d : Work} → Begins l d → (a : Answer) (after : LaneState) → by_work d a after ≡ w
    load-writes b a after = ap (λ q. by_work q a after) b.is

    ends-writes : {o : Op} {c : Option HubCall} {r : HubReply} → Ends l (Operation o) c r →
        (a : Answer) (after : LaneState) →
        by_operation o a l after w ≡ w
    ends-writes (AtOnce b plain e) a after = load-writes b a after
    ends-writes (Granted b plain e pages) a after = load-writes b a after
    ends-writes (Device b device first spaces taken) a after = load-writes b a after

    still : {v : Written} → v ≡ w → IsLast l.memory v
    still e = subst (IsLast l.memory) (sym e) last

    sync-writes : {d : Work} {m off len ops : ℕ} → IsSync l d m off len ops → (a : Answer) (after : LaneState) →
        by_work d a after ≡ w
    sync-writes (Whole m ops) a after = refl
    sync-writes (Range m off len ops) a after = refl
    sync-writes (WholeItem m ops) a after = refl
    sync-writes (RangeItem m off len ops) a after = refl

    vain-writes : {d : Work} {c : HubCall} {r : HubReply} → IsVain l d c r → (a : Answer) → by_work d a l ≡ w
    vain-writes (Unattached t b u) a = refl
    vain-writes (Uncreated g b u) a = refl
    vain-writes (Unplaced {flags = flags} g u) a = no-zeros flags
    vain-writes (Unwaited m pages u) a = refl

    pub operation-last : {o : Op} {c : Option HubCall} {r : HubReply} {x : Outcome} → Makes l (Operation o) c r x →
        IsLast x.lane.memory (by_operation o x.answer l x.lane w)
    operation-last {o = o} (Touched (Same a q u)) = still (same-operation o a u)
    operation-last {x = x} (Touched (Syncs m off len ops is o there i alone fine)) =
        subst (IsLast x.lane.memory) (sym (sync-writes is answer.Done x.lane))
        (forget-last (lost l.loans m off len ops) l.memory w last)
    operation-last (Touched (Writes place bs va at reaches fine)) =
        subst (λ keys. IsLast (written (bytes_at l (run_of va (length (bytes_of bs)))) (bytes_of bs) l.memory)
        (put keys (bytes_of bs) w))
        (sym (ap (λ y. bytes_at l (run_of (unwrap_or y 0) (length (bytes_of bs)))) at))
        (write-last (bytes_at l (run_of va (length (bytes_of bs)))) (bytes_of bs) l.memory w last)
    operation-last {x = x} (Touched (Posts k slot m off len kind fill r ring o there loaded may va at reach fine)) =
        let vs = descriptor_bytes (posted (segments_in o.stage) off len kind fill) in
        let is-ring : r ≡ ring_of l k = sym (ap (λ y. unwrap_or y no_ring) ring) in
        let keys : bytes_at l (run_of va 16) ≡ place_bytes l (slot_place (ring_of l k) slot) 16 =
        sym (ap (λ y. bytes_at l (run_of (unwrap_or y 0) 16)) at) ∙ ap (λ q. place_bytes l (slot_place q slot) 16)
        is-ring in
        let segments : vs ≡ descriptor_bytes (posted (segments_in (stage_at l m)) off len kind fill) =
        ap (λ y. descriptor_bytes (posted (segments_in (stage_in y)) off len kind fill)) (sym there) in
        subst (IsLast x.lane.memory) (λ i. put (keys i) (segments i) w)
        (write-last (bytes_at l (run_of va 16)) vs l.memory w last)
    operation-last {x = x} (Vain v a u) = still (vain-writes v a)
    operation-last (Places name t flags g there first count) =
        let x : LaneMemory =
        record { tag = t; first = first.0; count = count; len = g.limits.maxsize; coherent = coherent flags } in
        subst (λ q. IsLast (joined (in_run x.first x.count) (if zero_filled flags then Known 0 else Unknown) l.memory)
        (if zero_filled flags then zeroed q w else w)) (sym (put-there l.mems l.place x))
        (join-last x (zero_filled flags) l.memory w last)
    operation-last (Frees m x there o found i) = part-last (in_run x.first x.count) l.memory w last
    operation-last {x = x} (Refuses b over e) = still (load-writes b x.answer x.lane)
    operation-last {x = x} (Waits b plain some have) = still (load-writes b x.answer x.lane)
    operation-last {x = x} (Loads k e) = still (ends-writes k x.answer x.lane)
    operation-last {x = x} (Overflows k e) = still (ends-writes k x.answer x.lane)
    operation-last (Unloads m o there i) = forget-last (lost_by_forgetting l.loans m) l.memory w last
    operation-last _ = last

    -- a callback writes nothing
    pub callback-last : {m n : MapId} {pages : List Pa} {x : Outcome} →
        Makes l (Callback m) (Some call.TakeCallback) (reply.Called n pages) x → IsLast x.lane.memory w
    callback-last (Vain v a u) = last
    callback-last (Refuses b over e) = elim over [ ]
    callback-last (Loads k e) = last
    callback-last (Overflows k e) = last

    -- ---- items

    -- an item is no step of a ring
    abbrev pub IsPlain : Item → Type 0
    IsPlain (item.RingStep k) = ⊥
    IsPlain _ = Unit {0}

    same-item : (i : Item) → IsPlain i → (a : Answer) → IsUndone a → by_item i a l w ≡ w
    same-item (item.DevWrite map off bytes) p a u = undone a _ w u
    same-item (item.DevWriteAt tag addr bytes) p a u = undone a _ w u
    same-item (item.RingStep k) p a u = absurd p
    same-item _ p a u = refl

    item-syncs : {i : Item} {m off len ops : ℕ} → IsSync l (Transfer i) m off len ops → (a : Answer) → by_item i a l w
        ≡ w
    item-syncs (WholeItem m ops) a = refl
    item-syncs (RangeItem m off len ops) a = refl

    pub item-last : {i : Item} {x : Outcome} → IsPlain i → Touches l (Transfer i) x →
        IsLast x.lane.memory (by_item i x.answer l w)
    item-last {i = i} p (Same a q u) = still (same-item i p a u)
    item-last {x = x} p (Syncs m off len ops is o there i alone fine) =
        subst (IsLast x.lane.memory) (sym (item-syncs is answer.Done))
        (forget-last (lost l.loans m off len ops) l.memory w last)
    item-last p (DeviceWrites m off bs o there loaded fine) =
        write-last (load_bytes l.loans m off (length (bytes_of bs))) (bytes_of bs) l.memory w last
    item-last p (RawWrites t addr bs g there fine) =
        write-last (raw_bytes l t (run_of addr (length (bytes_of bs)))) (bytes_of bs) l.memory w last
    item-last p (Fetches k f) = absurd p

  -- ---- the step of a ring

  -- a byte that a device may read is Known
  readable : (coherent : Bool) (p : Position) → dev_read_refusal (is_known l.memory) coherent p ≡ None →
      is_known l.memory p.pa ≡ true
  readable coherent p e = by (coherent || p.to_read) (is_known l.memory p.pa) e
    where
      by : (b t : Bool) → (if b then if t then None else Some StaleByte else Some DeviceReadUnlent) ≡ None → t ≡ true
      by true true e = refl
      by true false e = absurd (cc)
      by false t e = absurd (cc)

  -- the bytes of a range of a load that a device may read are Known, with the values that were last written
  pub range-values : (m off len : ℕ) → dev_read_answer (is_known l.memory) (loan_of l.loans m) off len ≡ Fine →
      values l (load_bytes l.loans m off len) ≡ map w (load_bytes l.loans m off len)
  range-values m off len fine = last-values (load_bytes l.loans m off len) l.memory w last all
    where
      all : (i a : ℕ) → slice_get (load_bytes l.loans m off len) i ≡ Some a → is_known l.memory a ≡ true
      all i a at =
          by (slice_get (stretch off len (loan_of l.loans m).positions) i) refl
          (sym (slice_get-map (λ (p : Position). p.pa) (stretch off len (loan_of l.loans m).positions) i) ∙ at)
        where
          by : (o : Option Position) → slice_get (stretch off len (loan_of l.loans m).positions) i ≡ o →
              option_map (λ (p : Position). p.pa) o ≡ Some a → is_known l.memory a ≡ true
          by None q e = absurd (cc)
          by (Some p) q e =
              subst (λ b. is_known l.memory b ≡ true) (found_one (Some p.pa) p.pa a refl e)
              (readable (loan_of l.loans m).coherent p
              (fine_at (dev_read_refusal (is_known l.memory) (loan_of l.loans m).coherent) 0
              (stretch off len (loan_of l.loans m).positions) fine i p q))

  module _ (k : ℕ) (g : Fetching l k) where
    abbrev pub d : Descriptor
    d = head_of g.r l

    -- the descriptor at the head is as it was last written
    pub head-last : head_written g.r l w ≡ d
    head-last = ap descriptor_of (sym (range-values g.r.mem (head_at g.r) 16 g.fine))

    abbrev keys : List ℕ
    keys = load_bytes l.loans g.r.mem (head_at g.r + 14) 2

    abbrev cs : List Candidate
    cs = candidates g.r l

    -- if the device writes, it does so at the first candidate that allows it
    first-is : (d.kind == 1) ≡ false → first_writable d l cs ≡ g.c
    first-is e =
        ap (λ b. unwrap_or (slice_get (filter (λ c. is_fine (if b
        then dev_read_answer (is_known l.memory) (loan_of l.loans c.map) c.off d.len
        else dev_write_answer (loan_of l.loans c.map) c.off d.len)) cs) 0) (record { map = 0; off = 0 })) (sym e)
        ∙ ap (λ o. unwrap_or o (record { map = 0; off = 0 })) g.first

    pub ring-last : IsLast (after_fetch l k g.r d g.c).memory (by_ring g.r l w)
    ring-last =
        subst (λ q. IsLast (after_fetch l k g.r d g.c).memory (put keys (0 ∷ 1 ∷ [])
        (by_descriptor q (first_writable q l (candidates_in q g.r.mem l (entries l.maps))) l w)))
        (sym head-last) (by (d.kind == 1) refl)
      where
        by : (b : Bool) → (d.kind == 1) ≡ b → IsLast (retired g.r (if b then l
            else stored g.c.map g.c.off d.len (replicate d.len d.fill) l)).memory
            (put keys (0 ∷ 1 ∷ []) (if b then w
            else put (load_bytes l.loans (first_writable d l cs).map (first_writable d l cs).off d.len)
            (replicate d.len d.fill) w))
        by true e = write-last keys (0 ∷ 1 ∷ []) l.memory w last
        by false e =
            subst (λ (c : Candidate). IsLast (written keys (0 ∷ 1 ∷ [])
            (written (load_bytes l.loans g.c.map g.c.off d.len) (replicate d.len d.fill) l.memory))
            (put keys (0 ∷ 1 ∷ []) (put (load_bytes l.loans c.map c.off d.len) (replicate d.len d.fill) w)))
            (sym (first-is e))
            (write-last keys (0 ∷ 1 ∷ [])
            (written (load_bytes l.loans g.c.map g.c.off d.len) (replicate d.len d.fill) l.memory)
            (put (load_bytes l.loans g.c.map g.c.off d.len) (replicate d.len d.fill) w)
            (write-last (load_bytes l.loans g.c.map g.c.off d.len) (replicate d.len d.fill) l.memory w last))

  abbrev RingLast : ℕ → Asking Outcome → Type 0
  RingLast k (Gives x) = IsLast x.lane.memory (if_fetched x.answer (by_ring (ring_of l k) l w) w)
  RingLast k (Asks c f) = ⊥

  pub step-last : (k : ℕ) → RingLast k (ring_step k l)
  step-last k =
      by-fetch l k (RingLast k)
      (λ a u. subst (IsLast l.memory) (sym (unfetched a (by_ring (ring_of l k) l w) w u)) last)
      (λ g. subst (IsLast (after_fetch l k g.r (head_of g.r l) g.c).memory)
      (sym (told-fetched l k g (by_ring (ring_of l k) l w) w ∙ ap (λ r. by_ring r l w) (ring-is l k g)))
      (ring-last k g))
