-- What the driver reads of what its device wrote, after the load is gone.
use Rattle.std.proofs.Common.{◌≡◌, ℕ, ◌||◌, Bool, true, false, not, if◌then◌else◌, List, [], length, map, Some}
use Rattle.std.proofs.Common.{slice_get, is_some, refl, ap, sym, ◌∙◌}
use Rattle.std.proofs.lemmas.Bool.{false≢true}
use Rattle.std.specs.FinMap.{insert}
use Rattle.busdma_machine.specs.declared.machine.address.Segment.{Segment}
use Rattle.busdma_base.specs.declared.journals.answer.Answer.TheVariants as answer
use Rattle.busdma_base.specs.declared.scenarios.buffer.Buffer.TheVariants.{Flat}
use Rattle.busdma_base.specs.declared.scenarios.script.Item.{Item}
use Rattle.busdma_base.specs.declared.scenarios.script.Place.{Place}
use Rattle.busdma_rules.specs.Lending.Loans.{Loan, Loans, addresses_of, load_bytes, loan_of}
use Rattle.busdma_rules.specs.Lending.SyncEffects.{lost_by_forgetting, marked_range, synced}
use Rattle.busdma_rules.specs.Tags.SyncOps.{postread}
use Rattle.busdma_rules.specs.declared.position.Position.{Position}
use Rattle.ideal_lane.specs.Accesses.{cpu_read, dev_write, values}
use Rattle.ideal_lane.specs.IdealMemory.{value, written}
use Rattle.ideal_lane.specs.Outcomes.{load_length}
use Rattle.ideal_lane.specs.State.{LaneState}
use Rattle.ideal_lane.specs.Syncs.{sync}
use Rattle.ideal_lane.specs.Turns.{load_buffer}
use Rattle.ideal_lane.specs.Unloads.{unload}
use Rattle.ideal_wire.specs.Apart.{IsApart}
use Rattle.ideal_wire.specs.Laid.{AreLaid}
use Rattle.ideal_wire.specs.Machine.{IsInMachine}
use Rattle.ideal_wire.specs.WireStep.{place_bytes}
use Rattle.ideal_wire.proofs.Faithful.Twins.{values-written}
use Rattle.ideal_wire.proofs.Faithful.Wiring.{own-forgotten}
use Rattle.ideal_wire.proofs.Loads.Reaching.{paged}
use Rattle.driver_laws.specs.Steps.{IsStep, KeepsContents, mapped_bytes}
use Rattle.driver_laws.proofs.Accessing.{begin_at, dev_write-is, read-is}
use Rattle.driver_laws.proofs.Allowed.{marks}
use Rattle.driver_laws.proofs.Differing.{same-contents, same-place, same-values, then-keeps}
use Rattle.driver_laws.proofs.Loading.{flat-mapped, flat-reached, load-contents, load-unlent, put-loan}
use Rattle.driver_laws.proofs.Once.{bytes-once, bytes-own}
use Rattle.driver_laws.proofs.Syncing.{postread-keeps, sync-alone, sync-contents, sync-forgets, sync-loans, sync-mapped}
use Rattle.driver_laws.proofs.Syncing.{sync-mems, sync-pages}
use Rattle.driver_laws.proofs.Transfers.{place-length, whole-load}
use Rattle.driver_laws.proofs.Unlent.{postread-ends}
use Rattle.driver_laws.proofs.Unloading.{filter-out, not-true, unload-contents}

-- ---- a sync changes no loan of a coherent map

coherent-same : (loans : Loans) (m off len ops : ℕ) → (loan_of (synced loans m off len ops) m).coherent ≡ true →
    loan_of (synced loans m off len ops) m ≡ loan_of loans m
coherent-same loans m off len ops = by (loan_of loans m).coherent
  where
    x : Loan
    x = record { coherent = false; positions = marked_range ops off len (loan_of loans m).positions }

    by : (b : Bool) → (loan_of (if b then loans else insert loans m x) m).coherent ≡ true →
        loan_of (if b then loans else insert loans m x) m ≡ loan_of loans m
    by true e = refl
    by false e = absurd (false≢true (sym (ap (λ (y : Loan). y.coherent) (put-loan loans m x)) ∙ e))

module _ (l n : LaneState) (m ops : ℕ) (s : IsStep (sync m ops) l n answer.Done)
    (on : (loan_of n.loans m).coherent ≡ true) where
  same-loan : loan_of n.loans m ≡ loan_of l.loans m
  same-loan =
      let is : n.loans ≡ synced l.loans m 0 (load_length l m) ops = sync-loans l n m ops s in
      ap (λ x. loan_of x m) is
      ∙ coherent-same l.loans m 0 (load_length l m) ops (ap (λ x. (loan_of x m).coherent) (sym is) ∙ on)

module _ (a b c d e : LaneState) (place : Place) (vs : List ℕ) (m flags before after : ℕ) (items : List Item)
    (segments : List Segment) (laid : AreLaid a) (machine : IsInMachine a) (apart : IsApart a)
    (loads : IsStep (load_buffer m (Flat place (length vs)) flags items) a b (answer.Segments segments))
    (first : IsStep (sync m before) b c answer.Done) (writes : IsStep (dev_write m 0 vs) c d answer.Done)
    (last : IsStep (sync m after) d e answer.Done) (post : postread after ≡ true) where
  -- what the device wrote is at the place
  place-holds : values e (place_bytes e place (length vs)) ≡ vs
  place-holds =
      let len : ℕ = length vs in
      let ab : KeepsContents a b = load-contents a b m flags (Flat place len) items segments loads in
      let keys : List ℕ = place_bytes a place len in
      let mapped : mapped_bytes c m ≡ keys =
      sync-mapped b c m before first m
      ∙ flat-mapped a b m len flags place items segments loads (paged a laid machine) in
      let lost = sync-forgets b c m before first in
      let x : LaneState = record c { memory = written (load_bytes c.loans m 0 len) vs c.memory } in
      let cd : KeepsContents x d = same-contents x d (dev_write-is c d m 0 vs writes) in
      let de : KeepsContents d e =
      sync-contents d e m after last (postread-keeps after post (sync-alone d e m after last)) in
      let pages : e.pages ≡ a.pages = de.pages ∙ (cd.pages ∙ (sync-pages b c m before first ∙ ab.pages)) in
      let mems : e.mems ≡ a.mems = de.mems ∙ (cd.mems ∙ (sync-mems b c m before first ∙ ab.mems)) in
      let reached = flat-reached a b m len flags place items segments loads in
      let memory : e.memory ≡ written keys vs c.memory =
      de.memory ∙ (cd.memory
      ∙ ap (λ ks. written ks vs c.memory) (whole-load c m len keys mapped (place-length a place len))) in
      let own : (k y : ℕ) → slice_get keys k ≡ Some y → is_some (c.memory y) ≡ true =
      λ k y at. (λ i. is_some (lost.1 i y)) ∙ own-forgotten lost.0 b.memory y ∙ (λ i. is_some (ab.memory i y))
      ∙ bytes-own a (begin_at a place) len reached laid k y at in
      (λ i. map (λ y. value (memory i y)) (same-place a e mems pages place len i))
      ∙ values-written keys vs c.memory (bytes-once a (begin_at a place) len reached laid machine apart) own
      (place-length a place len)

  -- the map lends no byte to write: POSTREAD has ended that, or the map is coherent and has lent none
  coherent-unlent : (loan_of e.loans m).coherent ≡ true → (i : ℕ) (q : Position) →
      slice_get (loan_of e.loans m).positions i ≡ Some q → q.to_write ≡ false
  coherent-unlent on i q at =
      let de : loan_of e.loans m ≡ loan_of d.loans m = same-loan d e m after last on in
      let cd : loan_of d.loans m ≡ loan_of c.loans m =
      ap (λ (y : LaneState). loan_of y.loans m) (dev_write-is c d m 0 vs writes) in
      let ce : loan_of e.loans m ≡ loan_of c.loans m = de ∙ cd in
      let bc : loan_of c.loans m ≡ loan_of b.loans m =
      same-loan b c m before first (ap (λ (y : Loan). y.coherent) (sym ce) ∙ on) in
      load-unlent a b m flags (Flat place (length vs)) items segments loads i q
      (sym (ap (λ (y : Loan). slice_get y.positions i) (ce ∙ bc)) ∙ at)

  ended : (i : ℕ) (q : Position) → slice_get (loan_of e.loans m).positions i ≡ Some q → q.to_write ≡ false
  ended i q at =
      let loans : e.loans ≡ synced d.loans m 0 (load_length d m) after = sync-loans d e m after last in
      by (loan_of e.loans m).coherent refl
      (ap (λ x. (loan_of x m).coherent || not q.to_write) loans
      ∙ marks d.loans m after (λ r. not r.to_write) (postread-ends after post) i q
      (sym (ap (λ x. slice_get (loan_of x m).positions i) loans) ∙ at))
    where
      by : (k : Bool) → (loan_of e.loans m).coherent ≡ k →
          ((loan_of e.loans m).coherent || not q.to_write) ≡ true → q.to_write ≡ false
      by true on h = coherent-unlent on i q at
      by false on h = not-true q.to_write (ap (λ k. k || not q.to_write) (sym on) ∙ h)

  lends-none : lost_by_forgetting e.loans m ≡ []
  lends-none = ap addresses_of (filter-out (loan_of e.loans m).positions ended)

  pub unloaded-reads : (f g h : LaneState) (bytes : List ℕ) → IsStep (unload m) e f answer.Done →
      KeepsContents f g → IsStep (cpu_read place (length vs)) g h (answer.Bytes bytes) → bytes ≡ vs
  unloaded-reads f g h bytes ends back reads =
      let len : ℕ = length vs in
      let kept : KeepsContents e g = then-keeps e f g (unload-contents e f m ends lends-none) back in
      (read-is g h place len bytes reads).1
      ∙ same-values e g kept (place_bytes g place len) (place_bytes e place len)
      (same-place e g kept.mems kept.pages place len)
      ∙ place-holds
