-- What the device may do after a sync: PREWRITE lets it read the load, and PREREAD lets it write there.
use Rattle.std.proofs.Common.{◌≡◌, ℕ, zero, suc, ◌+◌, ◌==◌, ◌&&◌, ◌||◌, ◌++◌, ◌-◌, Bool, true, false, not, List, []}
use Rattle.std.proofs.Common.{◌∷◌, length, map, Option, Some, None, slice_get, is_some, take, drop, if◌then◌else◌, cond}
use Rattle.std.proofs.Common.{refl, ap, sym, ◌∙◌, arith, append-nil, eq-eqb}
use Rattle.std.proofs.lemmas.Bool.{le-leb}
use Rattle.std.proofs.lemmas.List.{drop_all, length-map, take_all}
use Rattle.std.proofs.lemmas.Option.{slice_get-map}
use Rattle.std.specs.FinMap.{get, insert}
use Rattle.std.specs.Option.{option_map}
use Rattle.busdma_machine.specs.Judging.{judged}
use Rattle.busdma_machine.specs.Runs.{run_of}
use Rattle.busdma_machine.specs.declared.machine.address.Segment.{Segment}
use Rattle.busdma_machine.specs.declared.report.Judged.{Judged}
use Rattle.busdma_machine.specs.declared.report.Judged.TheVariants.{Fine}
use Rattle.busdma_machine.specs.declared.report.ReportName.{ReportName}
use Rattle.busdma_machine.specs.declared.report.ReportName.TheVariants.{CpuReadLent, DeviceReadUnlent}
use Rattle.busdma_machine.specs.declared.report.ReportName.TheVariants.{DeviceWriteUnlent, NotLoaded, PastEnd}
use Rattle.busdma_machine.specs.declared.report.ReportName.TheVariants.{StaleByte}
use Rattle.busdma_base.specs.declared.journals.answer.Answer.TheVariants as answer
use Rattle.busdma_base.specs.declared.scenarios.script.Place.{Place}
use Rattle.busdma_rules.specs.Lending.Access.{cpu_read_answer, cpu_read_refusal, dev_read_answer, dev_read_refusal}
use Rattle.busdma_rules.specs.Lending.Access.{dev_write_answer, dev_write_refusal}
use Rattle.busdma_rules.specs.Lending.Loans.{Loan, Loans, lent, load_bytes, loan_of, to_write}
use Rattle.busdma_rules.specs.Lending.SyncEffects.{marked, marked_range, synced}
use Rattle.busdma_rules.specs.Tags.SyncOps.{is_mixed, postread, postwrite, preread, prewrite}
use Rattle.busdma_rules.specs.declared.position.Position.{Position}
use Rattle.ideal_lane.specs.Accesses.{cpu_read, dev_read, dev_write, values}
use Rattle.ideal_lane.specs.Asking.{Asking}
use Rattle.ideal_lane.specs.IdealMemory.{Content, IdealMemory, Known, is_known, known, written, written_at}
use Rattle.ideal_lane.specs.Outcomes.{Outcome, gives, is_loaded, load_length, refused, unless_absent, unless_past}
use Rattle.ideal_lane.specs.Outcomes.{unless_refused, unless_unloaded}
use Rattle.ideal_lane.specs.Places.{bytes_at, first_unreached, virtual_at}
use Rattle.ideal_lane.specs.State.{LaneMap, LaneState}
use Rattle.ideal_wire.specs.WireStep.{place_bytes}
use Rattle.ideal_wire.proofs.Faithful.Wiring.{own-written}
use Rattle.ideal_wire.proofs.Laid.Positions.{found_one}
use Rattle.ideal_wire.proofs.Loads.Asked.{all-fine}
use Rattle.ideal_wire.proofs.Loads.Reaching.{all-from}
use Rattle.driver_laws.specs.Steps.{mapped_bytes}
use Rattle.driver_laws.proofs.Accessing.{begin_at}
use Rattle.driver_laws.proofs.Loading.{HasLoad, put-loan}

-- ---- what is written is Known

one-known : (a k v : ℕ) (c : Option Content) → known c ≡ true →
    known (cond (a == k) (option_map (λ x. Known v) c) c) ≡ true
one-known a k v c h = by (a == k) c h
  where
    by : (b : Bool) (c : Option Content) → known c ≡ true → known (cond b (option_map (λ x. Known v) c) c) ≡ true
    by true None h = absurd (cc)
    by true (Some c) h = refl
    by false c h = h

stays-known : (keys vs : List ℕ) (memory : IdealMemory) (a : ℕ) → is_known memory a ≡ true →
    is_known (written keys vs memory) a ≡ true
stays-known [] vs memory a h = h
stays-known (k ∷ keys) [] memory a h = h
stays-known (k ∷ keys) (v ∷ vs) memory a h =
    stays-known keys vs (written_at k v memory) a (one-known a k v (memory a) h)

pub written-knows : (keys vs : List ℕ) (memory : IdealMemory) → length keys ≡ length vs → (i a : ℕ) →
    slice_get keys i ≡ Some a → is_some (memory a) ≡ true → is_known (written keys vs memory) a ≡ true
written-knows [] vs memory same i a at own = absurd (cc)
written-knows (k ∷ keys) [] memory same i a at own = absurd (omega (arith, same))
written-knows (k ∷ keys) (v ∷ vs) memory same zero a at own =
    stays-known keys vs (written_at k v memory) a
    (ap (λ b. known (cond b (option_map (λ x. Known v) (memory a)) (memory a)))
    (eq-eqb a k (sym (found_one (Some k) k a refl at))) ∙ by (memory a) own)
  where
    by : (c : Option Content) → is_some c ≡ true → known (option_map (λ (x : Content). Known v) c) ≡ true
    by None h = absurd (cc)
    by (Some c) h = refl
written-knows (k ∷ keys) (v ∷ vs) memory same (suc i) a at own =
    written-knows keys vs (written_at k v memory) (omega (arith, same)) i a at
    (own-written (k ∷ []) (v ∷ []) memory a ∙ own)

-- ---- the marks of a sync of the complete load

-- a PRE sync is no POST sync
pub pre-alone : (ops : ℕ) → (preread ops || prewrite ops) ≡ true → is_mixed ops ≡ false →
    (postread ops ≡ false) × (postwrite ops ≡ false)
pre-alone ops e alone = by (preread ops || prewrite ops) (postread ops) (postwrite ops) e alone
  where
    by : (b q w : Bool) → b ≡ true → (b && (q || w)) ≡ false → (q ≡ false) × (w ≡ false)
    by false q w e g = absurd (cc)
    by true true w e g = absurd (cc)
    by true false true e g = absurd (cc)
    by true false false e g = (refl, refl)

module _ (loans : Loans) (m ops : ℕ) where
  abbrev ps : List Position
  ps = (loan_of loans m).positions

  abbrev after : Loans
  after = synced loans m 0 (length (loan_of loans m).positions) ops

  all-marked : marked_range ops 0 (length ps) ps ≡ map (marked ops) ps
  all-marked =
      ap (λ xs. map (marked ops) xs ++ drop (0 + length ps) ps) (take_all (length ps) ps (omega arith))
      ∙ ap (λ xs. map (marked ops) ps ++ xs) (drop_all (0 + length ps) ps (omega arith))
      ∙ append-nil (map (marked ops) ps)

  -- what holds of each marked position holds of each position of a map that is not coherent
  module _ (test : Position → Bool) (passes : (q : Position) → test (marked ops q) ≡ true) where
    new : Loan
    new = record { coherent = false; positions = marked_range ops 0 (length ps) ps }

    marked-at : (i : ℕ) (p : Position) → slice_get (marked_range ops 0 (length ps) ps) i ≡ Some p → test p ≡ true
    marked-at i p at =
        by (slice_get ps i)
        (sym (slice_get-map (marked ops) ps i) ∙ ap (λ xs. slice_get xs i) (sym all-marked) ∙ at)
      where
        by : (o : Option Position) → option_map (marked ops) o ≡ Some p → test p ≡ true
        by None e = absurd (cc)
        by (Some q) e = ap test (sym (found_one (Some (marked ops q)) (marked ops q) p refl e)) ∙ passes q

    pub marks : (i : ℕ) (p : Position) → slice_get (loan_of after m).positions i ≡ Some p →
        ((loan_of after m).coherent || test p) ≡ true
    marks i p = by (loan_of loans m).coherent refl
      where
        x : Loan
        x = record { coherent = false; positions = marked_range ops 0 (length ps) ps }

        so : Bool → Loans
        so b = if b then loans else insert loans m x

        by : (b : Bool) → (loan_of loans m).coherent ≡ b → slice_get (loan_of (so b) m).positions i ≡ Some p →
            ((loan_of (so b) m).coherent || test p) ≡ true
        by true e at = ap (λ y. y || test p) e
        by false e at =
            ap (λ (y : Loan). y.coherent || test p) (put-loan loans m x)
            ∙ marked-at i p (sym (ap (λ (y : Loan). slice_get y.positions i) (put-loan loans m x)) ∙ at)

pub prewrite-lends : (ops : ℕ) → prewrite ops ≡ true → is_mixed ops ≡ false → (q : Position) →
    (marked ops q).to_read ≡ true
prewrite-lends ops pre alone q =
    let post : postwrite ops ≡ false = (pre-alone ops (or-true (preread ops) (prewrite ops) pre) alone).1 in
    λ i. not (post i) && (pre i || q.to_read)
  where
    or-true : (a b : Bool) → b ≡ true → (a || b) ≡ true
    or-true true b e = refl
    or-true false b e = e

pub preread-lends : (ops : ℕ) → preread ops ≡ true → is_mixed ops ≡ false → (q : Position) →
    (marked ops q).to_write ≡ true
preread-lends ops pre alone q =
    let post : postread ops ≡ false = (pre-alone ops (ap (λ b. b || prewrite ops) pre) alone).0 in
    λ i. not (post i) && (pre i || q.to_write)

-- ---- steps of the device that are done

module _ (l : LaneState) where
  absent-is : {X : Type 0} (o : Option X) (x : X) (step : X → Asking Outcome) → o ≡ Some x →
      unless_absent o l step ≡ step x
  absent-is o x step e = ap (λ q. unless_absent q l step) e

  fine-is : (j : Judged) (step : Asking Outcome) → j ≡ Fine → unless_refused j l step ≡ step
  fine-is j step e = ap (λ q. unless_refused q l step) e

  loaded-is : (m : ℕ) (ss : List Segment) (h : HasLoad l m ss) (step : LaneMap → Asking Outcome) →
      unless_unloaded m l step ≡ step h.own
  loaded-is m ss h step =
      absent-is (get l.maps m) h.own (λ o. if is_loaded o.stage then step o else refused NotLoaded 0 l) h.there
      ∙ ap (λ b. if b then step h.own else refused NotLoaded 0 l) (ap is_loaded h.stage)

  within-is : (m len : ℕ) (step : Asking Outcome) → length (mapped_bytes l m) ≡ len →
      unless_past m 0 len l step ≡ step
  within-is m len step long =
      let count : length (loan_of l.loans m).positions ≡ len =
      sym (length-map (loan_of l.loans m).positions (λ (p : Position). p.pa)) ∙ long in
      ap (λ b. if b then step else refused PastEnd (load_length l m - 0) l)
      (le-leb (0 + len) (load_length l m) (omega (arith, count)))

  -- the positions of the complete load
  whole : (m len : ℕ) → length (mapped_bytes l m) ≡ len →
      take len (drop 0 (loan_of l.loans m).positions) ≡ (loan_of l.loans m).positions
  whole m len long =
      let count : length (loan_of l.loans m).positions ≡ len =
      sym (length-map (loan_of l.loans m).positions (λ (p : Position). p.pa)) ∙ long in
      take_all len (loan_of l.loans m).positions (omega (arith, count))

  -- a read by the driver is done if the place is there, and its bytes are reached, Known and not lent to write
  pub cpu_read-done : (place : Place) (len : ℕ) → virtual_at l place ≡ Some (begin_at l place) →
      first_unreached l (begin_at l place) len ≡ Fine →
      ((i a : ℕ) → slice_get (place_bytes l place len) i ≡ Some a →
      (lent to_write a l.loans ≡ false) × (is_known l.memory a ≡ true)) →
      cpu_read place len l ≡ gives l (answer.Bytes (values l (place_bytes l place len)))
  cpu_read-done place len there reached each =
      absent-is (virtual_at l place) (begin_at l place) step there
      ∙ fine-is (first_unreached l (begin_at l place) len) next reached
      ∙ fine-is (cpu_read_answer (is_known l.memory) l.loans (place_bytes l place len)) last
      (all-fine refusal 0 (place_bytes l place len)
      (all-from (λ a. refusal a ≡ None) (place_bytes l place len) (λ i a at. passes a (each i a at).0 (each i a at).1)))
    where
      refusal : ℕ → Option ReportName
      refusal = cpu_read_refusal (is_known l.memory) l.loans

      last : Asking Outcome
      last = gives l (answer.Bytes (values l (place_bytes l place len)))

      next : Asking Outcome
      next = unless_refused (cpu_read_answer (is_known l.memory) l.loans (place_bytes l place len)) l last

      step : ℕ → Asking Outcome
      step va =
          unless_refused (first_unreached l va len) l (
          unless_refused (cpu_read_answer (is_known l.memory) l.loans (bytes_at l (run_of va len))) l (
          gives l (answer.Bytes (values l (bytes_at l (run_of va len))))))

      passes : (a : ℕ) → lent to_write a l.loans ≡ false → is_known l.memory a ≡ true → refusal a ≡ None
      passes a b k = λ i. if b i then Some CpuReadLent else if k i then None else Some StaleByte

  module _ (m len : ℕ) (ss : List Segment) (h : HasLoad l m ss) (long : length (mapped_bytes l m) ≡ len) where
    read-fine : ((i : ℕ) (p : Position) → slice_get (loan_of l.loans m).positions i ≡ Some p →
        (((loan_of l.loans m).coherent || p.to_read) ≡ true) × (is_known l.memory p.pa ≡ true)) →
        dev_read_answer (is_known l.memory) (loan_of l.loans m) 0 len ≡ Fine
    read-fine each =
        ap (judged refusal 0) (whole m len long)
        ∙ all-fine refusal 0 (loan_of l.loans m).positions
        (all-from (λ p. refusal p ≡ None) (loan_of l.loans m).positions
        (λ i p at. passes p (each i p at).0 (each i p at).1))
      where
        refusal : Position → Option ReportName
        refusal = dev_read_refusal (is_known l.memory) (loan_of l.loans m).coherent

        passes : (p : Position) → ((loan_of l.loans m).coherent || p.to_read) ≡ true → is_known l.memory p.pa ≡ true →
            refusal p ≡ None
        passes p a b = λ i. if a i then if b i then None else Some StaleByte else Some DeviceReadUnlent

    pub dev_read-done : ((i : ℕ) (p : Position) → slice_get (loan_of l.loans m).positions i ≡ Some p →
        (((loan_of l.loans m).coherent || p.to_read) ≡ true) × (is_known l.memory p.pa ≡ true)) →
        dev_read m 0 len l ≡ gives l (answer.Bytes (values l (load_bytes l.loans m 0 len)))
    dev_read-done each =
        loaded-is m ss h (λ o. unless_past m 0 len l step) ∙ within-is m len step long
        ∙ fine-is (dev_read_answer (is_known l.memory) (loan_of l.loans m) 0 len) last (read-fine each)
      where
        last : Asking Outcome
        last = gives l (answer.Bytes (values l (load_bytes l.loans m 0 len)))

        step : Asking Outcome
        step = unless_refused (dev_read_answer (is_known l.memory) (loan_of l.loans m) 0 len) l last

    write-fine : ((i : ℕ) (p : Position) → slice_get (loan_of l.loans m).positions i ≡ Some p →
        ((loan_of l.loans m).coherent || p.to_write) ≡ true) → dev_write_answer (loan_of l.loans m) 0 len ≡ Fine
    write-fine each =
        ap (judged refusal 0) (whole m len long)
        ∙ all-fine refusal 0 (loan_of l.loans m).positions
        (all-from (λ p. refusal p ≡ None) (loan_of l.loans m).positions (λ i p at. passes p (each i p at)))
      where
        refusal : Position → Option ReportName
        refusal = dev_write_refusal (loan_of l.loans m).coherent

        passes : (p : Position) → ((loan_of l.loans m).coherent || p.to_write) ≡ true → refusal p ≡ None
        passes p a = λ i. if a i then None else Some DeviceWriteUnlent

  pub dev_write-done : (m : ℕ) (vs : List ℕ) (ss : List Segment) → HasLoad l m ss →
      length (mapped_bytes l m) ≡ length vs →
      ((i : ℕ) (p : Position) → slice_get (loan_of l.loans m).positions i ≡ Some p →
      ((loan_of l.loans m).coherent || p.to_write) ≡ true) →
      dev_write m 0 vs l
      ≡ gives (record l { memory = written (load_bytes l.loans m 0 (length vs)) vs l.memory }) answer.Done
  dev_write-done m vs ss h long each =
      loaded-is m ss h (λ o. unless_past m 0 (length vs) l step) ∙ within-is m (length vs) step long
      ∙ fine-is (dev_write_answer (loan_of l.loans m) 0 (length vs)) last (write-fine m (length vs) ss h long each)
    where
      last : Asking Outcome
      last = gives (record l { memory = written (load_bytes l.loans m 0 (length vs)) vs l.memory }) answer.Done

      step : Asking Outcome
      step = unless_refused (dev_write_answer (loan_of l.loans m) 0 (length vs)) l last
