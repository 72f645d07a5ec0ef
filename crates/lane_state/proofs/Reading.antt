-- What accesses of the driver that are allowed read.
use Rattle.std.proofs.Common.{◌≡◌, ℕ, ◌+◌, ◌==◌, ◌&&◌, ◌||◌, Bool, true, false, cond, List, [], ◌∷◌, Option, Some}
use Rattle.std.proofs.Common.{None}
use Rattle.std.proofs.Common.{map, refl, sym, ap, ◌∙◌, unwrap_or}
use Rattle.std.specs.FinMap.{FinMap, get, entries}
use Rattle.std.specs.List.{list_any}
use Rattle.std.specs.Ordering.{nat_cmp}
use Rattle.busdma_base.specs.declared.journals.answer.Answer.TheVariants as answer
use Rattle.busdma_machine.specs.declared.report.Judged.{Judged}
use Rattle.busdma_machine.specs.declared.report.Judged.TheVariants.{Fine, Refused}
use Rattle.busdma_machine.specs.declared.report.Report.{Report}
use Rattle.busdma_machine.specs.declared.report.ReportName.{ReportName}
use Rattle.busdma_machine.specs.declared.report.ReportName.TheVariants.{Absent}
use Rattle.busdma_machine.specs.declared.machine.chunk.Chunk.{Chunk}
use Rattle.busdma_base.specs.declared.scenarios.script.Place.{Place}
use Rattle.busdma_machine.specs.Judging.{judged, refused_or}
use Rattle.busdma_base.specs.Scenarios.PageRuns.{physical_in}
use Rattle.busdma_machine.specs.Runs.{run_of}
use Rattle.busdma_rules.specs.declared.position.Position.{Position}
use Rattle.busdma_rules.specs.Lending.Access.{cpu_read_answer, cpu_read_refusal}
use Rattle.busdma_rules.specs.Lending.Loans.{Loan, Loans, lends, to_write}
use Rattle.loan_table.specs.Table.{is_marked}
use Rattle.phys_memory.specs.Memory.{FrameMemory, wire}
use Rattle.phys_memory.specs.Memory as memory
use Rattle.busdma_rules.specs.Memory.Translation.{physical_or_0, unreached}
use Rattle.ideal_lane.specs.Accesses.{cpu_read, values}
use Rattle.ideal_lane.specs.IdealMemory.{known, value, is_known}
use Rattle.ideal_lane.specs.Outcomes.{gives, unless_absent, unless_refused}
use Rattle.ideal_lane.specs.Asking.{Asking}
use Rattle.ideal_lane.specs.Places.{physical, or_in_memory, first_unreached, bytes_at, virtual_at}
use Rattle.ideal_lane.specs.State.{LaneState}
use Rattle.ideal_lane.specs.Outcomes.{Outcome}
use Rattle.ideal_wire.specs.Traces.{bus_at}
use Rattle.lane_state.specs.declared.holdings.Holdings.{Holdings}
use Rattle.lane_state.specs.Covered.{reached_in}
use Rattle.lane_state.specs.Held.{lent_bus, lent_byte, byte_among, content_of, held, devices_of}
use Rattle.lane_state.specs.Ideal.{ideal_of}
use Rattle.lane_state.specs.Kept.{Device, memory_of}
use Rattle.lane_state.proofs.MapValues.{any-map_values}
use Rattle.ideal_lane.specs.Places.{is_in_memory, physical_of}

-- the driver reaches what its frames say
pub physical-same : (h : Holdings) → physical (ideal_of h) ≡ memory.memory_physical h.memory.memory
physical-same h = λ i va. (at va) i
  where
    among : (o : Option ℕ) (va : ℕ) → or_in_memory (ideal_of h) va o ≡ reached_in o h.memories.map va
    among (Some pa) va = refl
    among None va =
        ap (λ b. cond b (Some (physical_of va)) None)
        (any-map_values memory_of (λ e. is_in_memory va e.1) h.memories.map)

    at : (va : ℕ) → physical (ideal_of h) va ≡ memory.memory_physical h.memory.memory va
    at va = among (physical_in h.pages.now va) va ∙ sym (h.reaches va)

known-content : (o : Option Bool) (v : ℕ) → known (content_of o v) ≡ unwrap_or o false
known-content None v = refl
known-content (Some true) v = refl
known-content (Some false) v = refl

-- a byte is Known if its mark says so
pub known-held : (bytes : FinMap nat_cmp Bool) (loans : Loans) (d : ℕ → Device) (m : FrameMemory) →
    is_known (held bytes loans d m) ≡ is_marked bytes
known-held bytes loans d m =
    λ i a. (known-content (get bytes a) (byte_among d m (entries loans) a)) i

either_false : (a b : Bool) → (a || b) ≡ false → (a ≡ false) × (b ≡ false)
either_false true b h = absurd (cc)
either_false false b h = (refl, h)

unlent-bus : (cs : List Chunk) (i : ℕ) (ps : List Position) (a : ℕ) →
    list_any (λ p. (p.pa == a) && to_write p) ps ≡ false → lent_bus cs i ps a ≡ None
unlent-bus cs i [] a h = refl
unlent-bus cs i (p ∷ ps) a h =
    let parts = either_false ((p.pa == a) && to_write p) (list_any (λ q. (q.pa == a) && to_write q) ps) h in
    ap (λ b. cond b (Some (bus_at cs i p.pa)) (lent_bus cs (i + 1) ps a)) parts.0 ∙ unlent-bus cs (i + 1) ps a parts.1

pub unlent-byte : (d : ℕ → Device) (m : FrameMemory) (es : List (ℕ × Loan)) (a : ℕ) →
    list_any (λ e. lends to_write a e.1) es ≡ false → byte_among d m es a ≡ wire m a
unlent-byte d m [] a h = refl
unlent-byte d m (e ∷ es) a h =
    let parts = either_false (lends to_write a e.1) (list_any (λ f. lends to_write a f.1) es) h in
    ap (λ o. lent_byte (d e.0) m o (byte_among d m es a)) (unlent-bus (d e.0).chunks 0 e.1.positions a parts.0)
    ∙ unlent-byte d m es a parts.1

cpu-fine : (b k : Bool) (x y : ReportName) (at : ℕ) (rest : Judged) →
    refused_or (cond b (Some x) (cond k None (Some y))) at rest ≡ Fine → (b ≡ false) × (k ≡ true) × (rest ≡ Fine)
cpu-fine true k x y at rest h = absurd (cc)
cpu-fine false true x y at rest h = (refl, refl, h)
cpu-fine false false x y at rest h = absurd (cc)

marked-value : (o : Option Bool) (v w : ℕ) → unwrap_or o false ≡ true → v ≡ w → w ≡ value (content_of o v)
marked-value None v w h e = absurd (cc)
marked-value (Some true) v w h e = sym e
marked-value (Some false) v w h e = absurd (cc)

two : (a b : ℕ) (xs ys : List ℕ) → a ≡ b → xs ≡ ys → a ∷ xs ≡ b ∷ ys
two a b xs ys p q = λ i. p i ∷ q i

-- the driver reads the values of bytes that are Known and not lent to write
pub cpu-values : (bytes : FinMap nat_cmp Bool) (loans : Loans) (d : ℕ → Device) (m : FrameMemory) (at : ℕ)
    (pas : List ℕ) →
    judged (cpu_read_refusal (is_marked bytes) loans) at pas ≡ Fine →
    map (wire m) pas ≡ map (λ a. value (held bytes loans d m a)) pas
cpu-values bytes loans d m at [] h = refl
cpu-values bytes loans d m at (a ∷ pas) h =
    let p = cpu-fine _ (is_marked bytes a) _ _ at _ h in
    two _ _ _ _
    (marked-value (get bytes a) (byte_among d m (entries loans) a) (wire m a) p.1
    (unlent-byte d m (entries loans) a p.0))
    (cpu-values bytes loans d m (at + 1) pas p.2)

-- a judgement that is Fine
pub passes : (j : Judged) (l : LaneState) (step : Asking Outcome) → j ≡ Fine → unless_refused j l step ≡ step
passes j l step h = rw h refl

-- what the driver reaches at a place, by its frames
pub reached-same : (h : Holdings) (va len : ℕ) →
    first_unreached (ideal_of h) va len ≡ judged (unreached (memory.memory_physical h.memory.memory)) 0 (run_of va len)
reached-same h va len = ap (λ t. judged (unreached t) 0 (run_of va len)) (physical-same h)

-- which bytes it reaches there
pub bytes-same : (h : Holdings) (va len : ℕ) →
    map (physical_or_0 (memory.memory_physical h.memory.memory)) (run_of va len) ≡ bytes_at (ideal_of h) (run_of va len)
bytes-same h va len = sym (ap (λ t. map (physical_or_0 t) (run_of va len)) (physical-same h))

answer-same : (h : Holdings) (pas : List ℕ) →
    cpu_read_answer (is_marked h.loans.bytes) h.loans.loans pas
    ≡ cpu_read_answer (is_known (ideal_of h).memory) h.loans.loans pas
answer-same h pas =
    ap (λ k. cpu_read_answer k h.loans.loans pas)
    (sym (known-held h.loans.bytes h.loans.loans (devices_of h.maps.map) h.memory.memory))

-- a judgement that is a refusal
pub refused : (j : Judged) (r : Report) (l : LaneState) (step : Asking Outcome) → j ≡ Refused r →
    unless_refused j l step ≡ gives l (answer.Report r)
refused j r l step h = rw h refl

-- a read at a place in a memory that does not exist
pub cpu_read-absent : (h : Holdings) (place : Place) (len : ℕ) → virtual_at (ideal_of h) place ≡ None →
    gives (ideal_of h) (answer.Report (record { name = Absent; at = 0 })) ≡ cpu_read place len (ideal_of h)
cpu_read-absent h place len none =
    let l = ideal_of h in
    sym (ap (λ o. unless_absent o l (λ va.
    unless_refused (first_unreached l va len) l (
    unless_refused (cpu_read_answer (is_known l.memory) l.loans (bytes_at l (run_of va len))) l (
    gives l (answer.Bytes (values l (bytes_at l (run_of va len)))))))) none)

module _ (h : Holdings) (place : Place) (va len : ℕ) (at : virtual_at (ideal_of h) place ≡ Some va) where
  abbrev l : LaneState
  l = ideal_of h

  abbrev there : Asking Outcome
  there =
      unless_refused (first_unreached l va len) l (
      unless_refused (cpu_read_answer (is_known l.memory) l.loans (bytes_at l (run_of va len))) l (
      gives l (answer.Bytes (values l (bytes_at l (run_of va len))))))

  placed : cpu_read place len l ≡ there
  placed =
      ap (λ o. unless_absent o l (λ va.
      unless_refused (first_unreached l va len) l (
      unless_refused (cpu_read_answer (is_known l.memory) l.loans (bytes_at l (run_of va len))) l (
      gives l (answer.Bytes (values l (bytes_at l (run_of va len)))))))) at

  -- a read by the driver of which a byte cannot be reached
  pub cpu_read-unmapped : (r : Report) →
      Refused r ≡ judged (unreached (memory.memory_physical h.memory.memory)) 0 (run_of va len) →
      gives l (answer.Report r) ≡ cpu_read place len l
  cpu_read-unmapped r is =
      sym (placed ∙ refused (first_unreached l va len) r l _ (reached-same h va len ∙ sym is))

  -- a read by the driver that is refused
  pub cpu_read-refused : (r : Report) (pas : List ℕ) →
      Fine ≡ judged (unreached (memory.memory_physical h.memory.memory)) 0 (run_of va len) →
      pas ≡ map (physical_or_0 (memory.memory_physical h.memory.memory)) (run_of va len) →
      Refused r ≡ cpu_read_answer (is_marked h.loans.bytes) h.loans.loans pas →
      gives l (answer.Report r) ≡ cpu_read place len l
  cpu_read-refused r pas reaches here is =
      sym (placed ∙ passes (first_unreached l va len) l _ (reached-same h va len ∙ sym reaches)
      ∙ refused _ r l _
      (sym (is ∙ answer-same h pas ∙ ap (cpu_read_answer (is_known l.memory) h.loans.loans)
      (here ∙ bytes-same h va len))))

  -- a read by the driver that is done
  pub cpu_read-done : (pas bytes : List ℕ) →
      Fine ≡ judged (unreached (memory.memory_physical h.memory.memory)) 0 (run_of va len) →
      pas ≡ map (physical_or_0 (memory.memory_physical h.memory.memory)) (run_of va len) →
      Fine ≡ cpu_read_answer (is_marked h.loans.bytes) h.loans.loans pas →
      bytes ≡ map (wire h.memory.memory) pas →
      gives l (answer.Bytes bytes) ≡ cpu_read place len l
  cpu_read-done pas bytes reaches here fine is =
      let same = here ∙ bytes-same h va len in
      ap (λ vs. gives l (answer.Bytes vs))
      (is ∙ cpu-values h.loans.bytes h.loans.loans (devices_of h.maps.map) h.memory.memory 0 pas (sym fine)
      ∙ ap (λ xs. map (λ a. value (l.memory a)) xs) same)
      ∙ sym (placed ∙ passes (first_unreached l va len) l _ (reached-same h va len ∙ sym reaches)
      ∙ passes _ l _ (sym (fine ∙ answer-same h pas ∙ ap (cpu_read_answer (is_known l.memory) h.loans.loans) same)))
