-- What reads and writes leave and answer.
use Rattle.std.proofs.Common.{◌≡◌, ℕ, List, [], length, Option, Some, None, unwrap_or, refl, ap, sym, ◌∙◌}
use Rattle.busdma_machine.specs.Runs.{run_of}
use Rattle.busdma_machine.specs.declared.bounce.hold.HubReply.{HubReply}
use Rattle.busdma_machine.specs.declared.report.Judged.TheVariants.{Fine}
use Rattle.busdma_machine.specs.declared.report.Report.{Report}
use Rattle.busdma_base.specs.declared.journals.answer.Answer.{Answer}
use Rattle.busdma_base.specs.declared.journals.answer.Answer.TheVariants as answer
use Rattle.busdma_base.specs.declared.scenarios.script.Place.{Place}
use Rattle.busdma_rules.specs.Lending.Access.{cpu_read_answer, cpu_write_answer, dev_read_answer, dev_write_answer}
use Rattle.busdma_rules.specs.Lending.Loans.{load_bytes, loan_of}
use Rattle.ideal_lane.specs.Accesses.{cpu_read, cpu_write, dev_read, dev_write, values}
use Rattle.ideal_lane.specs.Asking.{Asking, by_reply}
use Rattle.ideal_lane.specs.IdealMemory.{is_known, written}
use Rattle.ideal_lane.specs.Outcomes.{Outcome, gives, unless_absent, unless_past, unless_refused}
use Rattle.ideal_lane.specs.Places.{bytes_at, first_unreached, virtual_at}
use Rattle.ideal_lane.specs.State.{LaneState}
use Rattle.ideal_lane.proofs.Refusing.{judged, past, unloaded}
use Rattle.ideal_wire.specs.WireStep.{place_bytes}
use Rattle.driver_laws.specs.Steps.{DiffersInWork, IsStep, KeepsContents}
use Rattle.driver_laws.proofs.Differing.{same-contents, same-place, same-reached, same-values, then-differs, worked}

-- ---- answers

abbrev pub bytes_in : Answer → List ℕ
bytes_in (answer.Bytes vs) = vs
bytes_in _ = []

not-bytes : (vs : List ℕ) (r : Report) → answer.Bytes vs ≡ answer.Report r → ⊥
not-bytes vs r e = absurd (cc)

pub not-done : (r : Report) → answer.Done ≡ answer.Report r → ⊥
not-done r e = absurd (cc)

-- a step that answers so leaves a driver of which Q holds
module _ (a : Answer) (Q : LaneState → Type 0) where
  abbrev pub Ends : Asking Outcome → Type 0
  Ends x = (r : HubReply) → a ≡ (by_reply x r).answer → Q (by_reply x r).lane

-- the first virtual address of a place
abbrev pub begin_at : LaneState → Place → ℕ
begin_at l place = unwrap_or (virtual_at l place) 0

-- ---- the driver

module _ (k : LaneState) (len : ℕ) (vs : List ℕ) where
  abbrev IsRead : ℕ → LaneState → Type 0
  IsRead va n =
      (n ≡ k) × (vs ≡ values k (bytes_at k (run_of va len))) × (first_unreached k va len ≡ Fine)

  abbrev Reading : ℕ → Asking Outcome → Type 0
  Reading va = Ends (answer.Bytes vs) (IsRead va)

  abbrev read_step : ℕ → Asking Outcome
  read_step va =
      unless_refused (first_unreached k va len) k (
      unless_refused (cpu_read_answer (is_known k.memory) k.loans (bytes_at k (run_of va len))) k (
      gives k (answer.Bytes (values k (bytes_at k (run_of va len))))))

  read-at : (va : ℕ) → Reading va (read_step va)
  read-at va =
      judged k (Reading va) (λ x r e. absurd (not-bytes vs x e)) (first_unreached k va len)
      (unless_refused (cpu_read_answer (is_known k.memory) k.loans (bytes_at k (run_of va len))) k
      (gives k (answer.Bytes (values k (bytes_at k (run_of va len)))))) (λ reached.
      judged k (Reading va) (λ x r e. absurd (not-bytes vs x e))
      (cpu_read_answer (is_known k.memory) k.loans (bytes_at k (run_of va len)))
      (gives k (answer.Bytes (values k (bytes_at k (run_of va len))))) (λ fine r e. (refl, ap bytes_in e, reached)))

  cpu-reads : (place : Place) → Reading (begin_at k place) (cpu_read place len k)
  cpu-reads place = by (virtual_at k place)
    where
      by : (o : Option ℕ) → Reading (unwrap_or o 0) (unless_absent o k read_step)
      by None = λ r e. absurd (not-bytes vs _ e)
      by (Some va) = read-at va

module _ (k : LaneState) (vs : List ℕ) where
  abbrev after_writing : ℕ → LaneState
  after_writing va = record k { memory = written (bytes_at k (run_of va (length vs))) vs k.memory }

  abbrev IsWritten : ℕ → LaneState → Type 0
  IsWritten va n = (n ≡ after_writing va) × (first_unreached k va (length vs) ≡ Fine)

  abbrev Writing : ℕ → Asking Outcome → Type 0
  Writing va = Ends answer.Done (IsWritten va)

  abbrev write_step : ℕ → Asking Outcome
  write_step va =
      unless_refused (first_unreached k va (length vs)) k (
      unless_refused (cpu_write_answer k.loans (bytes_at k (run_of va (length vs)))) k (
      gives (after_writing va) answer.Done))

  write-at : (va : ℕ) → Writing va (write_step va)
  write-at va =
      judged k (Writing va) (λ x r e. absurd (not-done x e)) (first_unreached k va (length vs))
      (unless_refused (cpu_write_answer k.loans (bytes_at k (run_of va (length vs)))) k
      (gives (after_writing va) answer.Done)) (λ reached.
      judged k (Writing va) (λ x r e. absurd (not-done x e))
      (cpu_write_answer k.loans (bytes_at k (run_of va (length vs)))) (gives (after_writing va) answer.Done)
      (λ fine r e. (refl, reached)))

  cpu-writes : (place : Place) → Writing (begin_at k place) (cpu_write place vs k)
  cpu-writes place = by (virtual_at k place)
    where
      by : (o : Option ℕ) → Writing (unwrap_or o 0) (unless_absent o k write_step)
      by None = λ r e. absurd (not-done _ e)
      by (Some va) = write-at va

-- ---- the device

module _ (k : LaneState) (m off : ℕ) where
  module _ (len : ℕ) (vs : List ℕ) where
    abbrev DevReading : Asking Outcome → Type 0
    DevReading = Ends (answer.Bytes vs) (λ n. (n ≡ k) × (vs ≡ values k (load_bytes k.loans m off len)))

    abbrev dev_read_step : Asking Outcome
    dev_read_step =
        unless_refused (dev_read_answer (is_known k.memory) (loan_of k.loans m) off len) k
        (gives k (answer.Bytes (values k (load_bytes k.loans m off len))))

    dev-reads : DevReading (dev_read m off len k)
    dev-reads =
        unloaded k DevReading (λ x r e. absurd (not-bytes vs x e)) m (λ o. unless_past m off len k dev_read_step)
        (λ o there is. past k DevReading (λ x r e. absurd (not-bytes vs x e)) m off len dev_read_step
        (judged k DevReading (λ x r e. absurd (not-bytes vs x e))
        (dev_read_answer (is_known k.memory) (loan_of k.loans m) off len)
        (gives k (answer.Bytes (values k (load_bytes k.loans m off len)))) (λ fine r e. (refl, ap bytes_in e))))

  module _ (vs : List ℕ) where
    abbrev after_dev_writing : LaneState
    after_dev_writing = record k { memory = written (load_bytes k.loans m off (length vs)) vs k.memory }

    abbrev DevWriting : Asking Outcome → Type 0
    DevWriting = Ends answer.Done (λ n. n ≡ after_dev_writing)

    abbrev dev_write_step : Asking Outcome
    dev_write_step =
        unless_refused (dev_write_answer (loan_of k.loans m) off (length vs)) k
        (gives after_dev_writing answer.Done)

    dev-writes : DevWriting (dev_write m off vs k)
    dev-writes =
        unloaded k DevWriting (λ x r e. absurd (not-done x e)) m
        (λ o. unless_past m off (length vs) k dev_write_step)
        (λ o there is. past k DevWriting (λ x r e. absurd (not-done x e)) m off (length vs) dev_write_step
        (judged k DevWriting (λ x r e. absurd (not-done x e)) (dev_write_answer (loan_of k.loans m) off (length vs))
        (gives after_dev_writing answer.Done) (λ fine r e. refl)))

-- ---- steps

-- a step that leaves this driver leaves it with other work
pub left-over : (k x n : LaneState) → x ≡ k → DiffersInWork x n → DiffersInWork k n
left-over k x n e q = q ∙ ap (worked n) e

pub read-is : (l n : LaneState) (place : Place) (len : ℕ) (vs : List ℕ) →
    IsStep (cpu_read place len) l n (answer.Bytes vs) →
    DiffersInWork l n × (vs ≡ values l (place_bytes l place len))
    × (first_unreached l (begin_at l place) len ≡ Fine)
read-is l n place len vs s =
    let k : LaneState = s.begun in
    let c : KeepsContents l k = same-contents l k s.same in
    let h = cpu-reads k len vs place s.reply s.answer in (
      then-differs l k n s.same (left-over k (by_reply (cpu_read place len k) s.reply).lane n h.0 s.left),
      h.1 ∙ same-values l k c (place_bytes k place len) (place_bytes l place len)
          (same-place l k c.mems c.pages place len),
      sym (same-reached l k c.mems c.pages place len) ∙ h.2,
    )

pub dev_read-is : (l n : LaneState) (m off len : ℕ) (vs : List ℕ) → IsStep (dev_read m off len) l n (answer.Bytes vs) →
    DiffersInWork l n × (vs ≡ values l (load_bytes l.loans m off len))
dev_read-is l n m off len vs s =
    let k : LaneState = s.begun in
    let h = dev-reads k m off len vs s.reply s.answer in (
      then-differs l k n s.same (left-over k (by_reply (dev_read m off len k) s.reply).lane n h.0 s.left),
      h.1 ∙ ap (λ (x : LaneState). values x (load_bytes x.loans m off len)) s.same,
    )

pub write-is : (l n : LaneState) (place : Place) (vs : List ℕ) → IsStep (cpu_write place vs) l n answer.Done →
    DiffersInWork (record l { memory = written (place_bytes l place (length vs)) vs l.memory }) n
    × (first_unreached l (begin_at l place) (length vs) ≡ Fine)
write-is l n place vs s =
    let k : LaneState = s.begun in
    let c : KeepsContents l k = same-contents l k s.same in
    let h = cpu-writes k vs place s.reply s.answer in
    let p : place_bytes k place (length vs) ≡ place_bytes l place (length vs) =
    same-place l k c.mems c.pages place (length vs) in (
      left-over (record k { memory = written (place_bytes k place (length vs)) vs k.memory })
          (by_reply (cpu_write place vs k) s.reply).lane n h.0 s.left
          ∙ (λ i. worked n (record (s.same i) { memory = written (p i) vs (c.memory i) })),
      sym (same-reached l k c.mems c.pages place (length vs)) ∙ h.1,
    )

pub dev_write-is : (l n : LaneState) (m off : ℕ) (vs : List ℕ) → IsStep (dev_write m off vs) l n answer.Done →
    DiffersInWork (record l { memory = written (load_bytes l.loans m off (length vs)) vs l.memory }) n
dev_write-is l n m off vs s =
    let k : LaneState = s.begun in
    left-over (record k { memory = written (load_bytes k.loans m off (length vs)) vs k.memory })
    (by_reply (dev_write m off vs k) s.reply).lane n (dev-writes k m off vs s.reply s.answer) s.left
    ∙ ap (λ (x : LaneState). worked n (record x {
      memory = written (load_bytes x.loans m off (length vs)) vs x.memory;
    })) s.same
