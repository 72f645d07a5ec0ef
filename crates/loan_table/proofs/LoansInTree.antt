-- Loans in a tree map: a loan that is found, a test over all loans, and marks that are set.
use Rattle.std.proofs.Common.{◌≡◌, ℕ, Bool, true, false, List, Some, None}
use Rattle.std.proofs.Common.{unwrap_or, cond, refl, ap, ◌∙◌}
use Rattle.std.specs.Ordering.{nat_cmp}
use Rattle.std.specs.Map.{lookup}
use Rattle.std.specs.BTreeMap.{is_at}
use Rattle.std.specs.FinMap.{insert}
use Rattle.busdma_rules.specs.Lending.Loans.{Loan, Loans, loan_of, no_loan}
use Rattle.busdma_machine.specs.Judging.{judged}
use Rattle.busdma_machine.specs.Machine.Wire.{stretch}
use Rattle.busdma_rules.specs.Lending.SyncEffects.{synced, marked_range, sync_answer, sync_refusal}
use Rattle.loan_table.specs.declared.slot.Slot.{Slot}
use Rattle.loan_table.specs.Trees.{loans_in}
use Rattle.loan_table.proofs.Trees.{get-loans_in, loan_at}

pub loan_found : (es : List (ℕ × Slot)) (m : ℕ) (slot : Slot) → lookup (is_at (nat_cmp m)) es ≡ Some slot →
    slot.is_open ≡ true → loan_of (loans_in true es) m ≡ slot.row
loan_found es m slot h o = ap (λ x. unwrap_or x no_loan)
    (get-loans_in true es m ∙ ap (loan_at true) h ∙ ap (λ b. cond b (Some slot.row) None) o)

pub loan_shut : (es : List (ℕ × Slot)) (m : ℕ) (slot : Slot) → lookup (is_at (nat_cmp m)) es ≡ Some slot →
    slot.is_open ≡ false → loan_of (loans_in true es) m ≡ no_loan
loan_shut es m slot h o = ap (λ x. unwrap_or x no_loan)
    (get-loans_in true es m ∙ ap (loan_at true) h ∙ ap (λ b. cond b (Some slot.row) None) o)

pub loan_prepared : (es : List (ℕ × Slot)) (m : ℕ) (slot : Slot) → lookup (is_at (nat_cmp m)) es ≡ Some slot →
    slot.is_open ≡ false → loan_of (loans_in false es) m ≡ slot.row
loan_prepared es m slot h o = ap (λ x. unwrap_or x no_loan)
    (get-loans_in false es m ∙ ap (loan_at false) h ∙ ap (λ b. cond b None (Some slot.row)) o)

same_loan : (a b : Loan) → a.coherent ≡ b.coherent → a.positions ≡ b.positions → a ≡ b
same_loan a b p q = λ i. record { coherent = p i; positions = q i }

pub synced_open : (loans : Loans) (m off len : ℕ) (ops : ℕ) (row new : Loan) → loan_of loans m ≡ row →
    row.coherent ≡ false → new.coherent ≡ row.coherent → new.positions ≡ marked_range ops off len row.positions →
    insert loans m new ≡ synced loans m off len ops
synced_open loans m off len ops row new e closed c p =
    rw (e, closed) (ap (insert loans m) (same_loan new _ (c ∙ closed) p))

pub synced_coherent : (loans : Loans) (m off len : ℕ) (ops : ℕ) (row : Loan) → loan_of loans m ≡ row →
    row.coherent ≡ true → loans ≡ synced loans m off len ops
synced_coherent loans m off len ops row e open_ = rw (e, open_) refl

pub answer_judged : (loans : Loans) (m off len : ℕ) (ops : ℕ) (row : Loan) → loan_of loans m ≡ row →
    row.coherent ≡ false → judged (sync_refusal loans m ops) off (stretch off len row.positions)
    ≡ sync_answer loans m off len ops
answer_judged loans m off len ops row e h = rw (e, h) refl

pub loan_missing : (is_open : Bool) (es : List (ℕ × Slot)) (m : ℕ) →
    lookup (is_at (nat_cmp m)) es ≡ None → loan_of (loans_in is_open es) m ≡ no_loan
loan_missing is_open es m h = ap (λ x. unwrap_or x no_loan) (get-loans_in is_open es m ∙ ap (loan_at is_open) h)
