-- Marks of a range: no position moves, and the bytes that a call loses.
use Rattle.std.proofs.Common.{◌≡◌, ℕ, zero, suc, Bool, true, false, cond, List, [], ◌∷◌, take, ◌&&◌, ◌||◌, not, drop}
use Rattle.std.proofs.Common.{Option, Some, None, IsSome, unwrap_or, refl, sym, ap, ◌∙◌, subst}
use Rattle.std.specs.List.{filter}
use Rattle.busdma_rules.specs.Tags.SyncOps.{preread, prewrite}
use Rattle.std.specs.Ordering.{nat_cmp, eq_by_cmp}
use Rattle.std.specs.Cmp.{nat_cmp_total}
use Rattle.std.specs.FinMap.{FinMap, get, insert, remove, get-remove}
use Rattle.busdma_rules.specs.declared.position.Position.{Position}
use Rattle.loan_table.specs.Table.{AreIn}
use Rattle.busdma_rules.specs.Lending.Loans.{Loan, Loans, loan_of, no_loan, addresses_of, unlent_positions}
use Rattle.busdma_machine.specs.Machine.Wire.{stretch}
use Rattle.busdma_rules.specs.Lending.SyncEffects.{loses, lost}
use Rattle.loan_table.specs.Trees.{with_value}
use Rattle.busdma_rules.proofs.Lending.Marking.{loan_of-insert}

-- the value that is read beyond the end of a list of positions
abbrev pub no_position : Position
no_position = record { pa = 0; to_read = false; to_write = false }

AreIn-take : (m : FinMap nat_cmp Bool) (n : ℕ) (ps : List Position) →
    AreIn m (addresses_of ps) → AreIn m (addresses_of (take n ps))
AreIn-take m zero ps h = tt
AreIn-take m (suc n) [] h = tt
AreIn-take m (suc n) (p ∷ ps) h = (h.0, AreIn-take m n ps h.1)

AreIn-drop : (m : FinMap nat_cmp Bool) (n : ℕ) (ps : List Position) →
    AreIn m (addresses_of ps) → AreIn m (addresses_of (drop n ps))
AreIn-drop m zero ps h = h
AreIn-drop m (suc n) [] h = tt
AreIn-drop m (suc n) (p ∷ ps) h = AreIn-drop m n ps h.1

pub AreIn-range : (m : FinMap nat_cmp Bool) (off len : ℕ) (ps : List Position) → AreIn m (addresses_of ps) →
    AreIn m (addresses_of (stretch off len ps))
AreIn-range m off len ps h = AreIn-take m len (drop off ps) (AreIn-drop m off ps h)

pub addresses_of-unlent : (keys : List ℕ) → addresses_of (unlent_positions keys) ≡ keys
addresses_of-unlent [] = refl
addresses_of-unlent (a ∷ keys) = ap (λ xs. a ∷ xs) (addresses_of-unlent keys)

-- what holds of the new loan and of each other one holds of all loans
pub put_loan : (P : List Position → Type 0) (loans : Loans) (m : ℕ) (new : Loan) → P new.positions →
    ((q : ℕ) → P (loan_of loans q).positions) → (q : ℕ) → P (loan_of (insert loans m new) q).positions
put_loan P loans m new here others q =
    subst (λ (l : Loan). P l.positions) (sym (loan_of-insert loans m new q)) (chosen (eq_by_cmp nat_cmp q m))
  where
    chosen : (b : Bool) → P (cond b new (loan_of loans q)).positions
    chosen true = here
    chosen false = others q

pub take_loan : (P : List Position → Type 0) (loans : Loans) (m : ℕ) → P [] →
    ((q : ℕ) → P (loan_of loans q).positions) → (q : ℕ) → P (loan_of (remove loans m) q).positions
take_loan P loans m none others q =
    subst (λ o. P (unwrap_or o no_loan).positions)
    (sym (get-remove nat_cmp_total loans m q)) (chosen (eq_by_cmp nat_cmp q m))
  where
    chosen : (b : Bool) → P (unwrap_or (cond b None (get loans q)) no_loan).positions
    chosen true = none
    chosen false = others q

pub with_loan : (P : List Position → Type 0) (loans : Loans) (m : ℕ) (o : Option Loan) →
    P (unwrap_or o no_loan).positions → ((q : ℕ) → P (loan_of loans q).positions) → (q : ℕ) →
    P (loan_of (with_value loans m o) q).positions
with_loan P loans m None here others q = take_loan P loans m here others q
with_loan P loans m (Some new) here others q = put_loan P loans m new here others q

filtered : (m : FinMap nat_cmp Bool) (p : Position) (ps : List Position) (b : Bool) → IsSome (get m p.pa) →
    AreIn m (addresses_of ps) → AreIn m (addresses_of (cond b (p ∷ ps) ps))
filtered m p ps true h k = (h, k)
filtered m p ps false h k = k

pub AreIn-filter : (m : FinMap nat_cmp Bool) (test : Position → Bool) (ps : List Position) →
    AreIn m (addresses_of ps) → AreIn m (addresses_of (filter test ps))
AreIn-filter m test [] h = tt
AreIn-filter m test (p ∷ ps) h = filtered m p (filter test ps) (test p) h.0 (AreIn-filter m test ps h.1)

pub AreIn-lost : (m : FinMap nat_cmp Bool) (loans : Loans) (k off len : ℕ) (ops : ℕ) →
    AreIn m (addresses_of (loan_of loans k).positions) → AreIn m (lost loans k off len ops)
AreIn-lost m loans k off len ops h =
    elim (loan_of loans k).coherent as (λ b. AreIn m
    (cond b [] (addresses_of (filter (loses ops) (stretch off len (loan_of loans k).positions))))) [
      | true ↦ tt
      | false ↦ AreIn-filter m (loses ops) _ (AreIn-range m off len _ h)
    ]

-- a call without PREREAD loses nothing
pub none_lost : (ops : ℕ) (ps : List Position) → preread ops ≡ false → filter (loses ops) ps ≡ []
none_lost ops [] h = refl
none_lost ops (p ∷ ps) h =
    ap (λ b. cond (b && not p.to_write && not (prewrite ops || p.to_read)) (p ∷ filter (loses ops) ps)
    (filter (loses ops) ps)) h ∙ none_lost ops ps h
