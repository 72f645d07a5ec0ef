-- The marks of a range: no position moves, and which bytes a sync call makes unknown.
use Rattle.std.proofs.Common.{◌≡◌, ℕ, ◌+◌, Bool, true, false, cond, List, [], ◌∷◌, ◌++◌, ◌==◌, map, take, drop, Some}
use Rattle.std.proofs.Common.{unwrap_or, refl, sym, ap, ◌∙◌}
use Rattle.std.proofs.lemmas.List.{map-append, append_assoc, drop-drop, take-append-drop}
use Rattle.std.specs.Ordering.{nat_cmp, eq_by_cmp}
use Rattle.std.specs.Cmp.{nat_cmp_total, unsigned_tied}
use Rattle.std.proofs.lemmas.Map.Views.{exact_unsigned_eq}
use Rattle.std.specs.FinMap.{get, insert, get-insert}
use Rattle.busdma_rules.specs.declared.position.Position.{Position}
use Rattle.busdma_rules.specs.Lending.Loans.{Loan, Loans, loan_of, no_loan, addresses_of}
use Rattle.busdma_machine.specs.Machine.Wire.{stretch}
use Rattle.busdma_rules.specs.Lending.SyncEffects.{marked, marked_range, synced}

addresses_of-marked : (ops : ℕ) (ps : List Position) → addresses_of (map (marked ops) ps) ≡ addresses_of ps
addresses_of-marked ops [] = refl
addresses_of-marked ops (p ∷ ps) = ap (λ xs. p.pa ∷ xs) (addresses_of-marked ops ps)

pub three_parts : (off len : ℕ) (ps : List Position) → take off ps ++ stretch off len ps ++ drop (off + len) ps ≡ ps
three_parts off len ps =
    append_assoc (take off ps) _ _
    ∙ ap (λ xs. take off ps ++ (stretch off len ps ++ xs)) (sym (drop-drop len off ps))
    ∙ ap (λ xs. take off ps ++ xs) (take-append-drop len (drop off ps)) ∙ take-append-drop off ps

addresses_of_three : (a b c : List Position) →
    addresses_of (a ++ b ++ c) ≡ addresses_of a ++ addresses_of b ++ addresses_of c
addresses_of_three a b c = map-append _ (a ++ b) c ∙ ap (λ xs. xs ++ addresses_of c) (map-append _ a b)

pub addresses_of-marked_range : (ops : ℕ) (off len : ℕ) (ps : List Position) →
    addresses_of (marked_range ops off len ps) ≡ addresses_of ps
addresses_of-marked_range ops off len ps =
    addresses_of_three _ _ _ ∙ ap (λ xs. addresses_of (take off ps) ++ xs ++ addresses_of (drop (off + len) ps))
    (addresses_of-marked ops (stretch off len ps))
    ∙ sym (addresses_of_three _ _ _) ∙ ap addresses_of (three_parts off len ps)

-- the loan at a key after an insert
pub loan_of-insert : (loans : Loans) (m : ℕ) (new : Loan) (q : ℕ) →
    loan_of (insert loans m new) q ≡ cond (eq_by_cmp nat_cmp q m) new (loan_of loans q)
loan_of-insert loans m new q =
    ap (λ o. unwrap_or o no_loan) (get-insert nat_cmp_total loans m new q) ∙ chosen (eq_by_cmp nat_cmp q m)
  where
    chosen : (b : Bool) → unwrap_or (cond b (Some new) (get loans q)) no_loan ≡ cond b new (loan_of loans q)
    chosen true = refl
    chosen false = refl

pub same_bytes : (loans : Loans) (m : ℕ) (new : Loan) →
    addresses_of new.positions ≡ addresses_of (loan_of loans m).positions → (q : ℕ) →
    addresses_of (loan_of (insert loans m new) q).positions ≡ addresses_of (loan_of loans q).positions
same_bytes loans m new same q =
    ap (λ l. addresses_of l.positions) (loan_of-insert loans m new q
    ∙ ap (λ b. cond b new (loan_of loans q)) (unsigned_tied q m)) ∙ at_test (q == m) refl
  where
    at_test : (b : Bool) → (q == m) ≡ b → addresses_of (cond b new (loan_of loans q)).positions
        ≡ addresses_of (loan_of loans q).positions
    at_test true e = same ∙ ap (λ k. addresses_of (loan_of loans k).positions) (sym (exact_unsigned_eq q m e))
    at_test false e = refl

-- a sync call moves no position
pub addresses_of-synced : (loans : Loans) (m off len : ℕ) (ops : ℕ) (q : ℕ) →
    addresses_of (loan_of (synced loans m off len ops) q).positions ≡ addresses_of (loan_of loans q).positions
addresses_of-synced loans m off len ops q =
    (elim (loan_of loans m).coherent as (λ b. addresses_of
    (loan_of
    (cond b loans
    (insert loans m (record {
      coherent = false;
      positions = marked_range ops off len (loan_of loans m).positions;
    }))) q).positions
    ≡ addresses_of (loan_of loans q).positions) [
      | true ↦ refl
      | false ↦ same_bytes loans m _ (addresses_of-marked_range ops off len (loan_of loans m).positions) q
    ])
