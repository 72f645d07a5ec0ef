-- Bytes that were added and are removed again.
use Rattle.std.proofs.Common.{◌≡◌, ℕ, Bool, true, false, cond, ◌||◌, List, [], ◌∷◌, ◌==◌}
use Rattle.std.proofs.Common.{None, IsSome, is_some, refl, ap, ◌∙◌}
use Rattle.std.specs.Ordering.{nat_cmp}
use Rattle.std.specs.Cmp.{nat_cmp_total, unsigned_tied}
use Rattle.std.specs.FinMap.{FinMap, empty, get-empty, get, remove, get-remove}
use Rattle.std.specs.List.{AllByRecursion}
use Rattle.std.proofs.lemmas.List.Elements.{recursion_from_All}
use Rattle.busdma_rules.specs.declared.position.Position.{Position}
use Rattle.loan_table.specs.Kept.{AreLow, HasItsBytes}
use Rattle.busdma_rules.specs.Lending.Loans.{Loans, loan_of, addresses_of}
use Rattle.loan_table.specs.Table.{AreIn, AreNew, AreFree, without, is_among}

get-without : (m : FinMap nat_cmp Bool) (ks : List ℕ) (q : ℕ) →
    get (without m ks) q ≡ cond (is_among q ks) None (get m q)
get-without m [] q = refl
get-without m (k ∷ ks) q = get-without (remove m k) ks q
    ∙ ap (cond (is_among q ks) None) (get-remove nat_cmp_total m k q)
    ∙ rw (unsigned_tied q k) (joined (q == k) (is_among q ks))
  where
    joined : (a b : Bool) → cond b None (cond a None (get m q)) ≡ cond (a || b) None (get m q)
    joined true true = refl
    joined true false = refl
    joined false b = refl

pub AreNew-empty : (ks : List ℕ) → AreNew empty ks
AreNew-empty [] = tt
AreNew-empty (k ∷ ks) = (ap is_some (get-empty nat_cmp k), AreNew-empty ks)

kept_of : (m : FinMap nat_cmp Bool) (ks : List ℕ) (q : ℕ) → is_among q ks ≡ false →
    IsSome (get m q) → IsSome (get (without m ks) q)
kept_of m ks q apart there = rw (get-without m ks q, apart) there

-- bytes that are not removed are still there
AreIn-without : (m : FinMap nat_cmp Bool) (ks : List ℕ) (ps : List Position) →
    AllByRecursion (λ (p : Position). is_among p.pa ks ≡ false) ps →
    AreIn m (addresses_of ps) → AreIn (without m ks) (addresses_of ps)
AreIn-without m ks [] apart h = tt
AreIn-without m ks (p ∷ ps) apart h = (kept_of m ks p.pa apart.0 h.0, AreIn-without m ks ps apart.1 h.1)

pub HasItsBytes-without : (m : FinMap nat_cmp Bool) (loans : Loans) (ks : List ℕ) → AreFree loans ks →
    HasItsBytes m loans → HasItsBytes (without m ks) loans
HasItsBytes-without m loans ks free h q =
    AreIn-without m ks (loan_of loans q).positions
    (recursion_from_All (λ p. is_among p.pa ks ≡ false) _ (free q)) (h q)

pub AreLow-without : (m : FinMap nat_cmp Bool) (ks : List ℕ) → AreLow m → AreLow (without m ks)
AreLow-without m ks low a there = low a (at_test (is_among a ks) (rw (get-without m ks a) at there))
  where
    at_test : (b : Bool) → IsSome (cond b None (get m a)) → IsSome (get m a)
    at_test true h = absurd (cc)
    at_test false h = h
