-- Runs of bytes inside a run that was added, and apart from it.
use Rattle.std.proofs.Common.{◌≡◌, ℕ, zero, suc, ◌+◌, ◌≤◌, Bool, true, false, cond, Some, IsSome, is_some}
use Rattle.std.proofs.Common.{refl, ap, ◌∙◌, arith}
use Rattle.std.proofs.lemmas.Bool.Decides.{nat_tests}
use Rattle.std.specs.Ordering.{nat_cmp}
use Rattle.std.specs.Cmp.{nat_cmp_total, unsigned_tied, nat_eq_equiv}
use Rattle.std.specs.FinMap.{FinMap, get, insert, get-insert}
use Rattle.busdma_machine.specs.Runs.{run_of}
use Rattle.run_set.specs.Edges.{is_inside_run}
use Rattle.loan_table.specs.Table.{AreIn, AreNew, set_all}
use Rattle.loan_table.proofs.RunMarks.{get-set_run}

inside : (s n a : ℕ) → s ≤ a → a + 1 ≤ s + n → is_inside_run s (s + n) a ≡ true
inside s n a p q = grind (arith, nat_tests)

outside : (s n a : ℕ) → s + n ≤ a → is_inside_run s (s + n) a ≡ false
outside s n a p = grind (arith, nat_tests)

module _ (m : FinMap nat_cmp Bool) (s n : ℕ) (v : Bool) where
  pub AreIn-inside : (a k : ℕ) → s ≤ a → a + k ≤ s + n → AreIn (set_all m (run_of s n) v) (run_of a k)
  AreIn-inside a zero p q = tt
  AreIn-inside a (suc k) p q = (
    ap is_some (get-set_run m s n v a ∙ ap (λ b. cond b (Some v) (get m a)) (inside s n a p (omega arith))),
    AreIn-inside (a + 1) k (omega arith) (omega arith),
  )

  pub AreNew-apart : (a k : ℕ) → s + n ≤ a → AreNew m (run_of a k) → AreNew (set_all m (run_of s n) v) (run_of a k)
  AreNew-apart a zero p h = tt
  AreNew-apart a (suc k) p h = (
    ap is_some (get-set_run m s n v a ∙ ap (λ b. cond b (Some v) (get m a)) (outside s n a p)) ∙ h.0,
    AreNew-apart (a + 1) k (omega arith) h.1,
  )

pub put_there : {X : Type 0} (m : FinMap nat_cmp X) (k : ℕ) (x : X) → IsSome (get (insert m k x) k)
put_there m k x = rw (get-insert nat_cmp_total m k x k, unsigned_tied k k, nat_eq_equiv.refl k) refl
