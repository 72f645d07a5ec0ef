-- What is found in maps after a change, and in lists.
use Rattle.std.proofs.Common.{◌≡◌, ℕ, ◌==◌, Bool, true, false, cond, Some, None, refl, ap, sym, ◌∙◌, List, [], ◌∷◌}
use Rattle.std.proofs.Common.{zero, suc, slice_get}
use Rattle.std.proofs.Common.{subst}
use Rattle.std.specs.List.{AllByRecursion}
use Rattle.std.proofs.lemmas.Map.Views.{exact_unsigned_eq}
use Rattle.std.specs.Ordering.{nat_cmp}
use Rattle.std.specs.Cmp.{nat_cmp_total, unsigned_tied}
use Rattle.std.specs.FinMap.{FinMap, get, insert, remove, get-insert, get-remove}

pub get_put : {X : Type 0} (m : FinMap nat_cmp X) (k : ℕ) (v : X) (q : ℕ) →
    get (insert m k v) q ≡ cond (q == k) (Some v) (get m q)
get_put m k v q = get-insert nat_cmp_total m k v q ∙ ap (λ b. cond b (Some v) (get m q)) (unsigned_tied q k)

pub get_cut : {X : Type 0} (m : FinMap nat_cmp X) (k q : ℕ) → get (remove m k) q ≡ cond (q == k) None (get m q)
get_cut m k q = get-remove nat_cmp_total m k q ∙ ap (λ b. cond b None (get m q)) (unsigned_tied q k)

pub mapped : {X Y : Type 0} (f : X → Y) (b : Bool) (x y : X) → f (cond b x y) ≡ cond b (f x) (f y)
mapped f true x y = refl
mapped f false x y = refl

-- a lookup at a place, chosen by whether it is that place
pub same_at : {X : Type 0} (f : ℕ → X) (k j : ℕ) → f j ≡ cond (j == k) (f k) (f j)
same_at f k j = by (j == k) refl
  where
    by : (b : Bool) → (j == k) ≡ b → f j ≡ cond b (f k) (f j)
    by true e = ap f (exact_unsigned_eq j k e)
    by false e = refl

-- the same value put at a place that has it
pub put_same : {X : Type 0} (f : ℕ → X) (k j : ℕ) (x : X) → x ≡ f k → cond (j == k) x (f j) ≡ f j
put_same f k j x e = ap (λ y. cond (j == k) y (f j)) e ∙ sym (same_at f k j)

-- what holds of each thing in a list holds of the thing at a place
pub all-at : {X : Type 0} (P : X → Type 0) (xs : List X) (k : ℕ) (x : X) → AllByRecursion P xs →
    slice_get xs k ≡ Some x → P x
all-at P [] k x h e = absurd (cc)
all-at P (y ∷ xs) zero x h e = let same : y ≡ x = cc in subst P same h.0
all-at P (y ∷ xs) (suc k) x h e = all-at P xs k x h.1 e
