-- Sums, counts and look-ups after an edit at one place.
use Rattle.std.proofs.Common.{◌≡◌, ℕ, zero, suc, ◌+◌, ◌≤◌, Bool, true, false, cond, List, [], ◌∷◌, ◌++◌, map, get_or}
use Rattle.std.proofs.Common.{set, refl, sym, ◌∙◌, arith}
use Rattle.std.proofs.lemmas.Bool.{false≢true}
use Rattle.std.specs.List.{sum_by, count_by, filter}
use Rattle.std.proofs.lemmas.List.Sums.{sum_by-cons, sum_by-append}

abbrev weight : Bool → ℕ
weight b = cond b 1 0

weight-false : (b : Bool) → b ≡ false → weight b ≡ 0
weight-false b e = rw e refl

module _ {X : Type 0} where
  -- a look-up by g, if g of the new element is g of the old one
  pub get_or-set_as : {Y : Type 0} (g : X → Y) (xs : List X) (i j : ℕ) (y d : X) → g y ≡ g (get_or xs i d) →
      g (get_or (set xs i y) j d) ≡ g (get_or xs j d)
  get_or-set_as g [] i j y d e = refl
  get_or-set_as g (x ∷ xs) zero zero y d e = e
  get_or-set_as g (x ∷ xs) zero (suc j) y d e = refl
  get_or-set_as g (x ∷ xs) (suc i) zero y d e = refl
  get_or-set_as g (x ∷ xs) (suc i) (suc j) y d e = get_or-set_as g xs i j y d e

  -- a look-up by g, if g of the new element is no less
  pub get_or-set_more : (g : X → ℕ) (xs : List X) (i j : ℕ) (y d : X) → g (get_or xs i d) ≤ g y →
      g (get_or xs j d) ≤ g (get_or (set xs i y) j d)
  get_or-set_more g [] i j y d e = omega arith
  get_or-set_more g (x ∷ xs) zero zero y d e = e
  get_or-set_more g (x ∷ xs) zero (suc j) y d e = omega arith
  get_or-set_more g (x ∷ xs) (suc i) zero y d e = omega arith
  get_or-set_more g (x ∷ xs) (suc i) (suc j) y d e = get_or-set_more g xs i j y d e

  -- a sum, if one term falls by k
  pub sum_by-set_less : (f : X → ℕ) (xs : List X) (i k : ℕ) (y d : X) → f d ≡ 0 → f y + k ≡ f (get_or xs i d) →
      sum_by f (set xs i y) + k ≡ sum_by f xs
  sum_by-set_less f [] i k y d none e = omega arith
  sum_by-set_less f (x ∷ xs) zero k y d none e = omega (arith, sum_by-cons f y xs, sum_by-cons f x xs)
  sum_by-set_less f (x ∷ xs) (suc i) k y d none e =
      omega (arith, sum_by-cons f x (set xs i y), sum_by-cons f x xs, sum_by-set_less f xs i k y d none e)

  pub sum_by-set_like : (f : X → ℕ) (xs : List X) (i : ℕ) (y d : X) → f d ≡ 0 →
      f y ≡ f (get_or xs i d) → sum_by f (set xs i y) ≡ sum_by f xs
  sum_by-set_like f xs i y d none e = omega (arith, sum_by-set_less f xs i 0 y d none (omega arith))

  -- a filter that keeps all that is counted
  pub count_by-filter_keeps : (p q : X → Bool) (xs : List X) → ((x : X) → p x ≡ true → q x ≡ true) →
      count_by p (filter q xs) ≡ count_by p xs
  count_by-filter_keeps p q [] h = refl
  count_by-filter_keeps p q (x ∷ xs) h =
      (elim (q x) as (λ v. q x ≡ v → count_by p (cond v (x ∷ filter q xs) (filter q xs)) ≡ count_by p (x ∷ xs)) [
        | true ↦ λ w. omega (
          arith,
          sum_by-cons (λ y. cond (p y) 1 0) x (filter q xs),
          sum_by-cons (λ y. cond (p y) 1 0) x xs,
          count_by-filter_keeps p q xs h,
        )
        | false ↦ λ w. (elim (p x) as (λ u. p x ≡ u → count_by p (filter q xs) ≡ count_by p (x ∷ xs)) [
          | true ↦ λ u. absurd (false≢true (sym w ∙ h x u))
          | false ↦ λ u. let zero_here : weight (p x) ≡ 0 = weight-false (p x) u in
              omega (arith, zero_here, sum_by-cons (λ y. cond (p y) 1 0) x xs, count_by-filter_keeps p q xs h)
        ]) refl
      ]) refl

  -- nothing is counted among the results of a function
  pub count_by-map_none : {Y : Type 0} (p : X → Bool) (f : Y → X) (ys : List Y) →
      ((y : Y) → p (f y) ≡ false) → count_by p (map f ys) ≡ 0
  count_by-map_none p f [] h = refl
  count_by-map_none p f (y ∷ ys) h =
      let zero_here : weight (p (f y)) ≡ 0 = weight-false (p (f y)) (h y) in
      omega (arith, zero_here, sum_by-cons (λ x. cond (p x) 1 0) (f y) (map f ys), count_by-map_none p f ys h)

  pub count_by-append : (p : X → Bool) (xs ys : List X) → count_by p (xs ++ ys) ≡ count_by p xs + count_by p ys
  count_by-append p xs ys = sum_by-append (λ x. cond (p x) 1 0) xs ys

  pub count_by-one_no : (p : X → Bool) (x : X) (xs : List X) → p x ≡ false → count_by p (x ∷ xs) ≡ count_by p xs
  count_by-one_no p x xs e = let zero_here : weight (p x) ≡ 0 =
      weight-false (p x) e in omega (arith, zero_here, sum_by-cons (λ y. cond (p y) 1 0) x xs)

  pub count_by-push_no : (p : X → Bool) (xs : List X) (x : X) → p x ≡ false → count_by p (xs ++ x ∷ []) ≡ count_by p xs
  count_by-push_no p xs x e = omega (arith, count_by-append p xs (x ∷ []), count_by-one_no p x [] e)
