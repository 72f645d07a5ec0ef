-- Counts of a list in which the elements that pass a test come first.
use Rattle.std.proofs.Common.{◌≡◌, ℕ, zero, suc, ◌+◌, ◌≤◌, Bool, true, false, cond, List, [], ◌∷◌, map, length, refl}
use Rattle.std.proofs.Common.{ap, arith}
use Rattle.std.specs.List.{count_by, AllWithin}
use Rattle.std.proofs.lemmas.List.Sums.{sum_by-cons}

abbrev pub weight : Bool → ℕ
weight b = cond b 1 0

module _ {X : Type 0} where
  pub count_by-cons : (p : X → Bool) (x : X) (xs : List X) → count_by p (x ∷ xs) ≡ weight (p x) + count_by p xs
  count_by-cons p x xs = sum_by-cons (λ y. cond (p y) 1 0) x xs

  pub count_by-map : {Y : Type 0} (p : X → Bool) (f : Y → X) (ys : List Y) →
      count_by p (map f ys) ≡ count_by (λ y. p (f y)) ys
  count_by-map p f [] = refl
  count_by-map p f (y ∷ ys) =
      omega (arith, count_by-cons p (f y) (map f ys), sum_by-cons (λ z. cond (p (f z)) 1 0) y ys, count_by-map p f ys)

  -- the first i elements pass, and no other does
  pub count_by-front : (p : X → Bool) (xs : List X) (i : ℕ) → i ≤ length xs → AllWithin (λ x. p x ≡ true) xs 0 i →
      AllWithin (λ x. p x ≡ false) xs i (length xs) → count_by p xs ≡ i
  count_by-front p [] i l front rest = omega arith
  count_by-front p (x ∷ xs) zero l front rest =
      let here : weight (p x) ≡ 0 = ap weight (rest 0 x (omega arith) (omega arith)) in
      omega (
        arith,
        here,
        count_by-cons p x xs,
        count_by-front p xs zero (omega arith) (λ k d a b. absurd (omega arith))
            (λ k d a b. rest (suc k) d (omega arith) (omega arith)),
      )
  count_by-front p (x ∷ xs) (suc i) l front rest =
      let here : weight (p x) ≡ 1 = ap weight (front 0 x (omega arith) (omega arith)) in
      omega (
        arith,
        here,
        count_by-cons p x xs,
        count_by-front p xs i (omega arith) (λ k d a b. front (suc k) d (omega arith) (omega arith))
            (λ k d a b. rest (suc k) d (omega arith) (omega arith)),
      )
