-- Counts of a list, element by element.
use Rattle.std.proofs.Common.{◌≡◌, ℕ, ◌+◌, Bool, cond, List, [], ◌∷◌, map, refl, arith}
use Rattle.std.specs.List.{count_by}
use Rattle.std.proofs.lemmas.List.Sums.{sum_by-cons}

abbrev pub weight : Bool → ℕ
weight b = cond b 1 0

module _ {X : Type 0} where
  pub count_by-cons : (p : X → Bool) (x : X) (xs : List X) → count_by p (x ∷ xs) ≡ weight (p x) + count_by p xs
  count_by-cons p x xs = sum_by-cons (λ y. cond (p y) 1 0) x xs

  pub count_by-map : {Y : Type 0} (p : X → Bool) (f : Y → X) (ys : List Y) →
      count_by p (map f ys) ≡ count_by (λ y. p (f y)) ys
  count_by-map p f [] = refl
  count_by-map p f (y ∷ ys) =
      omega (arith, count_by-cons p (f y) (map f ys), sum_by-cons (λ z. cond (p (f z)) 1 0) y ys, count_by-map p f ys)
