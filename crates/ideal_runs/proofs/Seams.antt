-- Lists of drivers and of logs whose items are read and replaced by number.
use Rattle.std.proofs.Common.{◌≡◌, ℕ, zero, suc, List, [], ◌∷◌, ◌++◌, length, Some, refl, ap, slice_get, slice_set}

module _ {A : Type 0} where
  pub set-again : (xs : List A) (k : ℕ) (x y : A) → slice_set (slice_set xs k x) k y ≡ slice_set xs k y
  set-again [] k x y = refl
  set-again (z ∷ xs) zero x y = refl
  set-again (z ∷ xs) (suc k) x y = ap (λ t. z ∷ t) (set-again xs k x y)

  pub length-slice_set : (xs : List A) (k : ℕ) (y : A) → length (slice_set xs k y) ≡ length xs
  length-slice_set [] k y = refl
  length-slice_set (z ∷ xs) zero y = refl
  length-slice_set (z ∷ xs) (suc k) y = ap suc (length-slice_set xs k y)

  -- the item between two lists
  pub get-seam : (xs ys : List A) (x : A) → slice_get (xs ++ x ∷ ys) (length xs) ≡ Some x
  get-seam [] ys x = refl
  get-seam (z ∷ xs) ys x = get-seam xs ys x

  pub set-seam : (xs ys : List A) (x y : A) → slice_set (xs ++ x ∷ ys) (length xs) y ≡ xs ++ y ∷ ys
  set-seam [] ys x y = refl
  set-seam (z ∷ xs) ys x y = ap (λ t. z ∷ t) (set-seam xs ys x y)
