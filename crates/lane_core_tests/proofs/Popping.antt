-- The last elements of a list.
use Rattle.std.proofs.Common.{◌≡◌, List, [], ◌∷◌, ◌++◌, length, Some, slice_get, refl, arith}

-- the last element comes after all others
pub last-there : {A : Type 0} (xs : List A) (x : A) → slice_get (xs ++ x ∷ []) (length xs) ≡ Some x
last-there [] x = refl
last-there (y ∷ xs) x = last-there xs x

-- the last but one element comes after those before it
pub before-last : {A : Type 0} (xs : List A) (x y : A) → slice_get ((xs ++ x ∷ []) ++ y ∷ []) (length xs) ≡ Some x
before-last [] x y = refl
before-last (z ∷ xs) x y = before-last xs x y

-- a list with a last element is not empty
pub some-there : {A : Type 0} (xs : List A) (x : A) → length (xs ++ x ∷ []) ≡ 0 → ⊥
some-there [] x none = grind (arith)
some-there (y ∷ xs) x none = grind (arith)
