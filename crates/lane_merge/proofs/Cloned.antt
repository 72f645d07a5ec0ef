-- Logs that were cloned have the steps that they had.
use Rattle.std.proofs.Common.{◌≡◌, List, [], ◌∷◌, map, refl}
use Rattle.std.specs.List.{AllZip}

same-steps : {X : Type 0} (xs ys : List X) → AllZip (λ x y. y ≡ x) xs ys → ys ≡ xs
same-steps [] [] z = refl
same-steps [] (y ∷ ys) z = absurd z
same-steps (x ∷ xs) [] z = absurd z
same-steps (x ∷ xs) (y ∷ ys) z = let rest = same-steps xs ys z.1 in λ i. z.0 i ∷ rest i

pub same-logs : {Q X : Type 0} (steps : Q → List X) (E : Q → Q → Type 0) (qs ws : List Q) →
    AllZip (λ q w. AllZip (λ x y. y ≡ x) (steps q) (steps w) × E q w) qs ws → map steps ws ≡ map steps qs
same-logs steps E [] [] z = refl
same-logs steps E [] (w ∷ ws) z = absurd z
same-logs steps E (q ∷ qs) [] z = absurd z
same-logs steps E (q ∷ qs) (w ∷ ws) z =
    let here = same-steps (steps q) (steps w) z.0.0 in
    let rest = same-logs steps E qs ws z.1 in
    λ i. here i ∷ rest i
