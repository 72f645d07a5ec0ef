-- A list of numbers that differ, by a test that computes.
use Rattle.std.proofs.Common.{◌≡◌, ◌≢◌, ℕ, Bool, true, false, not, ◌&&◌, List, [], ◌∷◌, eqb, arith}
use Rattle.std.specs.List.{All, AllPairs, list_any}
use Rattle.std.proofs.lemmas.Bool.{and_parts, or_parts, eqb-false, not-true}
use Rattle.std.proofs.lemmas.List.Elements.{All-nil, All-cons}
use Rattle.std.proofs.lemmas.List.Kept.{AllPairs-cons}

-- no number occurs twice
abbrev pub all_differ : List ℕ → Bool
all_differ [] = true
all_differ (x ∷ xs) = not (list_any (eqb x) xs) && all_differ xs

none_is : (x : ℕ) (xs : List ℕ) → list_any (eqb x) xs ≡ false → All (λ y. x ≢ y) xs
none_is x [] e = All-nil (λ y. x ≢ y)
none_is x (y ∷ ys) e =
    let parts = or_parts (eqb x y) (list_any (eqb x) ys) e in
    All-cons (λ z. x ≢ z) y ys (eqb-false x y parts.0) (none_is x ys parts.1)

pub pairs_differ : (xs : List ℕ) → all_differ xs ≡ true → AllPairs (λ x y. x ≢ y) xs
pairs_differ [] e = λ i j d l m. absurd (omega arith)
pairs_differ (x ∷ xs) e =
    let parts = and_parts (not (list_any (eqb x) xs)) (all_differ xs) e in
    AllPairs-cons (λ y z. y ≢ z) x xs (none_is x xs (not-true (list_any (eqb x) xs) parts.0)) (pairs_differ xs parts.1)
