-- The first element that passes a test, in two parts of a list, if all after it pass.
use Rattle.std.proofs.Common.{◌≡◌, ℕ, zero, suc, ◌+◌, ◌<◌, ◌≤◌, Bool, true, false, not, List, [], ◌∷◌, ◌++◌, length}
use Rattle.std.proofs.Common.{get_or, refl, ap, ◌∙◌, arith, if◌then◌else◌}
use Rattle.busdma_machine.specs.Bounce.Growth.{first_place}

pub first-early : {X : Type 0} (test : X → Bool) (xs ys : List X) → first_place test xs < length xs →
    first_place test (xs ++ ys) ≡ first_place test xs
first-early test [] ys inside = absurd (omega (arith, inside))
first-early test (x ∷ xs) ys inside =
    (elim (test x) as (λ v. (if v then 0 else suc (first_place test xs)) < suc (length xs) →
    (if v then 0 else suc (first_place test (xs ++ ys))) ≡ (if v then 0 else suc (first_place test xs))) [
      | true ↦ λ h. refl
      | false ↦ λ h. ap suc (first-early test xs ys (omega (arith, h)))
    ]) inside

pub first-late : {X : Type 0} (test : X → Bool) (xs ys : List X) → length xs ≤ first_place test xs →
    first_place test (xs ++ ys) ≡ length xs + first_place test ys
first-late test [] ys past = omega arith
first-late test (x ∷ xs) ys past =
    (elim (test x) as (λ v. suc (length xs) ≤ (if v then 0 else suc (first_place test xs)) →
    (if v then 0 else suc (first_place test (xs ++ ys))) ≡ suc (length xs) + first_place test ys) [
      | true ↦ λ h. absurd (omega (arith, h))
      | false ↦ λ h. omega (arith, first-late test xs ys (omega (arith, h)))
    ]) past

-- none before a place passes, and the one there does, if there is one
pub first-is : {X : Type 0} (test : X → Bool) (xs : List X) (n : ℕ) → n ≤ length xs →
    ((k : ℕ) (d : X) → k < n → test (get_or xs k d) ≡ false) →
    ((d : X) → n < length xs → test (get_or xs n d) ≡ true) → first_place test xs ≡ n
first-is test [] n inside before here = omega (arith, inside)
first-is test (x ∷ xs) zero inside before here = ap (λ v. if v then 0 else suc (first_place test xs))
    (here x (omega arith))
first-is test (x ∷ xs) (suc n) inside before here =
    ap (λ v. if v then 0 else suc (first_place test xs)) (before 0 x (omega arith))
    ∙ ap suc (first-is test xs n (omega (arith, inside)) (λ k d h. before (suc k) d (omega (arith, h)))
    (λ d h. here d (omega (arith, h))))

pub fails : (v : Bool) → not v ≡ true → v ≡ false
fails true h = cc
fails false h = refl

pub passes : (v : Bool) → not v ≡ false → v ≡ true
passes true h = refl
passes false h = cc
