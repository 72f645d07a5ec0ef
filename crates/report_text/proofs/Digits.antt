-- Digits in base 16 that are written from the last one on.
use Rattle.std.proofs.Common.{◌≡◌, ℕ, zero, suc, ◌-◌, ◌/◌, ◌%◌, ◌==◌, ◌<◌, false, List, ◌∷◌, refl, ap, arith}
use Rattle.std.proofs.Math.Dec.{eqb-suc-zero}
use Rattle.std.specs.Fmt.{digit_glyph, digits_onto}

not_zero : (n : ℕ) → (n ≡ 0 → ⊥) → (n == 0) ≡ false
not_zero zero some = absurd (some refl)
not_zero (suc n) some = eqb-suc-zero n

-- the first digit of a number, before those that are written
pub first_digit : (at rest : ℕ) (done : List ℕ) → 0 < at → rest / 16 ≡ 0
    → digits_onto at 16 false rest done ≡ digit_glyph false (rest % 16) ∷ done
first_digit zero rest done some none = absurd (omega arith)
first_digit (suc k) rest done some none = rw none refl

-- another digit, before those that are written
pub next_digit : (at rest : ℕ) (done : List ℕ) → 0 < at → (rest / 16 ≡ 0 → ⊥)
    → digits_onto at 16 false rest done
    ≡ digits_onto (at - 1) 16 false (rest / 16) (digit_glyph false (rest % 16) ∷ done)
next_digit zero rest done some more = absurd (omega arith)
next_digit (suc k) rest done some more =
    let less : k ≡ suc k - 1 = omega arith in
    rw (not_zero (rest / 16) more)
    (ap (λ j. digits_onto j 16 false (rest / 16) (digit_glyph false (rest % 16) ∷ done)) less)
