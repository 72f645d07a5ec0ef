-- The greater and the smaller of two numbers, and the smaller of two boundaries.
use Rattle.std.proofs.Common.{◌≡◌, ◌≢◌, ℕ, ◌≤◌, min, max, sym, subst, inl, inr, arith}
use Rattle.std.proofs.lemmas.Bool.{cases_eq, cases_lt}
use Rattle.std.proofs.lemmas.Bool.Decides.{nat_tests}
use Rattle.busdma_machine.specs.Tags.Tag.{least_boundary}

-- the greater of two is one of them
pub either_max : (P : ℕ → Type 0) (a b : ℕ) → P a → P b → P (max a b)
either_max P a b p q =
    elim (cases_lt a b) [
      | inl above ↦ let same : max a b ≡ b = omega arith in subst P (sym same) q
      | inr below ↦ let same : max a b ≡ a = omega arith in subst P (sym same) p
    ]

-- the smaller of two is one of them
pub either_min : (P : ℕ → Type 0) (a b : ℕ) → P a → P b → P (min a b)
either_min P a b p q =
    elim (cases_lt a b) [
      | inl above ↦ let same : min a b ≡ a = omega arith in subst P (sym same) p
      | inr below ↦ let same : min a b ≡ b = omega arith in subst P (sym same) q
    ]

-- the smaller of two boundaries is one that is not 0
pub either_boundary : (P : ℕ → Type 0) (a b : ℕ) → (a ≢ 0 → P a) → (b ≢ 0 → P b) →
    least_boundary a b ≢ 0 → P (least_boundary a b)
either_boundary P a b p q some =
    elim (cases_eq a 0) [
      | inl none ↦
          let same : least_boundary a b ≡ b = grind (arith, nat_tests) in
          subst P (sym same) (q (λ e. some (grind (arith, nat_tests))))
      | inr a_some ↦
          elim (cases_eq b 0) [
            | inl none ↦ let same : least_boundary a b ≡ a = grind (arith, nat_tests) in subst P (sym same) (p a_some)
            | inr b_some ↦
                let same : least_boundary a b ≡ min a b = grind (arith, nat_tests) in
                subst P (sym same) (either_min P a b (p a_some) (q b_some))
          ]
    ]

-- if one of two boundaries is not 0, the smaller boundary is not 0 and is at most that one
pub least_boundary-left : (a b : ℕ) → a ≢ 0 → (least_boundary a b ≢ 0) × (least_boundary a b ≤ a)
least_boundary-left a b some =
    elim (cases_eq b 0) [
      | inl none ↦ (λ e. some (grind (arith, nat_tests)), grind (arith, nat_tests))
      | inr b_some ↦ (λ e. some (grind (arith, nat_tests)), grind (arith, nat_tests))
    ]

pub least_boundary-right : (a b : ℕ) → b ≢ 0 → (least_boundary a b ≢ 0) × (least_boundary a b ≤ b)
least_boundary-right a b some =
    elim (cases_eq a 0) [
      | inl none ↦ (λ e. some (grind (arith, nat_tests)), grind (arith, nat_tests))
      | inr a_some ↦ (λ e. some (grind (arith, nat_tests)), grind (arith, nat_tests))
    ]
