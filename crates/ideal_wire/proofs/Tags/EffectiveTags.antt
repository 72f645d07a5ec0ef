-- Limits that are not refused make effective tags.
use Rattle.std.proofs.Common.{◌≡◌, ◌≢◌, ℕ, ◌/◌, ◌%◌, ◌^◌, ◌≤◌, ◌==◌, ◌&&◌, not, Bool, true, false}
use Rattle.std.proofs.Common.{cond, Some, None, refl, ◌∙◌, subst, arith}
use Rattle.std.proofs.Common.{nat_le, nat_lt, option_map, inl, inr, div-add-mod', mul_comm}
use Rattle.std.proofs.lemmas.Bool.{and_parts, or_cases, eqb-true, leb-true}
use Rattle.std.proofs.lemmas.Bool.Decides.{nat_tests}
use Rattle.std.specs.Int.{IsPowerOfTwo}
use Rattle.busdma_machine.specs.declared.tags.tag.TagLimits.{TagLimits}
use Rattle.busdma_machine.specs.Tags.Tag.{IsAccepted, IsEffective, is_accepted, is_alignment, is_boundary}
use Rattle.busdma_machine.specs.Tags.Tag.{is_power_of_two}
use Rattle.busdma_machine.specs.Tags.Tag.{segment_limit, rounded, inherit, effective}
use Rattle.busdma_rules.proofs.Tags.Effective.{IsEffective-rounded, IsEffective-inherit}
use Rattle.busdma_rules.proofs.Tags.Powers.{power_of_divisor}
use Rattle.ideal_wire.proofs.Laid.Positions.{found_one}

-- a number that passes the test is a power of two
power-tested : (n : ℕ) → is_power_of_two n ≡ true → IsPowerOfTwo n
power-tested n h =
    let parts = and_parts (nat_lt 0 n) (2 ^ 64 % n == 0) h in
    let divides : 2 ^ 64 % n ≡ 0 = eqb-true (2 ^ 64 % n) 0 parts.1 in
    let whole = div-add-mod' (2 ^ 64) n in
    power_of_divisor 64 n (2 ^ 64 / n) (mul_comm n (2 ^ 64 / n) ∙ omega (arith, whole, divides))

accepted-tested : (t : TagLimits) → is_accepted t ≡ true → IsAccepted t
accepted-tested t test =
    let parts = and_parts (is_alignment t.alignment && is_boundary t.boundary) (not (segment_limit t == 0)) test in
    let limits = and_parts (is_alignment t.alignment) (is_boundary t.boundary) parts.0 in
    let alignment = and_parts (is_power_of_two t.alignment) (nat_le t.alignment 4096) limits.0 in
    let boundary = some-boundary t.boundary limits.1 in
    record {
      alignment_power = power-tested t.alignment alignment.0;
      alignment_high = leb-true t.alignment 4096 alignment.1;
      boundary_power = λ some. power-tested t.boundary (boundary some).0;
      boundary_low = λ some. (boundary some).1;
      maxsegsz = some-segment t parts.1;
    }
  where
    some-boundary : (n : ℕ) → is_boundary n ≡ true → n ≢ 0 → (is_power_of_two n ≡ true) × (16 ≤ n)
    some-boundary n taken some =
        elim (or_cases (n == 0) (is_power_of_two n && nat_le 16 n) taken) [
          | inl none ↦ absurd (some (eqb-true n 0 none))
          | inr large ↦ let both = and_parts (is_power_of_two n) (nat_le 16 n) large in (both.0, leb-true 16 n both.1)
        ]

    some-segment : (t : TagLimits) → not (segment_limit t == 0) ≡ true → 1 ≤ t.maxsegsz
    some-segment t h = grind (arith, nat_tests)

normal-effective : (s t : TagLimits) → (b : Bool) → is_accepted s ≡ b → cond b (Some (rounded s)) None ≡ Some t →
    IsEffective t
normal-effective s t true e h =
    let same : rounded s ≡ t = found_one (Some (rounded s)) (rounded s) t refl h in
    subst IsEffective same (IsEffective-rounded s (accepted-tested s e))
normal-effective s t false e h = absurd (cc)

pub effective-alone : (s t : TagLimits) → effective None s ≡ Some t → IsEffective t
effective-alone s t h = normal-effective s t (is_accepted s) refl h

pub effective-below : (p s t : TagLimits) → IsEffective p → effective (Some p) s ≡ Some t → IsEffective t
effective-below p s t parent h = by (is_accepted s) refl h
  where
    by : (b : Bool) → is_accepted s ≡ b → option_map (inherit p) (cond b (Some (rounded s)) None) ≡ Some t →
        IsEffective t
    by true e g =
        let same : inherit p (rounded s) ≡ t =
        found_one (Some (inherit p (rounded s))) (inherit p (rounded s)) t refl g in
        subst IsEffective same (IsEffective-inherit p (rounded s) parent (IsEffective-rounded s (accepted-tested s e)))
    by false e g = absurd (cc)
