-- What holds of every effective tag.
use Rattle.std.proofs.Common.{◌≡◌, ◌≢◌, ℕ, ◌%◌, ◌^◌, ◌<◌, ◌≤◌, Bool, true, not, ◌&&◌, ◌||◌, ◌==◌, nat_le, inl, inr}
use Rattle.std.proofs.Common.{arith}
use Rattle.std.proofs.lemmas.Bool.{and_parts, or_cases, and_from, le-leb, eqb-true, leb-true, cases_eq}
use Rattle.std.proofs.lemmas.Bool.Decides.{nat_tests}
use Rattle.std.proofs.lemmas.Nat.{pow_pos}
use Rattle.std.specs.Bool.{Decides}
use Rattle.std.specs.Int.{IsPowerOfTwo}
use Rattle.busdma_machine.specs.declared.tags.tag.TagLimits.{TagLimits}
use Rattle.busdma_machine.specs.Tags.Tag.{IsAccepted, IsEffective, is_accepted, is_power_of_two, is_alignment}
use Rattle.busdma_machine.specs.Tags.Tag.{is_boundary, segment_limit, rounded, inherit}
use Rattle.busdma_rules.proofs.Tags.Choices.{either_max, either_min, either_boundary}
use Rattle.busdma_rules.proofs.Tags.Powers.{is_power_of_two_decides}

IsAccepted-tested : (t : TagLimits) → t.alignment < 2 ^ 64 → t.boundary < 2 ^ 64 → is_accepted t ≡ true → IsAccepted t
IsAccepted-tested t alignment_fits boundary_fits test =
    let parts = and_parts (is_alignment t.alignment && is_boundary t.boundary) (not (segment_limit t == 0)) test in
    let limits = and_parts (is_alignment t.alignment) (is_boundary t.boundary) parts.0 in
    let alignment = and_parts (is_power_of_two t.alignment) (nat_le t.alignment 4096) limits.0 in
    let boundary = some_boundary t.boundary limits.1 in
    record {
      alignment_power = (is_power_of_two_decides t.alignment alignment_fits).0 alignment.0;
      alignment_high = leb-true t.alignment 4096 alignment.1;
      boundary_power = λ some. (is_power_of_two_decides t.boundary boundary_fits).0 (boundary some).0;
      boundary_low = λ some. (boundary some).1;
      maxsegsz = some_segment t parts.1;
    }
  where
    some_boundary : (n : ℕ) → is_boundary n ≡ true → n ≢ 0 → (is_power_of_two n ≡ true) × (16 ≤ n)
    some_boundary n taken some =
        elim (or_cases (n == 0) (is_power_of_two n && nat_le 16 n) taken) [
          | inl none ↦ absurd (some (eqb-true n 0 none))
          | inr large ↦ let both = and_parts (is_power_of_two n) (nat_le 16 n) large in (both.0, leb-true 16 n both.1)
        ]

    some_segment : (t : TagLimits) → not (segment_limit t == 0) ≡ true → 1 ≤ t.maxsegsz
    some_segment t h = grind (arith, nat_tests)

boundary_test : (power : Bool) (n : ℕ) → (n ≢ 0 → power ≡ true) → (n ≢ 0 → 16 ≤ n) →
    (n == 0 || (power && nat_le 16 n)) ≡ true
boundary_test power n p q =
    elim (cases_eq n 0) [
      | inl none ↦ grind (arith, nat_tests)
      | inr some ↦ let large = p some in let low = q some in grind (arith, nat_tests)
    ]

some_limit : (t : TagLimits) → IsAccepted t → 1 ≤ segment_limit t
some_limit t a =
    elim (cases_eq t.boundary 0) [
      | inl none ↦ let some = a.maxsegsz in grind (arith, nat_tests)
      | inr some ↦ let some_segment = a.maxsegsz in grind (arith, nat_tests)
    ]

above_test : (n : ℕ) → 1 ≤ n → not (n == 0) ≡ true
above_test n h = grind (arith, nat_tests)

tested_accepted : (t : TagLimits) → t.alignment < 2 ^ 64 → t.boundary < 2 ^ 64 → IsAccepted t → is_accepted t ≡ true
tested_accepted t alignment_fits boundary_fits a =
    let power = (is_power_of_two_decides t.alignment alignment_fits).1 a.alignment_power in
    let alignment =
    and_from (is_power_of_two t.alignment) (nat_le t.alignment 4096) power
    (le-leb t.alignment 4096 a.alignment_high) in
    let boundary =
    boundary_test (is_power_of_two t.boundary) t.boundary
    (λ some. (is_power_of_two_decides t.boundary boundary_fits).1 (a.boundary_power some))
    a.boundary_low
    in
    and_from (is_alignment t.alignment && is_boundary t.boundary) (not (segment_limit t == 0))
    (and_from (is_alignment t.alignment) (is_boundary t.boundary) alignment boundary)
    (above_test (segment_limit t) (some_limit t a))

-- limits are accepted exactly if they pass the test
pub is_accepted_decides : (t : TagLimits) → t.alignment < 2 ^ 64 →
    t.boundary < 2 ^ 64 → Decides (is_accepted t) (IsAccepted t)
is_accepted_decides t p q = (IsAccepted-tested t p q, tested_accepted t p q)

-- limits that are accepted are effective once they are rounded
pub IsEffective-rounded : (t : TagLimits) → IsAccepted t → IsEffective (rounded t)
IsEffective-rounded t a = record {
  alignment_power = a.alignment_power;
  alignment_low = power_low t.alignment a.alignment_power;
  alignment_high = a.alignment_high;
  boundary_power = a.boundary_power;
  boundary_low = a.boundary_low;
  maxsegsz = some_limit t a;
  lowaddr = omega arith;
  highaddr = omega arith;
}
  where
    power_low : (n : ℕ) → IsPowerOfTwo n → 1 ≤ n
    power_low n (k, e) = omega (arith, pow_pos k)

-- inherited limits are effective
pub IsEffective-inherit : (parent child : TagLimits) → IsEffective parent →
    IsEffective child → IsEffective (inherit parent child)
IsEffective-inherit parent child p c = record {
  alignment_power = either_max IsPowerOfTwo parent.alignment child.alignment p.alignment_power c.alignment_power;
  alignment_low = either_max (λ n. 1 ≤ n) parent.alignment child.alignment p.alignment_low c.alignment_low;
  alignment_high = either_max (λ n. n ≤ 4096) parent.alignment child.alignment p.alignment_high c.alignment_high;
  boundary_power = either_boundary IsPowerOfTwo parent.boundary child.boundary p.boundary_power c.boundary_power;
  boundary_low = either_boundary (λ n. 16 ≤ n) parent.boundary child.boundary p.boundary_low c.boundary_low;
  maxsegsz = c.maxsegsz;
  lowaddr = either_min (λ n. n % 4096 ≡ 4095) parent.lowaddr.0 child.lowaddr.0 p.lowaddr c.lowaddr;
  highaddr = either_max (λ n. n % 4096 ≡ 4095) parent.highaddr.0 child.highaddr.0 p.highaddr c.highaddr;
}
