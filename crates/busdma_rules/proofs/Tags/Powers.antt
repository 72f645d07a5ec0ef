-- Powers of two: by their set bits, by the numbers that they divide, and as powers.
use Rattle.std.proofs.Common.{◌≡◌, ℕ, zero, suc, ◌+◌, ◌-◌, ◌*◌, ◌/◌, ◌%◌, ◌^◌, ◌<◌, ◌≤◌, nat_lt, ◌==◌, refl, ap, ◌∙◌}
use Rattle.std.proofs.Common.{inl, inr, arith}
use Rattle.std.proofs.Math.Nat.{mul-mod_left, pow-suc, mul_comm}
use Rattle.std.proofs.lemmas.Nat.{zero_from_ones, ones_le_self, pow-add, pow_pos, pow_below, div-add-mod'}
use Rattle.std.proofs.lemmas.Bool.{cases_eq, cases_lt}
use Rattle.std.proofs.lemmas.Bool.Decides.{Decides-like, Decides-and, Decides-ltb, Decides-eqb, same_from_decides}
use Rattle.std.specs.Bool.{Decides}
use Rattle.std.specs.Int.{IsPowerOfTwo}
use Rattle.std.specs.Int.RustNames.{count_ones}
use lib.Count.{ones_step}
use Rattle.busdma_machine.specs.Tags.Tag.{is_power_of_two}

twice_power : (n : ℕ) → n % 2 ≡ 0 → IsPowerOfTwo (n / 2) → IsPowerOfTwo n
twice_power n even (k, e) = (suc k, omega (arith, pow-suc 2 k))

power_below : (d n : ℕ) → n ≤ d → count_ones n ≡ 1 → IsPowerOfTwo n
power_below zero n h e = absurd (omega (arith, ones_le_self n))
power_below (suc d) n h e =
    let step = ones_step n in
    elim (cases_eq (n % 2) 0) [
      | inl even ↦ twice_power n even (power_below d (n / 2) (omega (arith, ones_le_self n)) (omega arith))
      | inr odd ↦ let half = zero_from_ones (n / 2) (omega arith) in (0, omega arith)
    ]

-- a number with one set bit is a power of two
pub power_of_one_bit : (n : ℕ) → count_ones n ≡ 1 → IsPowerOfTwo n
power_of_one_bit n = power_below n n (omega arith)

-- a power of two has one set bit
pub count_ones-power : (k : ℕ) → count_ones (2 ^ k) ≡ 1
count_ones-power zero = omega (arith, ones_step 1, ones_le_self 0)
count_ones-power (suc k) =
    let p = pow-suc 2 k in
    let half : 2 ^ suc k / 2 ≡ 2 ^ k = omega arith in
    omega (arith, ones_step (2 ^ suc k), ap count_ones half, count_ones-power k)

half_product : (n m p : ℕ) → m % 2 ≡ 0 → n * m ≡ p * 2 → n * (m / 2) ≡ p
half_product n m p even e =
    let whole : m ≡ m / 2 * 2 = omega arith in
    let split : n * m ≡ n * (m / 2 * 2) = ap (λ (x : ℕ). n * x) whole in
    omega (arith, split)

odd_product : (n m p : ℕ) → (n % 2 ≡ 0 → ⊥) → (m % 2 ≡ 0 → ⊥) → n * m ≡ p * 2 → ⊥
odd_product n m p n_odd m_odd e =
    let whole : n ≡ n / 2 * 2 + 1 = omega arith in
    let split : n * m ≡ (n / 2 * 2 + 1) * m = ap (λ (x : ℕ). x * m) whole in
    omega (arith, split)

one_product : (n m : ℕ) → n * m ≡ 1 → n ≡ 1
one_product zero m e = omega arith
one_product (suc zero) m e = refl
one_product (suc (suc a)) zero e = omega arith
one_product (suc (suc a)) (suc b) e = omega arith

-- a divisor of a power of two is a power of two
pub power_of_divisor : (k n m : ℕ) → n * m ≡ 2 ^ k → IsPowerOfTwo n
power_of_divisor zero n m e = (0, one_product n m e)
power_of_divisor (suc k) n m e =
    let p : n * m ≡ 2 ^ k * 2 = e ∙ pow-suc 2 k in
    elim (cases_eq (m % 2) 0) [
      | inl m_even ↦ power_of_divisor k n (m / 2) (half_product n m (2 ^ k) m_even p)
      | inr m_odd ↦
          elim (cases_eq (n % 2) 0) [
            | inl n_even ↦ twice_power n n_even
                (power_of_divisor k (n / 2) m (mul_comm (n / 2) m
                ∙ half_product m n (2 ^ k) n_even (mul_comm m n ∙ p)))
            | inr n_odd ↦ absurd (odd_product n m (2 ^ k) n_odd m_odd p)
          ]
    ]

-- a power of two of 64 bits divides 2 ^ 64
pub power_divides : (k : ℕ) → k ≤ 64 → 2 ^ 64 % 2 ^ k ≡ 0
power_divides k h =
    let parts : 64 ≡ 64 - k + k = omega arith in
    let whole : 2 ^ 64 ≡ 2 ^ (64 - k) * 2 ^ k = ap (λ (x : ℕ). 2 ^ x) parts ∙ pow-add 2 (64 - k) k in
    ap (λ (x : ℕ). x % 2 ^ k) whole ∙ mul-mod_left (2 ^ (64 - k)) (2 ^ k)

small_power : (n : ℕ) → n < 2 ^ 64 → (k : ℕ) → n ≡ 2 ^ k → k ≤ 64
small_power n h k e =
    elim (cases_lt 64 k) [
      | inl large ↦ let above = pow_below 64 k large in absurd (omega arith)
      | inr small ↦ small
    ]

-- a number of 64 bits is a power of two exactly if it passes the test by division
pub is_power_of_two_decides : (n : ℕ) → n < 2 ^ 64 → Decides (is_power_of_two n) (IsPowerOfTwo n)
is_power_of_two_decides n h =
    Decides-like (is_power_of_two n)
    (λ (low, divides). power_of_divisor 64 n (2 ^ 64 / n) (let whole = div-add-mod' (2 ^ 64) n in
    mul_comm n (2 ^ 64 / n) ∙ omega arith))
    (λ (k, e). (omega (arith, pow_pos k), ap (λ (x : ℕ). 2 ^ 64 % x) e ∙ power_divides k (small_power n h k e)))
    (Decides-and (nat_lt 0 n) (2 ^ 64 % n == 0) (Decides-ltb 0 n) (Decides-eqb (2 ^ 64 % n) 0))

-- the test by set bits agrees with the test by division
pub one_bit-is_power_of_two : (n : ℕ) → n < 2 ^ 64 → (count_ones n == 1) ≡ is_power_of_two n
one_bit-is_power_of_two n h =
    same_from_decides (count_ones n == 1) (is_power_of_two n)
    (Decides-like (count_ones n == 1) (power_of_one_bit n) (λ (k, e). ap count_ones e
    ∙ count_ones-power k) (Decides-eqb (count_ones n) 1))
    (is_power_of_two_decides n h)
