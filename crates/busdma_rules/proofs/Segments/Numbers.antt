-- Tests on numbers.
use Rattle.std.proofs.Common.{◌≡◌, ℕ, ◌<◌, ◌≤◌, true, false, eqb, ltb, leb, arith, ◌≢◌}
use Rattle.std.proofs.lemmas.Bool.Decides.{nat_tests}

pub less : (a b : ℕ) → ltb a b ≡ true → a < b
less a b w = grind (arith, nat_tests)

pub not_less : (a b : ℕ) → ltb a b ≡ false → b ≤ a
not_less a b w = grind (arith, nat_tests)

pub is_less : (a b : ℕ) → a < b → ltb a b ≡ true
is_less a b h = grind (arith, nat_tests)

pub is_not_less : (a b : ℕ) → b ≤ a → ltb a b ≡ false
is_not_less a b h = grind (arith, nat_tests)

pub most : (a b : ℕ) → leb a b ≡ true → a ≤ b
most a b w = grind (arith, nat_tests)

pub above : (a b : ℕ) → leb a b ≡ false → b < a
above a b w = grind (arith, nat_tests)

pub is_most : (a b : ℕ) → a ≤ b → leb a b ≡ true
is_most a b h = grind (arith, nat_tests)

pub is_above : (a b : ℕ) → b < a → leb a b ≡ false
is_above a b h = grind (arith, nat_tests)

pub zero_is : (n : ℕ) → eqb n 0 ≡ true → n ≡ 0
zero_is n w = grind (arith, nat_tests)

pub number_is : (m n : ℕ) → eqb m n ≡ true → m ≡ n
number_is m n w = grind (arith, nat_tests)

pub not_zero : (n : ℕ) → n ≢ 0 → eqb n 0 ≡ false
not_zero n h = grind (arith, nat_tests)
