-- The bytes of numbers in digits: each is above 47.
use Rattle.std.proofs.Common.{◌≡◌, ℕ, zero, suc, ◌+◌, ◌/◌, ◌%◌, ◌==◌, ◌≤◌, Bool, true, false, List, [], ◌∷◌, ◌++◌, refl}
use Rattle.std.proofs.Common.{arith, if◌then◌else◌, nat_lt}
use Rattle.std.proofs.lemmas.Bool.Decides.{nat_tests}
use Rattle.std.proofs.lemmas.List.Folds.{list_all-append}
use Rattle.std.specs.Fmt.{decimal, digits, digits_onto, digit_glyph}
use Rattle.journal_check.proofs.Lines.{over, and-both}

pub glyph-high : (u : Bool) (d : ℕ) → nat_lt 47 (digit_glyph u d) ≡ true
glyph-high u d = by (nat_lt d 10) u
  where
    by : (b v : Bool) → nat_lt 47 (if b then 48 + d else (if v then 55 + d else 87 + d)) ≡ true
    by true v = grind (arith, nat_tests)
    by false true = grind (arith, nat_tests)
    by false false = grind (arith, nat_tests)

onto-high : (k base : ℕ) (u : Bool) (n : ℕ) (acc : List ℕ) → over 47 acc ≡ true
    → over 47 (digits_onto k base u n acc) ≡ true
onto-high zero base u n acc h = h
onto-high (suc k) base u n acc h =
    let next : over 47 (digit_glyph u (n % base) ∷ acc) ≡ true = rw (glyph-high u (n % base)) h in
    by (n / base == 0) next (onto-high k base u (n / base) (digit_glyph u (n % base) ∷ acc) next)
  where
    by : (b : Bool) → over 47 (digit_glyph u (n % base) ∷ acc) ≡ true
        → over 47 (digits_onto k base u (n / base) (digit_glyph u (n % base) ∷ acc)) ≡ true
        → over 47 (if b then digit_glyph u (n % base) ∷ acc
        else digits_onto k base u (n / base) (digit_glyph u (n % base) ∷ acc)) ≡ true
    by true x y = x
    by false x y = y

pub digits-high : (base : ℕ) (u : Bool) (n : ℕ) → over 47 (digits base u n) ≡ true
unfolding digits
digits-high base u n = onto-high 64 base u n [] refl

pub lower : (c d : ℕ) (bs : List ℕ) → c ≤ d → over d bs ≡ true → over c bs ≡ true
lower c d [] le h = refl
lower c d (b ∷ bs) le h =
    let parts = and-both (nat_lt d b) (over d bs) h in
    let high : nat_lt d b ≡ true = parts.0 in
    let less : nat_lt c b ≡ true = grind (arith, nat_tests) in
    rw less (lower c d bs le parts.1)

pub joined : (c : ℕ) (a b : List ℕ) → over c a ≡ true → over c b ≡ true → over c (a ++ b) ≡ true
joined c a b h k = rw (list_all-append (nat_lt c) a b) (rw h k)

pub decimal-high : (n : ℕ) → over 31 (decimal n) ≡ true
decimal-high n = lower 31 47 (decimal n) (omega arith) (digits-high 10 false n)
