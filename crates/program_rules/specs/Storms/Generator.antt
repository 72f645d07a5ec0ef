-- The numbers that a storm draws: xorshift of 64 bits, with shifts by 13, 7 and 17.
use Rattle.std.specs.Prelude.{ℕ, zero, suc, ◌*◌, ◌/◌, ◌%◌, ◌^◌}
use Rattle.std.specs.Int.RustNames.{bit_xor}

-- x xor (x << by), without the bits that are shifted out
abbrev pub mixed_left : ℕ → ℕ → ℕ
mixed_left by x = bit_xor x (x * 2 ^ by % 2 ^ 64)

-- x xor (x >> by)
abbrev pub mixed_right : ℕ → ℕ → ℕ
mixed_right by x = bit_xor x (x / 2 ^ by)

-- the number that is drawn after x
unfoldable pub next : ℕ → ℕ
next x = mixed_left 17 (mixed_right 7 (mixed_left 13 x))

-- the last of k drawn numbers, or the seed if none is drawn
abbrev pub drawn : ℕ → ℕ → ℕ
drawn zero seed = seed
drawn (suc k) seed = next (drawn k seed)
