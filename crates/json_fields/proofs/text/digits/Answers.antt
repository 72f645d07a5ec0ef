use Rattle.std.proofs.Common.{ℕ, ◌≤◌, ◌^◌, lit<, arith}
use Rattle.std.proofs.Math.Nat.{pow-le-pow_right}
use Rattle.json_fields.proofs.text.digits.Goals as goal

at_most_fifteen : (k : ℕ) → k ≤ 15 → 16 ^ k ≤ 16 ^ 15
at_most_fifteen k h = pow-le-pow_right (lit< tt) h

pub overflow_mul-number : goal.overflow_mul-number
overflow_mul-number c = omega (arith, at_most_fifteen c.loop-b.b-index (omega arith))

pub overflow_add-number : goal.overflow_add-number
overflow_add-number c = omega (arith, at_most_fifteen c.loop-b.b-index (omega arith), c.in_ok-hex_digit.ensures.below)
