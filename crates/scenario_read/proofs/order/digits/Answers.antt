use Rattle.std.proofs.Common.{ℕ, ◌≤◌, ◌^◌, lit<, arith}
use Rattle.std.proofs.Math.Nat.{pow-le-pow_right}
use Rattle.scenario_read.proofs.order.digits.Goals as goal

at_most_eight : (k : ℕ) → k ≤ 8 → 10 ^ k ≤ 10 ^ 8
at_most_eight k h = pow-le-pow_right (lit< tt) h

pub overflow_mul-number : goal.overflow_mul-number
overflow_mul-number c = omega (arith, at_most_eight c.loop-b.b-index (omega arith))

pub overflow_add-number : goal.overflow_add-number
overflow_add-number c = omega (arith, at_most_eight c.loop-b.b-index (omega arith), c.in_ok-digit.ensures.below)
