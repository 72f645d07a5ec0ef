use Rattle.std.proofs.Common.{◌≡◌, ◌+◌, ◌≤◌, vec_len, vec_capacity}
use Rattle.run_set.specs.Numbers.{stacked}
use Rattle.run_set.proofs.line.pour.Given as goal

abbrev pub invariant-loop-from : goal.invariant-loop-from
invariant-loop-from l = record {
  items : stacked l.to.items l.from.items ≡ stacked l.initial.to.items l.initial.from.items;
  left : l.left ≤ vec_len l.from;
  len : vec_len l.to + vec_len l.from ≡ vec_len l.initial.to + vec_len l.initial.from;
  from : vec_capacity l.from ≡ vec_capacity l.initial.from;
  to : vec_capacity l.to ≡ vec_capacity l.initial.to;
}

abbrev pub decreases-loop-from : goal.decreases-loop-from
decreases-loop-from l = vec_len l.from
