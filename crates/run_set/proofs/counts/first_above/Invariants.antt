use Rattle.std.proofs.Common.{◌-◌, ◌≤◌, ltb, true}
use Rattle.run_set.specs.Counts.{count_of}
use Rattle.run_set.specs.Edges.{NoneIn}
use Rattle.run_set.proofs.counts.first_above.Given as goal

abbrev pub invariant-loop-at : goal.invariant-loop-at
invariant-loop-at l = (l.start ≤ l.at) × NoneIn (λ a. ltb l.n (count_of l.starts.items l.ends.items a)) true l.start
    l.at

abbrev pub decreases-loop-at : goal.decreases-loop-at
decreases-loop-at l = l.end - l.at
