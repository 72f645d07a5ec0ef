use Rattle.std.proofs.Common.{◌-◌}
use Rattle.run_set.specs.Numbers.{IsAround}
use Rattle.run_set.proofs.line.Line.count_between.Given as goal

abbrev pub invariant-loop-low : goal.invariant-loop-low
invariant-loop-low l = IsAround l.self.items l.n l.low l.high

abbrev pub decreases-loop-low : goal.decreases-loop-low
decreases-loop-low l = l.high - l.low
