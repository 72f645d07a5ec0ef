use Rattle.std.proofs.Common.{◌≡◌, ◌++◌, length}
use Rattle.ideal_runs.specs.Merged.{past_hold, through_hold}
use Rattle.lane_merge.proofs.merging.take_through_hold.Given as goal

abbrev pub invariant-loop-step : goal.invariant-loop-step
invariant-loop-step l =
    (l.entries.items ++ through_hold l.log.items ≡ l.initial.entries.items ++ through_hold l.initial.log.items)
    × (past_hold l.log.items ≡ past_hold l.initial.log.items)

abbrev pub decreases-loop-step : goal.decreases-loop-step
decreases-loop-step l = length l.log.items
