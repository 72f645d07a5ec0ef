use Rattle.std.proofs.Common.{◌≡◌, ◌++◌}
use Rattle.ideal_runs.specs.Merged.{log_entries}
use Rattle.lane_merge.proofs.merging.take_log.Given as goal

abbrev pub invariant-loop-step : goal.invariant-loop-step
invariant-loop-step l =
    (goal.iterator-loop-step).can_next l.step-iterator ×
    (goal.iterator-loop-step).is_finite l.step-iterator ×
    (l.entries.items ++ log_entries l.step-iterator.rest.items ≡ l.initial.entries.items ++ log_entries l.fn.log.items)
