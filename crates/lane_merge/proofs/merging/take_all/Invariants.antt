use Rattle.std.proofs.Common.{◌≡◌, ◌++◌, map}
use Rattle.ideal_runs.specs.Merged.{all_entries}
use Rattle.lane_merge.proofs.merging.take_all.Given as goal

abbrev pub invariant-loop-log : goal.invariant-loop-log
invariant-loop-log l =
    (goal.iterator-loop-log).can_next l.log-iterator ×
    (goal.iterator-loop-log).is_finite l.log-iterator ×
    (l.entries.items ++ all_entries (map (λ q. q.items) l.log-iterator.rest.items)
    ≡ l.initial.entries.items ++ all_entries (map (λ q. q.items) l.fn.logs.items))
