use Rattle.std.proofs.Common.{◌≡◌, ◌++◌, map, drop, length}
use Rattle.ideal_runs.specs.Merged.{merged}
use Rattle.lane_merge.proofs.merging.merge_owned.Given as goal

abbrev pub invariant-loop-hold : goal.invariant-loop-hold
invariant-loop-hold l =
    (length l.logs.items ≡ length l.initial.logs.items)
    × (l.entries.items ++ merged (drop l.hold-index l.fn.holds) (map (λ q. q.items) l.logs.items)
    ≡ merged l.fn.holds (map (λ q. q.items) l.initial.logs.items))
