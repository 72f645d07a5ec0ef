use Rattle.std.proofs.Common.{◌≡◌, ◌++◌, ◌+◌, List, length}
use Rattle.lane_core.specs.declared.lane.Lane.{Lane}
use Rattle.lane_threads.specs.Closing.{with_splits}
use Rattle.lane_run.specs.Seated.{AreFresh, AreSeated}
use Rattle.lane_run.proofs.seating.seat_lanes.Given as goal

abbrev pub invariant-loop-lane : goal.invariant-loop-lane
invariant-loop-lane g l =
    (goal.iterator-loop-lane g).can_next l.lane-iterator ×
    (goal.iterator-loop-lane g).is_finite l.lane-iterator ×
    ((done : List Lane) × (done ++ l.lane-iterator.rest.items ≡ l.fn.lanes.items)
    × AreSeated l.initial.first done l.workers.items) ×
    (l.first ≡ with_splits l.first.splits l.initial.first) ×
    (length l.workers.items + length l.lane-iterator.rest.items ≡ length l.fn.lanes.items) ×
    AreFresh l.initial.first (length l.workers.items) l.lane-iterator.rest.items ×
    (l.first.splits ≡ l.initial.first.splits + length l.workers.items) ×
    (l.first.turnstile ≡ l.initial.first.turnstile)
