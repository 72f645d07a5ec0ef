use Rattle.std.proofs.Common.{◌≡◌, ◌++◌, List, All, map}
use Rattle.lane_threads.specs.PassDoor.{seen}
use Rattle.lane_rounds.specs.AtWork.{Works}
use Rattle.lane_run.specs.Parked.{ArePassed}
use Rattle.lane_run.specs.Seated.{Seat}
use Rattle.lane_run.proofs.parking.park.Given as goal

abbrev pub invariant-loop-worker : goal.invariant-loop-worker
invariant-loop-worker g l =
    (goal.iterator-loop-worker g).can_next l.worker-iterator ×
    (goal.iterator-loop-worker g).is_finite l.worker-iterator ×
    ((done : List Seat) × (done ++ l.worker-iterator.rest.items ≡ l.fn.workers.items)
    × ArePassed done l.parked.lanes.items (map (λ q. q.items) l.parked.logs.items) l.passes.items) ×
    All (Works seen) l.worker-iterator.rest.items
