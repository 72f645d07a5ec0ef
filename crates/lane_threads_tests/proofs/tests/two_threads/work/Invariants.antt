use Rattle.std.proofs.Common.{◌≡◌}
use Rattle.lane_threads.specs.PassDoor.{seen, door_place}
use Rattle.lane_threads_tests.specs.Knowing.{Knows, HasIdle}
use Rattle.lane_threads_tests.proofs.tests.two_threads.work.Given as goal

abbrev pub invariant-loop : goal.invariant-loop
invariant-loop g l =
    Knows l.fn.map.lane.0 (HasIdle l.fn.map.made_at) (seen l.door) × (door_place l.door ≡ door_place l.initial.door)
