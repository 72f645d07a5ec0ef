use Rattle.std.proofs.Common.{◌≡◌, map, take, length}
use Rattle.lane_core.specs.LaneIdeal.{ideal}
use Rattle.ideal_world.specs.World.{opening_lanes}
use Rattle.world_core.proofs.opening.opening_lanes.Given as goal

abbrev pub invariant-loop-driver : goal.invariant-loop-driver
invariant-loop-driver l = (length l.lanes.items ≡ l.driver-index)
    × (map ideal l.lanes.items ≡ opening_lanes 0 l.fn.maxmem (take l.driver-index l.fn.scenario.drivers))
