-- A driver at a door, in the words of the tests.
use Rattle.busdma_machine.specs.Bounce.Door.{Seen}
use Rattle.lane_core.specs.declared.lane.Lane.{Lane}
use Rattle.lane_core.specs.LaneIdeal.{ideal}
use Rattle.lane_state.specs.Served.{IsServed}

-- a door serves a driver, with a sound history and an account that agrees with the driver
unfoldable pub Serves : Seen → Lane → Type 0
Serves d l = IsServed (ideal l) d
