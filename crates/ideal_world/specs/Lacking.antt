-- Why maps that wait get nothing more in a world in which no actor can step.
use Rattle.std.specs.Prelude.{◌≡◌, ℕ, ◌+◌, ◌<◌, ◌≤◌, length, Some, slice_get}
use Rattle.std.specs.FinMap.{get}
use Rattle.busdma_machine.specs.Bounce.Account.{total}
use Rattle.ideal_lane.specs.State.{LaneState, LaneMap}
use Rattle.ideal_lane.specs.Unloads.{pages_of}
use Rattle.ideal_world.specs.World.{WorldState}

-- a map of this zone is loaded and has a page of it, which goes back only after the map is unloaded
pub record HasPageOf (w : WorldState) (z : ℕ) : Type 0 where
  pub lane : ℕ
  pub driver : LaneState
  pub there : slice_get w.lanes lane ≡ Some driver
  pub map : ℕ
  pub own : LaneMap
  pub made : get driver.maps map ≡ Some own
  pub zone : own.zone ≡ Some z
  pub pages : 1 ≤ length (pages_of own.stage)

-- a map that needs so many pages of a zone waits on: a loaded map has a page of the zone, or the zone has fewer pages
-- than the map needs, not counting so many that came late
pub data LacksPages (w : WorldState) (z need late : ℕ) : Type 0 where
  OneIsLoaded : HasPageOf w z → LacksPages w z need late
  ZoneIsSmall : total w.account z < need + late → LacksPages w z need late
