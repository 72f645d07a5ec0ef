-- Drivers that have no doors yet.
use Rattle.std.specs.Prelude.{◌≡◌, ◌<◌, ◌^◌, List, length}
use Rattle.lane_core.specs.declared.lane.Lane.{Lane}
use Rattle.lane_run.specs.Seated.{AreFresh}
use Rattle.lane_threads.specs.Closing.{LanePass}
use Rattle.turnstile.specs.Turnstile.{TurnstileView}

-- drivers, numbered from 0 on, may get doors by passes that are split off from this one
pub record MayBeSeated (lock : TurnstileView) (root : LanePass) (lanes : List Lane) : Type 0 where
  pub turnstile : root.turnstile ≡ lock.id
  pub names : length lanes < lock.names
  pub few : lock.names < 2 ^ 32
  pub fresh : AreFresh root 0 lanes
