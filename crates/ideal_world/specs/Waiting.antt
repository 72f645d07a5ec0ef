-- What a world in which no actor can step waits for.
use Rattle.std.specs.Prelude.{◌≡◌, ℕ, true, [], Some, slice_get}
use Rattle.std.specs.List.{count_by}
use Rattle.std.specs.FinMap.{get}
use Rattle.busdma_base.specs.declared.scenarios.script.Op.TheVariants.{Await}
use Rattle.busdma_machine.specs.Bounce.Account.{Account, zone_at}
use Rattle.busdma_machine.specs.Bounce.Share.{is_waiter}
use Rattle.ideal_lane.specs.State.{LaneState, LaneMap, Waiting, WaitingLoad, named}
use Rattle.ideal_world.specs.World.{WorldState, has_ended}

-- the script of a driver awaits a map whose load waits for pages, and the waiting list of the map's zone has it once,
-- with the load's need
pub record IsAwaiting (a : Account) (l : LaneState) : Type 0 where
  pub map : ℕ
  pub operation : slice_get l.script l.place ≡ Some (Await map)
  pub own : LaneMap
  pub there : get l.maps map ≡ Some own
  pub load : WaitingLoad
  pub stage : own.stage ≡ Waiting load
  pub zone : ℕ
  pub bounces : own.zone ≡ Some zone
  pub listed : count_by (is_waiter (named l map) zone load.need) (zone_at a zone).wait ≡ 1

-- the script of a driver has ended, or awaits a map whose load waits for pages
pub data EndsOrAwaits (a : Account) (l : LaneState) : Type 0 where
  HasEnded : has_ended l ≡ true → EndsOrAwaits a l
  Awaits : IsAwaiting a l → EndsOrAwaits a l

-- a driver has no page to give back and no item to transfer, and its script has ended or awaits a map whose load waits
-- for pages
pub record DriverAwaits (a : Account) (l : LaneState) : Type 0 where
  pub returns : l.returns ≡ []
  pub queue : l.queue ≡ []
  pub script : EndsOrAwaits a l

-- a world only awaits pages: each driver's script has ended or awaits a map whose load waits, no driver has anything
-- else to do, and no callback is to be called
pub record OnlyAwaits (w : WorldState) : Type 0 where
  pub each : (i : ℕ) (l : LaneState) → slice_get w.lanes i ≡ Some l → DriverAwaits w.account l
  pub ready : w.account.ready ≡ []
