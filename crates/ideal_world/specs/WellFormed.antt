-- What holds of the world of a valid scenario at each of its turns.
use Rattle.std.specs.Prelude.{◌≡◌, ℕ, ◌+◌, ◌<◌, ◌≤◌, List, length, Some, slice_get, All}
use Rattle.busdma_machine.specs.declared.bounce.hold.HoldEntry.{HoldEntry}
use Rattle.busdma_base.specs.declared.scenarios.scenario.Driver.{Driver}
use Rattle.busdma_base.specs.declared.scenarios.scenario.Scenario.{Scenario}
use Rattle.busdma_machine.specs.Bounce.Account.{Account}
use Rattle.busdma_machine.specs.Bounce.History.{IsSound, account_of}
use Rattle.busdma_base.specs.Scenarios.Opening.{opening}
use Rattle.busdma_base.specs.Scenarios.Valid.{IsValid}
use Rattle.ideal_lane.specs.Agreement.{AgreesWith}
use Rattle.ideal_lane.specs.Standing.{Stands}
use Rattle.ideal_lane.specs.State.{LaneState}
use Rattle.ideal_wire.specs.Laid.{AreLaid}
use Rattle.ideal_wire.specs.Machine.{IsInMachine}
use Rattle.ideal_wire.specs.Mapped.{AreMapped}
use Rattle.ideal_wire.specs.Served.{AreServed}
use Rattle.ideal_wire.specs.Spaced.{AreSpaced}
use Rattle.ideal_world.specs.Left.{left_of}
use Rattle.ideal_world.specs.World.{WorldState, bounced, opening_world}

-- this is the state of the scenario's driver of this number: it has the driver's script and pages, its invariant holds,
-- it agrees with the account, it lies in the machine, its loads are laid, the address spaces of its IOMMU tags are in
-- order, the loads of their maps are in their runs, and the zones of its maps serve their tags
pub record IsDriverOf (s : Scenario) (a : Account) (i : ℕ) (l : LaneState) : Type 0 where
  pub driver : Driver
  pub there : slice_get s.drivers i ≡ Some driver
  pub number : l.id ≡ i
  pub script : l.script ≡ driver.script
  pub pages : l.pages ≡ driver.pages
  pub stands : Stands l
  pub agrees : AgreesWith l a
  pub machine : IsInMachine l
  pub laid : AreLaid l
  pub spaced : AreSpaced l
  pub mapped : AreMapped l
  pub served : AreServed l a

-- a sound history of calls of the scenario's drivers leads from its opening to this account
pub record IsAccountReached (s : Scenario) (a : Account) : Type 0 where
  pub history : List HoldEntry
  pub sound : IsSound (opening s) history
  pub own : All (λ e. e.lane.0 < length s.drivers) history
  pub leads : account_of (opening s) history ≡ a

-- what is left to do, together with the syncs that copied bytes of the zone's maps, is at most what was left at the
-- opening
abbrev pub CountsFew : Scenario → WorldState → ℕ → Type 0
CountsFew s w z = bounced w z + left_of w ≤ left_of (opening_world s)

-- a world of a valid scenario is well formed: it has a state of each of the scenario's drivers, the calls of these
-- drivers led to its account, and the syncs counted for a zone are few enough
pub record IsWellFormed (s : Scenario) (w : WorldState) : Type 0 where
  pub valid : IsValid s
  pub count : length w.lanes ≡ length s.drivers
  pub each : (i : ℕ) (l : LaneState) → slice_get w.lanes i ≡ Some l → IsDriverOf s w.account i l
  pub reached : IsAccountReached s w.account
  pub few : (z : ℕ) → CountsFew s w z
