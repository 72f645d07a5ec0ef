-- The ideal state of a driver, and what keeps it from a call.
use Rattle.std.specs.Prelude.{ℕ, ◌+◌, ◌==◌, Bool, true, ◌&&◌, Option, Some, None, Result, Ok, Err, if◌then◌else◌}
use Rattle.std.specs.Prelude.{nat_le}
use Rattle.busdma_base.specs.Scenarios.Limits.{buffer_limit, loaded_limit}
use Rattle.busdma_machine.specs.declared.name.MapId.{MapId}
use Rattle.busdma_machine.specs.declared.report.ReportName.TheVariants.{Absent}
use Rattle.bus_dma.specs.declared.driver.DmaDriver.{DmaDriver}
use Rattle.bus_dma.specs.declared.failure.DmaError.{DmaError}
use Rattle.bus_dma.specs.declared.failure.DmaError.TheVariants as error
use Rattle.ideal_lane.specs.State.{LaneState}
use Rattle.lane_core.specs.Appending.{is_ready, promised_pages}
use Rattle.lane_core.specs.LaneIdeal.{ideal}

-- the ideal state of a driver
abbrev pub state : DmaDriver → LaneState
state d = ideal d.lane

-- how many pages the loads of a driver have or wait for
abbrev pub pages_promised : DmaDriver → ℕ
pages_promised d = promised_pages d.lane

-- a name is of this driver; no name is not of another
abbrev pub is_own_name : LaneState → Option MapId → Bool
is_own_name l None = true
is_own_name l (Some m) = m.lane.0 == l.id

-- the error of a result, if it is one
abbrev pub error_of : {R : Type 0} → Result R DmaError → Option DmaError
error_of (Ok x) = None
error_of (Err e) = Some e

-- what keeps a call from being made on what has a name: it is another driver's, or the driver is not ready
abbrev pub hindrance : Option MapId → LaneState → Option DmaError
hindrance on l =
    if is_own_name l on then (if is_ready l then None else Some error.NotReady)
    else Some (error.Report (record { name = Absent; at = 0 }))

-- a load of so many bytes is small, and so it is with the pages that the driver's loads have or wait for
abbrev pub is_small : ℕ → DmaDriver → Bool
is_small bytes d = nat_le bytes buffer_limit && nat_le (pages_promised d + bytes) loaded_limit

-- what keeps a load of so many bytes from being made: it is too large; or what keeps any call
abbrev pub load_hindrance : Option MapId → ℕ → DmaDriver → Option DmaError
load_hindrance on bytes d = if is_small bytes d then hindrance on (state d) else Some error.TooLarge
