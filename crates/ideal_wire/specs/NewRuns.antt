-- When the frames that a reply brings to a driver are new to it.
use Rattle.std.specs.Prelude.{◌≡◌, ℕ, ◌+◌, ◌*◌, ◌%◌, ◌≤◌, true, false, is_some}
use Rattle.busdma_machine.specs.declared.bounce.hold.HubReply.{HubReply}
use Rattle.busdma_machine.specs.declared.bounce.hold.HubReply.TheVariants.{Run}
use Rattle.busdma_machine.specs.Bounce.MemoryRuns.{in_run}
use Rattle.ideal_lane.specs.State.{LaneState}

-- a run has complete frames of the machine, and the driver has no byte of it
pub record IsNewRun (l : LaneState) (first count : ℕ) : Type 0 where
  pub whole : first % 4096 ≡ 0
  pub below : first + 4096 * count ≤ 4096 * l.maxmem
  pub fresh : (a : ℕ) → in_run first count a ≡ true → is_some (l.memory a) ≡ false

-- the run that a reply brings, if it brings one, is new to the driver
abbrev pub BringsNew : LaneState → HubReply → Type 0
BringsNew l (Run first count) = IsNewRun l first.0 count
BringsNew l _ = Unit {0}
