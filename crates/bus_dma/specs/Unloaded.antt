-- An unload, after which the pages that the driver is done with went back to their zones.
use Rattle.std.specs.Prelude.{ℕ}
use Rattle.busdma_base.specs.declared.journals.answer.Answer.TheVariants.{Done}
use Rattle.driver_laws.specs.Steps.{IsStep, KeepsContents}
use Rattle.ideal_lane.specs.State.{LaneState}
use Rattle.ideal_lane.specs.Unloads.{unload}

-- A map was unloaded: a step of the ideal driver that is done leads to a driver between. The pages that went back after
-- it changed no byte of that driver, and none of its places.
pub record IsUnloaded (m : ℕ) (l n : LaneState) : Type 0 where
  pub between : LaneState
  pub step : IsStep (unload m) l between Done
  pub kept : KeepsContents between n
