-- A door at which a driver may call.
use Rattle.std.specs.Prelude.{IsTrue}
use Rattle.busdma_machine.specs.Bounce.Door.{Seen, account}
use Rattle.busdma_machine.specs.Bounce.EachFrame.{LiesBelowMaxmem}
use Rattle.busdma_machine.specs.Bounce.History.{IsOpening, IsSound}
use Rattle.ideal_lane.specs.Agreement.{AgreesWith}
use Rattle.ideal_lane.specs.State.{LaneState}

-- a door serves a driver, its history is sound from an account whose frames are below the end of the machine's memory,
-- and its account agrees with the driver
pub record IsServed (l : LaneState) (d : Seen) : Type 0 where
  pub served : IsTrue (d.serves l.id)
  pub opening : IsOpening d.opening
  pub below : LiesBelowMaxmem d.opening
  pub sound : IsSound d.opening d.history
  pub agrees : AgreesWith l (account d)
