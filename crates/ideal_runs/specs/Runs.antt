-- The log of a driver, and the driver's own entries of the history of the bounce lock.
use Rattle.std.specs.Prelude.{◌≡◌, List, [], ◌∷◌, Some}
use Rattle.busdma_machine.specs.declared.bounce.hold.HoldEntry.{HoldEntry}
use Rattle.busdma_base.specs.declared.journals.journal.JournalEntry.{JournalEntry}
use Rattle.ideal_lane.specs.Asking.{Gives, call_of, by_reply}
use Rattle.ideal_lane.specs.State.{LaneState}
use Rattle.ideal_lane.specs.Turns.{Stepped, lane_step}
use Rattle.ideal_runs.specs.declared.logged_step.LoggedStep.{LoggedStep}
use Rattle.ideal_runs.specs.declared.logged_step.LoggedStep.TheVariants.{Local, Held}

-- a log: the steps of a driver, in order
abbrev pub Log : Type 0
Log = List LoggedStep

-- a driver's step makes no call, has this entry, and leads to this state of the driver
abbrev pub StepsAlone : LaneState → JournalEntry → LaneState → Type 0
StepsAlone l e m = lane_step l e.actor.side ≡ Gives (record { lane = m; turn = Stepped e })

-- a driver's step makes the call of this hold; with the hold's reply it has this entry, and leads to this state of the
-- driver
pub record StepsBy (h : HoldEntry) (l : LaneState) (e : JournalEntry) (m : LaneState) : Type 0 where
  pub call : call_of (lane_step l e.actor.side) ≡ Some h.call
  pub turned : by_reply (lane_step l e.actor.side) h.reply ≡ record { lane = m; turn = Stepped e }

-- a log runs a driver from one state to another by its own holds: each step that held makes the next hold's call, each
-- other step makes no call, and no hold is left over
abbrev pub Runs : LaneState → Log → List HoldEntry → LaneState → Type 0
Runs l [] [] m = l ≡ m
Runs l [] (h ∷ hs) m = ⊥
Runs l (Local e ∷ log) hs m = (k : LaneState) × StepsAlone l e k × Runs k log hs m
Runs l (Held e ∷ log) [] m = ⊥
Runs l (Held e ∷ log) (h ∷ hs) m = (k : LaneState) × StepsBy h l e k × Runs k log hs m
