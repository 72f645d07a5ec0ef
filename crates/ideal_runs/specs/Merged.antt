-- The one journal to which the logs of drivers are merged by the history of the bounce lock that they shared.
use Rattle.std.specs.Prelude.{◌≡◌, ℕ, ◌<◌, Bool, List, [], ◌∷◌, ◌++◌, map, length, All, Some, if◌then◌else◌}
use Rattle.std.specs.Prelude.{slice_get, slice_set, slice_index_or}
use Rattle.busdma_machine.specs.declared.bounce.hold.HoldEntry.{HoldEntry}
use Rattle.busdma_base.specs.declared.journals.journal.JournalEntry.{JournalEntry}
use Rattle.busdma_base.specs.declared.scenarios.scenario.Scenario.{Scenario}
use Rattle.busdma_machine.specs.Bounce.Account.{Account}
use Rattle.busdma_machine.specs.Bounce.History.{account_of}
use Rattle.busdma_machine.specs.Bounce.LaneEntries.{of_lane}
use Rattle.busdma_base.specs.Scenarios.Opening.{opening}
use Rattle.ideal_lane.specs.State.{LaneState}
use Rattle.ideal_world.specs.Legal.{Run}
use Rattle.ideal_world.specs.World.{WorldState}
use Rattle.ideal_runs.specs.declared.logged_step.LoggedStep.{LoggedStep}
use Rattle.ideal_runs.specs.declared.logged_step.LoggedStep.TheVariants.{Local, Held}
use Rattle.ideal_runs.specs.Runs.{Log, Runs}

-- the step with this entry, which held the bounce lock or not
abbrev pub logged : JournalEntry → Bool → LoggedStep
logged e held = if held then Held e else Local e

-- the entry of a step
abbrev pub logged_entry : LoggedStep → JournalEntry
logged_entry (Local e) = e
logged_entry (Held e) = e

-- the entries of a log, in order
abbrev pub log_entries : Log → List JournalEntry
log_entries log = map logged_entry log

-- the entries of a log up to the first step that held, and that step's
abbrev pub through_hold : Log → List JournalEntry
through_hold [] = []
through_hold (Local e ∷ log) = e ∷ through_hold log
through_hold (Held e ∷ log) = e ∷ []

-- the log after its first step that held
abbrev pub past_hold : Log → Log
past_hold [] = []
past_hold (Local e ∷ log) = past_hold log
past_hold (Held e ∷ log) = log

-- the log of the driver of a number
abbrev pub log_of : List Log → ℕ → Log
log_of logs i = slice_index_or logs i []

-- the entries of all logs, driver by driver
abbrev pub all_entries : List Log → List JournalEntry
all_entries [] = []
all_entries (log ∷ logs) = log_entries log ++ all_entries logs

-- the merged journal: for each hold the next entries of its driver, up to the one that held; and at the end the rest,
-- driver by driver
abbrev pub merged : List HoldEntry → List Log → List JournalEntry
merged [] logs = all_entries logs
merged (h ∷ hs) logs =
    let log : Log = log_of logs h.lane.0 in
    through_hold log ++ merged hs (slice_set logs h.lane.0 (past_hold log))

-- each driver has the number of its place
abbrev pub AreNumbered : List LaneState → Type 0
AreNumbered lanes = (i : ℕ) (l : LaneState) → slice_get lanes i ≡ Some l → l.id ≡ i

-- each driver has a log that runs it from the first to the last of these states by its own entries of the history, and
-- each entry of the history is of one of these drivers
pub record AllRun (firsts : List LaneState) (logs : List Log) (history : List HoldEntry) (lasts : List LaneState) :
    Type 0 where
  pub logged : length logs ≡ length firsts
  pub last : length lasts ≡ length firsts
  pub own : All (λ h. h.lane.0 < length firsts) history
  pub each : (i : ℕ) (l m : LaneState) → slice_get firsts i ≡ Some l → slice_get lasts i ≡ Some m →
      Runs l (log_of logs i) (of_lane i history) m

-- the world of these drivers and this account
abbrev pub world_of : List LaneState → Account → WorldState
world_of lanes a = record { lanes = lanes; account = a }

-- the run of a scenario with these logs merged, at the end of which the drivers are in these states
abbrev pub merged_run : Scenario → List HoldEntry → List Log → List LaneState → Run
merged_run s history logs lasts =
    record { world = world_of lasts (account_of (opening s) history); entries = merged history logs }
