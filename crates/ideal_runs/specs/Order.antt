-- The order in which a merged journal has the steps of drivers.
use Rattle.std.specs.Prelude.{◌≡◌, ℕ, ◌<◌, ◌≤◌, ◌==◌, Bool, true, false, List, ◌∷◌, ◌++◌, map, length, All}
use Rattle.std.specs.List.{count_by, filter}
use Rattle.busdma_machine.specs.declared.bounce.hold.HoldEntry.{HoldEntry}
use Rattle.busdma_machine.specs.Bounce.LaneEntries.{of_lane}
use Rattle.busdma_base.specs.declared.journals.journal.JournalEntry.{JournalEntry}
use Rattle.ideal_runs.specs.declared.logged_step.LoggedStep.{LoggedStep}
use Rattle.ideal_runs.specs.declared.logged_step.LoggedStep.TheVariants.{Local, Held}
use Rattle.ideal_runs.specs.Merged.{log_entries, log_of, logged_entry}
use Rattle.ideal_runs.specs.Runs.{Log}

-- the number of a step's driver
abbrev pub driver_of : LoggedStep → ℕ
driver_of s = (logged_entry s).actor.lane.0

-- a step held
abbrev pub has_held : LoggedStep → Bool
has_held (Local e) = false
has_held (Held e) = true

-- the logs are of these holds' drivers: each hold is of a driver that has a log, each step of a log is of the log's
-- driver, and as many of its steps held as its driver has holds
pub record AreOfDrivers (holds : List HoldEntry) (logs : List Log) : Type 0 where
  pub within : All (λ h. h.lane.0 < length logs) holds
  pub own : (i : ℕ) → i < length logs → All (λ s. driver_of s ≡ i) (log_of logs i)
  pub held : (i : ℕ) → i < length logs → count_by has_held (log_of logs i) ≡ length (of_lane i holds)

-- a step is no hold of this driver
abbrev pub HoldsNot : ℕ → LoggedStep → Type 0
HoldsNot i s = driver_of s ≡ i → has_held s ≡ false

-- a step held nothing, and its driver has this number or a higher one
pub record IsRest (i : ℕ) (s : LoggedStep) : Type 0 where
  pub unheld : has_held s ≡ false
  pub driver : i ≤ driver_of s

-- steps are in order: the steps of each driver are its log; the steps that held are, one by one, of the drivers of the
-- holds; between a step that held nothing and its driver's next hold there are only steps of this driver; and after a
-- step whose driver does not hold again, nothing holds and no driver of a lower number has a step
pub record IsInOrder (holds : List HoldEntry) (logs : List Log) (steps : Log) : Type 0 where
  pub each : (i : ℕ) → i < length logs → filter (λ s. driver_of s == i) steps ≡ log_of logs i
  pub held : map driver_of (filter has_held steps) ≡ map (λ h. h.lane.0) holds
  pub directly : (before between after : Log) (e f : JournalEntry) →
      steps ≡ before ++ (Local e ∷ (between ++ (Held f ∷ after))) → f.actor.lane.0 ≡ e.actor.lane.0 →
      All (HoldsNot e.actor.lane.0) between → All (λ s. driver_of s ≡ e.actor.lane.0) between
  pub last : (before after : Log) (e : JournalEntry) → steps ≡ before ++ (Local e ∷ after) →
      All (HoldsNot e.actor.lane.0) after → All (IsRest e.actor.lane.0) after

-- entries are in order: they are the entries of steps that are in order
pub record AreOrdered (holds : List HoldEntry) (logs : List Log) (entries : List JournalEntry) : Type 0 where
  pub steps : Log
  pub order : IsInOrder holds logs steps
  pub is : entries ≡ log_entries steps
