-- The journal of a run whose drivers shared one history of the bounce lock.
use Rattle.std.specs.Prelude.{◌≡◌, List}
use Rattle.busdma_machine.specs.declared.bounce.hold.HoldEntry.{HoldEntry}
use Rattle.busdma_machine.specs.Bounce.History.{IsSound, account_of}
use Rattle.busdma_base.specs.declared.journals.journal.Journal.{Journal}
use Rattle.busdma_base.specs.declared.scenarios.scenario.Scenario.{Scenario}
use Rattle.busdma_base.specs.Scenarios.Opening.{opening}
use Rattle.ideal_world.specs.Ends.{IsAtRest, world_end}
use Rattle.ideal_world.specs.World.{WorldState, opening_world, zone_counts}
use Rattle.ideal_runs.specs.Merged.{AllRun, merged}
use Rattle.ideal_runs.specs.Runs.{Log}

-- the logs run to a world: from a scenario's opening, a sound history of the bounce lock leads to the world's account,
-- and the log of each driver runs it to its state there by its own entries of the history, which has only entries of
-- the scenario's drivers
pub record RunsTo (s : Scenario) (logs : List Log) (history : List HoldEntry) (w : WorldState) : Type 0 where
  pub sound : IsSound (opening s) history
  pub account : account_of (opening s) history ≡ w.account
  pub drivers : AllRun (opening_world s).lanes logs history w.lanes

-- a journal is from logs: it has the logs of all drivers, merged by the one history of the bounce lock that they
-- shared, and the counts and the end of the world that they run to, in which no actor can step
pub record IsFromLogs (s : Scenario) (j : Journal) : Type 0 where
  pub logs : List Log
  pub history : List HoldEntry
  pub last : WorldState
  pub run : RunsTo s logs history last
  pub rest : IsAtRest last
  pub entries : j.entries ≡ merged history logs
  pub zones : j.zones ≡ zone_counts last
  pub end : j.end ≡ world_end last
