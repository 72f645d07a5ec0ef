-- What a command runs and writes.
use Rattle.std.specs.Prelude.{◌≡◌, ℕ, List, []}
use Rattle.busdma_base.specs.declared.scenarios.scenario.Scenario.{Scenario}
use Rattle.busdma_base.specs.declared.journals.journal.Journal.{Journal}
use Rattle.scenario_format.specs.declared.reading.Reading.TheVariants.{Good}
use Rattle.scenario_format.specs.Scenarios.Scenario.{scenario_of}
use Rattle.ideal_runs.specs.FromLogs.{IsFromLogs}
use Rattle.ideal_world.specs.Legal.{IsReplayed}
use Rattle.program_rules.specs.Reports.Report.{report}
use Rattle.program_rules.specs.Storms.Scenario.{storm_scenario}
use Rattle.program_rules.specs.Storms.Summary.{summary}
use Rattle.program_rules.specs.declared.command.Command.{Command}
use Rattle.program_rules.specs.declared.command.Command.TheVariants.{Replay, Run, Storm, Check}
use Rattle.program_rules.specs.Commands.Edges.{StreamEdges, ReadAll, ReadNothing}

-- the scenario was read: the bytes that were left are this scenario's, and all were read
pub record ReadScenario (e : StreamEdges) (scenario : Scenario) : Type 0 where
  pub bytes : List ℕ
  pub read : ReadAll bytes e
  pub good : scenario_of bytes ≡ Good scenario

-- the scenario is the storm of n rounds and this seed, and nothing was read
pub record IsStorm (n seed : ℕ) (e : StreamEdges) (scenario : Scenario) : Type 0 where
  pub read : ReadNothing e
  pub made : scenario ≡ storm_scenario n seed

-- the scenario is the one that the command runs; a check runs none
abbrev pub RunsScenario : Command → StreamEdges → Scenario → Type 0
RunsScenario Replay e scenario = ReadScenario e scenario
RunsScenario Run e scenario = ReadScenario e scenario
RunsScenario (Storm n seed) e scenario = IsStorm n seed e scenario
RunsScenario Check e scenario = ⊥

-- the command reads an input: a scenario, or for a check a header, a scenario and a text
abbrev pub IsReader : Command → Type 0
IsReader Replay = Unit {0}
IsReader Run = Unit {0}
IsReader (Storm n seed) = ⊥
IsReader Check = Unit {0}

-- the journal is one that the command may make of the scenario: the replay of its order; or, for drivers on threads,
-- one to which their logs are merged by the one history of the bounce lock
abbrev pub IsMadeOf : Command → Scenario → Journal → Type 0
IsMadeOf Replay scenario journal = IsReplayed scenario journal
IsMadeOf Run scenario journal = IsFromLogs scenario journal
IsMadeOf (Storm n seed) scenario journal = IsReplayed scenario journal
IsMadeOf Check scenario journal = ⊥

-- the text that the command writes of the journal of its scenario; a check writes its verdict instead
abbrev pub text_of : Command → Scenario → Journal → List ℕ
text_of Replay scenario journal = report scenario journal
text_of Run scenario journal = report scenario journal
text_of (Storm n seed) scenario journal = summary n seed journal
text_of Check scenario journal = []
