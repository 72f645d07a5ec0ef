-- What the bytes of an input are judged to be.
use Rattle.std.specs.Prelude.{ℕ, List, []}
use Rattle.std.specs.Option.{option_map_or}
use Rattle.scenario_format.specs.declared.refusal.Refusal.{Refusal}
use Rattle.scenario_format.specs.declared.refusal.RefusalKind.TheVariants.{BadHeader}
use Rattle.scenario_format.specs.declared.reading.Reading.{Reading}
use Rattle.scenario_format.specs.declared.reading.Reading.TheVariants.{Bad}
use Rattle.scenario_format.specs.Scenarios.Scenario.{scenario_of}
use Rattle.program_rules.specs.Verdicts.Header.{cut_of}
use Rattle.program_rules.specs.declared.command.Command.{Command}
use Rattle.program_rules.specs.declared.command.Command.TheVariants.{Replay, Run, Storm, Check}

-- the refusal of an input without a right header, which has no path
abbrev pub bad_header : Refusal
bad_header = record { kind = BadHeader; path = [] }

-- the scenario after the header of an input, or the first refusal; the header is judged before the scenario
abbrev pub scenario_behind_header : List ℕ → Reading
scenario_behind_header input = option_map_or (λ cut. scenario_of cut.scenario) (cut_of input) (Bad bad_header)

-- what a command judges the bytes of its input to be; a storm has no input
abbrev pub command_reading : Command → List ℕ → Reading
command_reading Replay input = scenario_of input
command_reading Run input = scenario_of input
command_reading (Storm n seed) input = scenario_of input
command_reading Check input = scenario_behind_header input
