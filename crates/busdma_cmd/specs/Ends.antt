-- How reading ends, and how the run of a command ends, by its cause.
use Rattle.std.specs.Prelude.{◌≡◌, ℕ, ◌+◌, ◌≤◌, List, length, Option, Some, None, Result, Ok, Err}
use Rattle.io_edge.specs.Faults.{Rose}
use Rattle.io_edge.specs.Reading.{Takes, TakesAtMost, TakesAll}
use Rattle.busdma_base.specs.Scenarios.Valid.{IsValid}
use Rattle.busdma_base.specs.declared.scenarios.scenario.Scenario.{Scenario}
use Rattle.busdma_base.specs.declared.journals.journal.Journal.{Journal}
use Rattle.scenario_format.specs.declared.reading.Reading.{Reading}
use Rattle.scenario_format.specs.declared.reading.Reading.TheVariants.{Good, Bad}
use Rattle.scenario_format.specs.Scenarios.Scenario.{scenario_of}
use Rattle.ideal_world.specs.Ends.{status}
use Rattle.busdma_cmd.specs.declared.cause.Cause.{Cause}
use Rattle.busdma_cmd.specs.declared.cause.Cause.TheVariants as cause
use Rattle.program_rules.specs.declared.program_end.ProgramEnd.{ProgramEnd}
use Rattle.program_rules.specs.declared.command.Command.{Command}
use Rattle.program_rules.specs.declared.command.Command.TheVariants.{Replay, Run, Storm, Check}
use Rattle.program_rules.specs.Commands.Edges.{StreamEdges, ReadNothing, WriteFailed}
use Rattle.program_rules.specs.Commands.Edges.{NoWriteFailed, WroteNothing, WroteAll}
use Rattle.program_rules.specs.Commands.Edges.{WrotePart, input_limit}
use Rattle.program_rules.specs.Commands.Judging.{scenario_behind_header}
use Rattle.program_rules.specs.Commands.Runs.{IsMadeOf, RunsScenario, text_of}

-- P holds of all the bytes that were left; these are not too many, and nothing is left after them
abbrev pub OfInput : Option (List ℕ) → Option (List ℕ) → (List ℕ → Type 0) → Type 0
OfInput left after P =
    (bytes : List ℕ) × TakesAll bytes left after × (length bytes ≤ input_limit) × P bytes

-- why reading gave nothing to work on, if this is how the bytes are judged
abbrev pub StopsReading : (List ℕ → Reading) → Option (List ℕ) → Option (List ℕ) → Cause → Type 0
StopsReading judge left after (cause.Refused refusal) =
    OfInput left after (λ bytes. judge bytes ≡ Bad refusal)
StopsReading judge left after cause.TooLong = Takes (input_limit + 1) left after
StopsReading judge left after cause.OutOfMemory = TakesAtMost (input_limit + 1) left after
StopsReading judge left after cause.ReadFailed = TakesAtMost input_limit left after
StopsReading judge left after (cause.WriteFailed journal) = ⊥
StopsReading judge left after cause.LineUnwritten = ⊥

-- how reading a scenario ends, by the bytes that were left before it and after it
abbrev pub ReadsInput : Option (List ℕ) → Option (List ℕ) → Result Scenario Cause → Type 0
ReadsInput left after (Ok scenario) = OfInput left after (λ bytes. scenario_of bytes ≡ Good scenario)
ReadsInput left after (Err why) = StopsReading scenario_of left after why

-- how often the source had failed before a call and after it: the count rose if a failed read is the cause,
-- and otherwise it is the same
abbrev pub CountsReads : {A : Type 0} → ℕ → ℕ → Result A Cause → Type 0
CountsReads before now (Ok done) = now ≡ before
CountsReads before now (Err cause.ReadFailed) = Rose before now
CountsReads before now (Err why) = now ≡ before

-- the command made the journal of its valid scenario, and this was written of the journal's text
abbrev pub Makes : Command → StreamEdges → Journal → (List ℕ → StreamEdges → Type 0) → Type 0
Makes c e journal Wrote =
    (scenario : Scenario) × RunsScenario c e scenario × IsValid scenario × IsMadeOf c scenario journal
    × Wrote (text_of c scenario journal) e

-- why a command stopped that wrote nothing; a storm stops only if memory runs out
abbrev pub Stops : Command → StreamEdges → Cause → Type 0
Stops Replay e why = StopsReading scenario_of e.left e.left_after why
Stops Run e why = StopsReading scenario_of e.left e.left_after why
Stops (Storm n seed) e why = (why ≡ cause.OutOfMemory) × ReadNothing e
Stops Check e why = StopsReading scenario_behind_header e.left e.left_after why

-- how the run of a command ends, with what it read and wrote
abbrev pub EndsBy : Command → StreamEdges → Result Journal Cause → Type 0
EndsBy c e (Ok journal) = NoWriteFailed e × Makes c e journal WroteAll
EndsBy c e (Err (cause.WriteFailed journal)) = WriteFailed e × Makes c e journal WrotePart
EndsBy c e (Err why) = Stops c e why × WroteNothing e

-- the outcome of a run that ended with this result
abbrev pub outcome : Result Journal Cause → ProgramEnd
outcome (Ok journal) = record { status = status journal; journal = Some journal; fault = None }
outcome (Err (cause.Refused refusal)) =
    record { status = 65; journal = None; fault = Some refusal }
outcome (Err cause.TooLong) = record { status = 66; journal = None; fault = None }
outcome (Err cause.OutOfMemory) = record { status = 71; journal = None; fault = None }
outcome (Err (cause.WriteFailed journal)) =
    record { status = 73; journal = Some journal; fault = None }
outcome (Err cause.LineUnwritten) = record { status = 73; journal = None; fault = None }
outcome (Err cause.ReadFailed) = record { status = 74; journal = None; fault = None }
