-- How a check ends, by its cause.
use Rattle.std.specs.Prelude.{◌≡◌, ℕ, List, Option, None, Result, Ok, Err}
use Rattle.scenario_format.specs.declared.reading.Reading.TheVariants.{Bad}
use Rattle.program_rules.specs.declared.verdict.Verdict.{Verdict}
use Rattle.program_rules.specs.declared.command.Command.TheVariants.{Check}
use Rattle.busdma_cmd.specs.declared.cause.Cause.{Cause}
use Rattle.busdma_cmd.specs.declared.cause.Cause.TheVariants as cause
use Rattle.program_rules.specs.declared.program_end.ProgramEnd.{ProgramEnd}
use Rattle.program_rules.specs.Commands.Edges.{StreamEdges, WriteFailed, NoWriteFailed}
use Rattle.program_rules.specs.Commands.Edges.{WroteNothing, WroteAll, WrotePart}
use Rattle.busdma_cmd.specs.Ends.{OfInput, Stops, StopsReading, outcome}
use Rattle.program_rules.specs.Commands.Judging.{scenario_behind_header}
use Rattle.program_rules.specs.Commands.Checks.{HasVerdict, verdict_line, verdict_status, verdict_journal, Checked}

-- the judgement of an input: its verdict, or why it is refused; or memory ran out
abbrev pub Judges : List ℕ → Result Verdict Cause → Type 0
Judges input (Ok v) = HasVerdict input v
Judges input (Err (cause.Refused refusal)) = scenario_behind_header input ≡ Bad refusal
Judges input (Err why) = why ≡ cause.OutOfMemory

-- how reading an input and judging it ends, by the bytes that were left before it and after it
abbrev pub ReadsVerdict : Option (List ℕ) → Option (List ℕ) → Result Verdict Cause → Type 0
ReadsVerdict left after (Ok v) = OfInput left after (λ input. HasVerdict input v)
ReadsVerdict left after (Err why) = StopsReading scenario_behind_header left after why

-- how a check ends, with what it read and wrote
abbrev pub ChecksBy : StreamEdges → Result Verdict Cause → Type 0
ChecksBy e (Ok v) = NoWriteFailed e × Checked e v × WroteAll (verdict_line v) e
ChecksBy e (Err cause.LineUnwritten) =
    WriteFailed e × ((v : Verdict) × Checked e v × WrotePart (verdict_line v) e)
ChecksBy e (Err (cause.WriteFailed journal)) = ⊥
ChecksBy e (Err why) = Stops Check e why × WroteNothing e

-- the outcome of a check that ended with this result
abbrev pub checked_outcome : Result Verdict Cause → ProgramEnd
checked_outcome (Ok v) = record { status = verdict_status v; journal = verdict_journal v; fault = None }
checked_outcome (Err why) = outcome (Err why)
