-- How a call of the program ends, and why.
use Rattle.std.specs.Prelude.{◌≡◌, ◌≢◌, ℕ, ◌+◌, ◌≤◌, ◌<◌, ◌⊎◌, ◌↔◌, List, length, Some, None, IfSome, IsSome, IsSomeAnd}
use Rattle.busdma_base.specs.Scenarios.Valid.{IsValid}
use Rattle.busdma_base.specs.declared.scenarios.scenario.Scenario.{Scenario}
use Rattle.busdma_base.specs.declared.journals.journal.Journal.{Journal}
use Rattle.scenario_format.specs.declared.refusal.Refusal.{Refusal}
use Rattle.scenario_format.specs.declared.reading.Reading.{Reading}
use Rattle.scenario_format.specs.declared.reading.Reading.TheVariants.{Good, Bad}
use Rattle.ideal_world.specs.Ends.{status}
use Rattle.program_rules.specs.declared.program_end.ProgramEnd.{ProgramEnd}
use Rattle.program_rules.specs.declared.command.Command.{Command}
use Rattle.program_rules.specs.declared.command.Command.TheVariants.{Replay, Run, Storm, Check}
use Rattle.program_rules.specs.Commands.Words.{command}
use Rattle.program_rules.specs.Commands.Checks.{CheckedAndWrote, CheckedUnwritten}
use Rattle.program_rules.specs.Commands.Judging.{command_reading}
use Rattle.program_rules.specs.Commands.Edges.{StreamEdges, ReadFailed, NoReadFailed, ReadNothing, ReadAll, ReadTooMany}
use Rattle.program_rules.specs.Commands.Edges.{ReadAtMost, input_limit, WriteFailed, NoWriteFailed, WroteNothing}
use Rattle.program_rules.specs.Commands.Edges.{WroteAll, WrotePart}
use Rattle.program_rules.specs.Commands.Runs.{IsMadeOf, IsReader, RunsScenario, text_of}

-- the statuses of a run that was done and written
abbrev pub IsDoneStatus : ℕ → Type 0
IsDoneStatus n = (n ≡ 0) ⊎ ((n ≡ 1) ⊎ (n ≡ 2))

-- the statuses of calls that wrote their text, or a front of it
abbrev pub HasWritten : ℕ → Type 0
HasWritten n = IsDoneStatus n ⊎ (n ≡ 73)

-- the statuses with which the outcome of a command has a journal
abbrev pub KeepsJournal : Command → ℕ → Type 0
KeepsJournal Replay n = HasWritten n
KeepsJournal Run n = HasWritten n
KeepsJournal (Storm rounds seed) n = HasWritten n
KeepsJournal Check n = n ≡ 0

-- the statuses of the program
abbrev pub IsStatus : ℕ → Type 0
IsStatus n = IsDoneStatus n ⊎ ((n ≡ 64) ⊎ ((n ≡ 65) ⊎ ((n ≡ 66) ⊎ ((n ≡ 71) ⊎ ((n ≡ 73) ⊎ (n ≡ 74))))))

-- a command ran: its scenario is valid, and the journal of the outcome is one that the command may make of the scenario
pub record Ran (c : Command) (e : StreamEdges) (o : ProgramEnd) : Type 0 where
  pub scenario : Scenario
  pub journal : Journal
  pub runs : RunsScenario c e scenario
  pub valid : IsValid scenario
  pub kept : o.journal ≡ Some journal
  pub made : IsMadeOf c scenario journal

-- a command ran and wrote: its complete text was written, and the status is its journal's
pub record RanAndWrote (c : Command) (e : StreamEdges) (o : ProgramEnd) : Type 0 where
  pub ran : Ran c e o
  pub wrote : WroteAll (text_of c ran.scenario ran.journal) e
  pub status : o.status ≡ status ran.journal

-- a command ran and could not write: the sink failed after only a front of the text
pub record RanUnwritten (c : Command) (e : StreamEdges) (o : ProgramEnd) : Type 0 where
  pub ran : Ran c e o
  pub wrote : WrotePart (text_of c ran.scenario ran.journal) e
  pub cause : WriteFailed e

-- how a command ends that did its work and wrote its text
abbrev pub Done : Command → StreamEdges → ProgramEnd → Type 0
Done Replay e o = RanAndWrote Replay e o
Done Run e o = RanAndWrote Run e o
Done (Storm n seed) e o = RanAndWrote (Storm n seed) e o
Done Check e o = CheckedAndWrote e o

-- how a command ends that did its work and could not write its text
abbrev pub EndsUnwritten : Command → StreamEdges → ProgramEnd → Type 0
EndsUnwritten Replay e o = RanUnwritten Replay e o
EndsUnwritten Run e o = RanUnwritten Run e o
EndsUnwritten (Storm n seed) e o = RanUnwritten (Storm n seed) e o
EndsUnwritten Check e o = CheckedUnwritten e o

-- the input was refused: all the bytes were read, and the outcome has the reason
pub record WasRefused (c : Command) (e : StreamEdges) (o : ProgramEnd) : Type 0 where
  pub bytes : List ℕ
  pub refusal : Refusal
  pub read : ReadAll bytes e
  pub bad : command_reading c bytes ≡ Bad refusal
  pub kept : o.fault ≡ Some refusal

-- this holds, or memory ran out and the status is 71
abbrev pub OrNoMemory : ProgramEnd → Type 0 → Type 0
OrNoMemory o P = P ⊎ (o.status ≡ 71)

-- the outcome that a reading gives: a scenario ends with a status of a run, and a refusal with 65 and the refusal
abbrev pub AnswersReading : ProgramEnd → Reading → Type 0
AnswersReading o (Good s) = IsDoneStatus o.status
AnswersReading o (Bad r) = (o.status ≡ 65) × (o.fault ≡ Some r)

-- The outcome for the bytes that were left, unless memory ran out. If neither source nor sink failed, it is the one
-- that they give. If the source did not fail, too many bytes end with 66, and bytes that are refused with 65 and the
-- refusal.
pub record AnswersInput (c : Command) (e : StreamEdges) (o : ProgramEnd) : Type 0 where
  pub short : (input : List ℕ) → e.left ≡ Some input → length input ≤ input_limit
      → (ReadFailed e → ⊥) → (WriteFailed e → ⊥)
      → OrNoMemory o (AnswersReading o (command_reading c input))
  pub long : (input : List ℕ) → e.left ≡ Some input → input_limit < length input
      → (ReadFailed e → ⊥) → OrNoMemory o (o.status ≡ 66)
  pub refused : (input : List ℕ) (r : Refusal) → e.left ≡ Some input → length input ≤ input_limit
      → command_reading c input ≡ Bad r → (ReadFailed e → ⊥)
      → OrNoMemory o ((o.status ≡ 65) × (o.fault ≡ Some r))

-- the outcome is the command's own, if nothing that the command uses failed, and unless memory ran out
abbrev pub IsComplete : Command → StreamEdges → ProgramEnd → Type 0
IsComplete Replay e o = AnswersInput Replay e o
IsComplete Run e o = AnswersInput Run e o
IsComplete (Storm n seed) e o = (WriteFailed e → ⊥) → OrNoMemory o (IsDoneStatus o.status)
IsComplete Check e o = AnswersInput Check e o

-- the statuses that only a command that reads can have
abbrev pub IsOfReading : ℕ → Type 0
IsOfReading n = (n ≡ 65) ⊎ ((n ≡ 66) ⊎ (n ≡ 74))

-- more bytes were taken from the source than an input may have
abbrev pub GaveTooMany : StreamEdges → Type 0
GaveTooMany e =
    (input : List ℕ) × (rest : List ℕ) × (e.left ≡ Some input) × (e.left_after ≡ Some rest)
    × (length rest + input_limit < length input)

-- What a call of the program with these words keeps: which statuses it can have, what each says of reading and writing,
-- when the call ends with a journal or a refusal, and which outcome its input has.
pub record Keeps (words : List (List ℕ)) (e : StreamEdges) (o : ProgramEnd) : Type 0 where
  pub known : IsStatus o.status
  pub no_command : o.status ≡ 64 → command words ≡ None
  pub usage : command words ≡ None → OrNoMemory o (o.status ≡ 64)
  pub reads : IsOfReading o.status → IsSomeAnd (command words) IsReader
  pub reads_nothing : (IsSomeAnd (command words) IsReader → ⊥) → ReadNothing e
  pub done : IsDoneStatus o.status → IsSomeAnd (command words) (λ c. Done c e o)
  pub refused : o.status ≡ 65 → IsSomeAnd (command words) (λ c. WasRefused c e o)
  pub too_long : o.status ≡ 66 → ReadTooMany e
  pub too_many : GaveTooMany e → OrNoMemory o (o.status ≡ 66)
  pub unwritten : o.status ≡ 73 → IsSomeAnd (command words) (λ c. EndsUnwritten c e o)
  pub unread : o.status ≡ 74 → ReadFailed e
  pub no_read_failed : o.status ≢ 74 → NoReadFailed e
  pub no_write_failed : o.status ≢ 73 → NoWriteFailed e
  pub nothing : HasWritten o.status ⊎ WroteNothing e
  pub journal : IsSome o.journal ↔ IsSomeAnd (command words) (λ c. KeepsJournal c o.status)
  pub fault : IsSome o.fault ↔ (o.status ≡ 65)
  pub read_most : ReadAtMost e
  pub complete : IfSome (command words) (λ c. IsComplete c e o)
