-- A call of the program, from its words to its status.
use Rattle.std.specs.Prelude.{◌≡◌, ℕ, List, Option, Some, None}
use Rattle.program_rules.specs.declared.program_end.ProgramEnd.{ProgramEnd}
use Rattle.program_rules.specs.Commands.Edges.{StreamEdges, ReadNothing, WroteNothing}
use Rattle.program_rules.specs.Commands.ErrorLine.{Prints}
use Rattle.program_rules.specs.Commands.Keeps.{Keeps}

-- the outcome if there was no memory for the words
abbrev pub no_memory : ProgramEnd
no_memory = record { status = 71; journal = None; fault = None }

-- what the outcome keeps; if there was no memory for the words, nothing is done
abbrev pub AnswersWords : Option (List (List ℕ)) → StreamEdges → ProgramEnd → Type 0
AnswersWords (Some words) e o = Keeps words e o
AnswersWords None e o = (o ≡ no_memory) × ReadNothing e × WroteNothing e

-- What a call of the program keeps, by the bytes of standard error and its faults, before the call and after it: the
-- status is the outcome's, and the outcome's line is printed as `Prints` says.
pub record KeepsCall (words : Option (List (List ℕ))) (e : StreamEdges)
    (before after : Option (List ℕ)) (faults now ended : ℕ) : Type 0 where
  pub outcome : ProgramEnd
  pub answers : AnswersWords words e outcome
  pub printed : Prints outcome before after faults now
  pub status : ended ≡ outcome.status
