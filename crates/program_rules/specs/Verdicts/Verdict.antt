-- The verdict on a text that may be a printed report of a scenario.
use Rattle.std.specs.Prelude.{◌≡◌, ℕ, ◌+◌, ◌⊎◌, List, [], ◌∷◌, ◌++◌, length, Some}
use Rattle.busdma_base.specs.declared.journals.journal.Journal.{Journal}
use Rattle.busdma_base.specs.declared.journals.journal.JournalEntry.{JournalEntry}
use Rattle.busdma_base.specs.declared.scenarios.scenario.Scenario.{Scenario}
use Rattle.program_rules.specs.Reports.Report.{entry_line}
use Rattle.program_rules.specs.Verdicts.TextLines.{lines, alike_lines}
use Rattle.program_rules.specs.Verdicts.ReportLines.{entry_lines, closing_lines}
use Rattle.ideal_world.specs.Ends.{IsAtRest}
use Rattle.ideal_world.specs.Legal.{Leads, journal_of}
use Rattle.ideal_world.specs.World.{WorldState, opening_world, step_entry}
use Rattle.program_rules.specs.declared.verdict.Verdict.{Verdict}
use Rattle.program_rules.specs.declared.verdict.Verdict.TheVariants.{Yes, No}

-- a text follows a run: its first lines are the lines of entries that lead from the opening world to this world; the
-- other lines are left
pub record FollowsText (s : Scenario) (text : List ℕ) : Type 0 where
  pub entries : List JournalEntry
  pub world : WorldState
  pub rest : List (List ℕ)
  pub leads : Leads (opening_world s) entries world
  pub read : lines text ≡ entry_lines s 0 entries ++ rest

-- the journal of entries that lead to a world
abbrev pub journal_at : WorldState → List JournalEntry → Journal
journal_at w entries = journal_of (record { world = w; entries = entries })

-- an actor can step in the world
abbrev pub CanGoOn : WorldState → Type 0
CanGoOn w = (e : JournalEntry) × (step_entry w e.actor ≡ Some e)

-- a line is the next: an actor can step, and this is the line of its step, under this number
abbrev pub IsNextLine : Scenario → ℕ → WorldState → List ℕ → Type 0
IsNextLine s n w line = (e : JournalEntry) × (step_entry w e.actor ≡ Some e) × (line ≡ entry_line s n e)

-- the next line is wrong: it is the line of no step, or there is none
abbrev pub IsWrong : Scenario → ℕ → WorldState → List (List ℕ) → Type 0
IsWrong s n w [] = Unit {0}
IsWrong s n w (line ∷ rest) = IsNextLine s n w line → ⊥

-- a text is the complete report of this journal: its entries' lines lead to a world in which no actor can step, and
-- what is left are the lines of the zones and the last line
pub record IsWhole (s : Scenario) (text : List ℕ) (j : Journal) : Type 0 where
  pub right : FollowsText s text
  pub still : IsAtRest right.world
  pub journal : j ≡ journal_at right.world right.entries
  pub closing : right.rest ≡ closing_lines j

-- a text goes wrong within the run: an actor can step; the line with this number, counted from 1, is the line of no
-- step, or is missing
pub record StopsWithin (s : Scenario) (text : List ℕ) (number : ℕ) : Type 0 where
  pub right : FollowsText s text
  pub goes_on : CanGoOn right.world
  pub wrong : IsWrong s (length right.entries) right.world right.rest
  pub place : number ≡ length right.entries + 1

-- a text goes wrong at the end: no actor can step, and the line with this number is the first that differs from the
-- lines of the zones and the last line, or is missing
pub record StopsAtEnd (s : Scenario) (text : List ℕ) (number : ℕ) : Type 0 where
  pub right : FollowsText s text
  pub still : IsAtRest right.world
  pub other : right.rest ≡ closing_lines (journal_at right.world right.entries) → ⊥
  pub place : number ≡ length right.entries
      + alike_lines right.rest (closing_lines (journal_at right.world right.entries)) + 1

-- the verdict on a text
abbrev pub IsVerdict : Scenario → List ℕ → Verdict → Type 0
IsVerdict s text (Yes j) = IsWhole s text j
IsVerdict s text (No number) = StopsWithin s text number ⊎ StopsAtEnd s text number
