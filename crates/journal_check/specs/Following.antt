-- How far the lines of a text are followed.
use Rattle.std.specs.Prelude.{◌≡◌, ℕ, ◌+◌, ◌≤◌, ◌++◌, Bool, true, false, List, [], drop, length, Some}
use Rattle.busdma_base.specs.declared.journals.journal.JournalEntry.{JournalEntry}
use Rattle.busdma_base.specs.declared.scenarios.scenario.Scenario.{Scenario}
use Rattle.program_rules.specs.Reports.Report.{entry_line}
use Rattle.program_rules.specs.Verdicts.TextLines.{lines}
use Rattle.program_rules.specs.Verdicts.ReportLines.{entry_lines}
use Rattle.ideal_world.specs.Ends.{IsAtRest}
use Rattle.ideal_world.specs.Legal.{Leads}
use Rattle.ideal_world.specs.World.{WorldState, opening_world, step, step_entry}
use Rattle.program_rules.specs.Verdicts.Verdict.{CanGoOn, IsNextLine, IsWrong, StopsWithin}
use Rattle.journal_check.specs.declared.stepping.Line.{Line}
use Rattle.journal_check.specs.declared.stepping.Line.TheVariants.{Right, Wrong, Nobody}
use Rattle.journal_check.specs.declared.following.Halt.{Halt}
use Rattle.journal_check.specs.declared.following.Halt.TheVariants.{Breaks, Ends}

-- the judgement of a line with this number in a world, and the world after the turn of the line's actor
abbrev pub IsJudged : Scenario → ℕ → WorldState → List ℕ → Line → WorldState → Type 0
IsJudged s n w line (Right e) after =
    (step_entry w e.actor ≡ Some e) × (after ≡ (step w e.actor).world) × (line ≡ entry_line s n e)
IsJudged s n w line Wrong after = CanGoOn w × (IsNextLine s n w line → ⊥)
IsJudged s n w line Nobody after = (after ≡ w) × (IsNextLine s n w line → ⊥)

-- entries lead to this world, the first lines are theirs, and the bytes of the text from a place on are left
pub record AreFollowed (s : Scenario) (text : List ℕ) (entries : List JournalEntry) (at : ℕ) (w : WorldState) : Type
    0 where
  pub leads : Leads (opening_world s) entries w
  pub read : lines text ≡ entry_lines s 0 entries ++ lines (drop at text)

-- entries lead to this world and the first lines are theirs; the next line is the line of no step, or there
-- is none
pub record AreFollowedTo (s : Scenario) (text : List ℕ) (entries : List JournalEntry) (at : ℕ) (w : WorldState) : Type
    0 where
  pub followed : AreFollowed s text entries at w
  pub wrong : IsWrong s (length entries) w (lines (drop at text))
  pub within : at ≤ length text

-- the following of a text halts in this world: at a line that breaks, or after entries
abbrev pub Halts : Scenario → List ℕ → Halt → WorldState → Type 0
Halts s text (Breaks number) w = StopsWithin s text number
Halts s text (Ends entries at) w =
    AreFollowedTo s text entries.items at w

-- an actor can step in the world; or none can, and the world stays as it is
abbrev pub IsTried : WorldState → Bool → WorldState → Type 0
IsTried w true after = CanGoOn w
IsTried w false after = IsAtRest w × (after ≡ w)
