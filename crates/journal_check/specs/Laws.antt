-- What verdicts mean.
use Rattle.std.specs.Prelude.{◌≡◌, ℕ, ◌+◌, List, take}
use Rattle.busdma_base.specs.declared.journals.journal.Journal.{Journal}
use Rattle.busdma_base.specs.declared.scenarios.scenario.Scenario.{Scenario}
use Rattle.program_rules.specs.Reports.Report.{report}
use Rattle.program_rules.specs.Verdicts.TextLines.{lines}
use Rattle.ideal_world.specs.Legal.{IsLegal}

-- up to the line before this one, the text begins as some legal journal's report does; with this line, it begins
-- as no legal journal's report does
pub record BreaksAt (s : Scenario) (text : List ℕ) (number : ℕ) : Type 0 where
  pub before : ℕ
  pub place : number ≡ before + 1
  pub journal : Journal
  pub legal : IsLegal s journal
  pub same : take before (lines text) ≡ take before (lines (report s journal))
  pub breaks : (j : Journal) → IsLegal s j → take number (lines text) ≡ take number (lines (report s j)) → ⊥
