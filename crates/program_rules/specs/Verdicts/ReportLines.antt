-- The lines of a report.
use Rattle.std.specs.Prelude.{ℕ, ◌+◌, List, [], ◌∷◌, ◌++◌}
use Rattle.busdma_base.specs.declared.journals.journal.Journal.{Journal}
use Rattle.busdma_base.specs.declared.journals.journal.JournalEntry.{JournalEntry}
use Rattle.busdma_base.specs.declared.scenarios.scenario.Scenario.{Scenario}
use Rattle.program_rules.specs.Reports.Report.{entry_line, journal_end_line}
use Rattle.program_rules.specs.Reports.Zone.{zone_lines}
use Rattle.program_rules.specs.Verdicts.TextLines.{lines}

-- the lines of these entries; the first has the number n
abbrev pub entry_lines : Scenario → ℕ → List JournalEntry → List (List ℕ)
entry_lines s n [] = []
entry_lines s n (e ∷ es) = entry_line s n e ∷ entry_lines s (n + 1) es

-- the lines that follow the entries: the lines of the zones, and the last line
abbrev pub closing_lines : Journal → List (List ℕ)
closing_lines j = lines (zone_lines j.zones ++ journal_end_line j)
