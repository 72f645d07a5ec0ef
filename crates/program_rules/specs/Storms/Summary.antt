-- The summary of a storm's journal.
use Rattle.std.specs.Prelude.{ℕ, List, ◌++◌, codes, length, sum_by}
use Rattle.std.specs.Fmt.{decimal}
use Rattle.busdma_machine.specs.declared.bounce.zone.ZoneCounts.{ZoneCounts}
use Rattle.busdma_base.specs.declared.journals.journal.Journal.{Journal}
use Rattle.program_rules.specs.Reports.Report.{end_word, report_count}

-- how many loads were deferred, in all zones together
abbrev pub deferred : List ZoneCounts → ℕ
deferred zones = sum_by (λ zone. zone.deferred) zones

-- the line of a word and a number
abbrev pub count_line : List ℕ → ℕ → List ℕ
count_line word number = word ++ (codes " " ++ (decimal number ++ codes "\n"))

-- the line of a storm's command: the rounds of each driver, and the seed
abbrev pub storm_line : ℕ → ℕ → List ℕ
storm_line n seed = codes "storm " ++ (decimal n ++ (codes " " ++ (decimal seed ++ codes "\n")))

-- the lines of how many entries there are, how many answers are reports, and how many loads were deferred
abbrev pub count_lines : Journal → List ℕ
count_lines journal =
    count_line (codes "entries") (length journal.entries)
    ++ (count_line (codes "reports") (report_count journal.entries)
    ++ count_line (codes "deferred") (deferred journal.zones))

-- the line of how the run ended
abbrev pub storm_end_line : Journal → List ℕ
storm_end_line journal = codes "end " ++ (end_word journal.end ++ codes "\n")

-- the five lines of a summary
abbrev pub summary : ℕ → ℕ → Journal → List ℕ
summary n seed journal = storm_line n seed ++ (count_lines journal ++ storm_end_line journal)
