-- The text of a run.
use Rattle.std.specs.Prelude.{ℕ, List, ◌++◌, codes, length, count_by}
use Rattle.std.specs.Fmt.{decimal}
use Rattle.program_rules.specs.Reports.Text.{numbered}
use Rattle.program_rules.specs.Reports.Answer.{answer_text}
use Rattle.program_rules.specs.Reports.Did.{did_text}
use Rattle.program_rules.specs.Reports.Zone.{zone_lines}
use Rattle.busdma_base.specs.declared.journals.journal.Actor.{Actor}
use Rattle.busdma_base.specs.declared.journals.journal.End.{End}
use Rattle.busdma_base.specs.declared.journals.journal.End.TheVariants.{Finished, Stuck}
use Rattle.busdma_base.specs.declared.journals.journal.Journal.{Journal}
use Rattle.busdma_base.specs.declared.journals.journal.JournalEntry.{JournalEntry}
use Rattle.busdma_base.specs.declared.journals.journal.Side.{Side}
use Rattle.busdma_base.specs.declared.journals.journal.Side.TheVariants.{Script, Transfer, Callback}
use Rattle.busdma_base.specs.declared.scenarios.scenario.Scenario.{Scenario}
use Rattle.busdma_base.specs.Journals.Reports.{is_report}

-- the letter of a driver, its device or its callbacks
abbrev pub side_letter : Side → List ℕ
side_letter Script = codes "s"
side_letter Transfer = codes "d"
side_letter Callback = codes "c"

-- the text of an actor: its letter and the number of its driver
abbrev pub actor_text : Actor → List ℕ
actor_text actor = side_letter actor.side ++ decimal actor.lane.0

-- the line of the entry with this number: the actor, what it did, and the answer
abbrev pub entry_line : Scenario → ℕ → JournalEntry → List ℕ
entry_line scenario number entry =
    decimal number ++ (codes " " ++ (actor_text entry.actor
    ++ (codes " " ++ (did_text scenario entry.actor.lane entry.did
    ++ (codes " -> " ++ (answer_text entry.answer ++ codes "\n"))))))

-- how many entries have a report as their answer
abbrev pub report_count : List JournalEntry → ℕ
report_count entries = count_by (λ entry. is_report entry.answer) entries

-- the word for how a run ended
abbrev pub end_word : End → List ℕ
end_word Finished = codes "finished"
end_word Stuck = codes "stuck"

-- the last line: how the run ended, how many entries there are, and how many answers are reports
abbrev pub journal_end_line : Journal → List ℕ
journal_end_line journal =
    codes "end " ++ (end_word journal.end ++ (codes ", " ++ (decimal (length journal.entries)
    ++ (codes " entries, " ++ (decimal (report_count journal.entries) ++ codes " reports\n")))))

-- the text of a run: a line for each entry, numbered from 0, the lines of the zones, and the last line
abbrev pub report : Scenario → Journal → List ℕ
report scenario journal =
    numbered (entry_line scenario) 0 journal.entries ++ (zone_lines journal.zones ++ journal_end_line journal)
