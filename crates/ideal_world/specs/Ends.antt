-- How a run ends, and the status of a journal.
use Rattle.std.specs.Prelude.{◌≡◌, ℕ, Bool, List, None, if◌then◌else◌}
use Rattle.std.specs.List.{list_all, list_any}
use Rattle.busdma_base.specs.declared.journals.journal.Actor.{Actor}
use Rattle.busdma_base.specs.declared.journals.journal.JournalEntry.{JournalEntry}
use Rattle.busdma_base.specs.declared.journals.journal.Journal.{Journal}
use Rattle.busdma_base.specs.declared.journals.journal.End.{End}
use Rattle.busdma_base.specs.declared.journals.journal.End.TheVariants.{Finished, Stuck}
use Rattle.busdma_base.specs.Journals.Reports.{is_report}
use Rattle.ideal_world.specs.World.{WorldState, step_entry, has_ended}

-- a world is at rest: no actor can step
abbrev pub IsAtRest : WorldState → Type 0
IsAtRest w = (actor : Actor) → step_entry w actor ≡ None

-- the script of every driver has ended
abbrev pub all_ended : WorldState → Bool
all_ended w = list_all has_ended w.lanes

-- how a world at rest has ended: Finished if every script has ended, and else Stuck
abbrev pub world_end : WorldState → End
world_end w = if all_ended w then Finished else Stuck

-- some entry's answer is a report
abbrev pub has_report : List JournalEntry → Bool
has_report entries = list_any (λ e. is_report e.answer) entries

-- the status of a run with this end: 2 if it is stuck, else 1 if the answer of some entry is a report, else 0
abbrev pub status_by : End → List JournalEntry → ℕ
status_by Stuck entries = 2
status_by Finished entries = if has_report entries then 1 else 0

-- the status of a journal: 2 if its run is stuck, else 1 if it has a report, else 0
abbrev pub status : Journal → ℕ
status j = status_by j.end j.entries
