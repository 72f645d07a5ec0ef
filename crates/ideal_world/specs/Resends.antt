-- How often the entries of a journal load a send, and that each resend finds its map.
use Rattle.std.specs.Prelude.{◌≡◌, ℕ, ◌==◌, Bool, true, false, ◌&&◌, List, if◌then◌else◌}
use Rattle.std.specs.List.{AllByRecursion, sum_by}
use Rattle.busdma_base.specs.declared.journals.journal.Did.{Did}
use Rattle.busdma_base.specs.declared.journals.journal.JournalEntry.{JournalEntry}
use Rattle.ideal_lane.specs.Due.{is_unfit}
use Rattle.ideal_lane.specs.Resends.{is_resend}

-- how often an entry is of this driver and does what a test chooses: 1 if it is, and else 0
abbrev pub entry_does : (Did → Bool) → ℕ → JournalEntry → ℕ
entry_does chosen i e = if (e.actor.lane.0 == i) && chosen e.did then 1 else 0

-- how many of these entries are of this driver and do what a test chooses
abbrev pub times_done : (Did → Bool) → ℕ → List JournalEntry → ℕ
times_done chosen i entries = sum_by (λ e. entry_does chosen i e) entries

-- an entry that is a resend answers neither EINVAL nor Absent nor MapBusy
abbrev pub FindsMap : JournalEntry → Type 0
FindsMap e = (place : ℕ) → is_resend place e.did ≡ true → is_unfit e.answer ≡ false

-- no resend among these entries answers EINVAL, Absent or MapBusy
abbrev pub FindMaps : List JournalEntry → Type 0
FindMaps entries = AllByRecursion FindsMap entries
