-- How often the entries of a journal call the callback of a load.
use Rattle.std.specs.Prelude.{ℕ, ◌+◌, ◌==◌, ◌&&◌, List, [], ◌∷◌, Option, Some, None, if◌then◌else◌, slice_get}
use Rattle.busdma_base.specs.declared.journals.journal.JournalEntry.{JournalEntry}
use Rattle.ideal_lane.specs.Callbacks.{calls}
use Rattle.ideal_lane.specs.State.{LaneState}
use Rattle.ideal_world.specs.World.{WorldState, step}

-- how often an entry calls the callback of the load at a place of a driver's script; the driver's state is the one
-- before the entry, if there is such a driver
abbrev pub entry_calls : ℕ → ℕ → JournalEntry → Option LaneState → ℕ
entry_calls i p e None = 0
entry_calls i p e (Some l) = if (e.actor.lane.0 == i) && calls p l e.did e.answer then 1 else 0

-- how often entries that lead on from a world call the callback of the load at a place of a driver's script
abbrev pub times_called : ℕ → ℕ → WorldState → List JournalEntry → ℕ
times_called i p w [] = 0
times_called i p w (e ∷ es) = entry_calls i p e (slice_get w.lanes i) + times_called i p (step w e.actor).world es
