-- What the turns of actors add to the history of the bounce lock.
use Rattle.std.specs.Prelude.{ℕ, List, [], ◌∷◌, ◌++◌, Option, Some, None, if◌then◌else◌, slice_get}
use Rattle.busdma_machine.specs.declared.bounce.hold.HoldEntry.{HoldEntry}
use Rattle.busdma_machine.specs.declared.bounce.hold.HubCall.{HubCall}
use Rattle.busdma_machine.specs.declared.bounce.hold.HubReply.{HubReply}
use Rattle.busdma_machine.specs.Bounce.Account.{Account}
use Rattle.busdma_machine.specs.Bounce.AccountStep.{account_step}
use Rattle.busdma_machine.specs.Bounce.History.{is_entry}
use Rattle.busdma_base.specs.declared.journals.journal.Actor.{Actor}
use Rattle.busdma_base.specs.declared.journals.journal.JournalEntry.{JournalEntry}
use Rattle.ideal_lane.specs.Asking.{Asking, Gives, Asks}
use Rattle.ideal_lane.specs.State.{LaneState}
use Rattle.ideal_lane.specs.Turns.{Turned, lane_step}
use Rattle.ideal_world.specs.World.{WorldState, step}

-- the entry of a driver's call with its reply, if the history keeps such a call
abbrev pub hold_of : ℕ → HubCall → HubReply → List HoldEntry
hold_of lane c r = if is_entry c r then record { lane = record { 0 = lane }; call = c; reply = r } ∷ [] else []

-- what a driver's step adds to the history: its call, if it makes one, with the account's reply
abbrev pub holds_by : ℕ → Asking Turned → Account → List HoldEntry
holds_by lane (Gives t) a = []
holds_by lane (Asks c k) a = hold_of lane c (account_step lane c a).reply

-- what the turn of an actor adds to the history, if this is its driver; without a driver nothing
abbrev pub holds_at : WorldState → Actor → Option LaneState → List HoldEntry
holds_at w actor None = []
holds_at w actor (Some l) = holds_by l.id (lane_step l actor.side) w.account

-- what the turn of an actor adds to the history
abbrev pub step_holds : WorldState → Actor → List HoldEntry
step_holds w actor = holds_at w actor (slice_get w.lanes actor.lane.0)

-- what entries that lead on from a world add to the history, in order
abbrev pub journal_holds : WorldState → List JournalEntry → List HoldEntry
journal_holds w [] = []
journal_holds w (e ∷ es) = step_holds w e.actor ++ journal_holds (step w e.actor).world es
