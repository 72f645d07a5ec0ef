-- What of a driver's log and holds the schedule and the other drivers decide: whose turn it was, and the replies.
use Rattle.std.specs.Prelude.{List, map}
use Rattle.busdma_machine.specs.declared.bounce.hold.HoldEntry.{HoldEntry}
use Rattle.busdma_machine.specs.declared.bounce.hold.HubCall.{HubCall}
use Rattle.busdma_machine.specs.declared.bounce.hold.HubReply.{HubReply}
use Rattle.busdma_base.specs.declared.journals.journal.Side.{Side}
use Rattle.ideal_runs.specs.Merged.{logged_entry}
use Rattle.ideal_runs.specs.Runs.{Log}

-- the sides whose turns the steps of a log were, in order
abbrev pub sides_of : Log → List Side
sides_of log = map (λ x. (logged_entry x).actor.side) log

-- the calls of these holds, in order
abbrev pub hold_calls : List HoldEntry → List HubCall
hold_calls hs = map (λ h. h.call) hs

-- the replies of these holds, in order
abbrev pub replies_of : List HoldEntry → List HubReply
replies_of hs = map (λ h. h.reply) hs
