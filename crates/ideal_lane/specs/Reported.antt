-- What a step whose answer is a report leaves of its driver, and which items join the transfer queue.
use Rattle.std.specs.Prelude.{ℕ, ◌+◌, Bool, false, List, [], ◌∷◌, Option, Some, None, slice_get}
use Rattle.std.specs.FinMap.{get}
use Rattle.busdma_base.specs.declared.journals.answer.Answer.{Answer}
use Rattle.busdma_base.specs.declared.journals.answer.Answer.TheVariants as answer
use Rattle.busdma_base.specs.declared.journals.journal.Did.{Did}
use Rattle.busdma_base.specs.declared.journals.journal.Did.TheVariants as did
use Rattle.busdma_base.specs.declared.journals.journal.Side.{Side}
use Rattle.busdma_base.specs.declared.journals.journal.Side.TheVariants as side
use Rattle.busdma_base.specs.declared.scenarios.script.Op.{Op}
use Rattle.busdma_base.specs.Journals.Reports.{is_report}
use Rattle.busdma_base.specs.Scenarios.Operations.{items_of}
use Rattle.busdma_base.specs.declared.scenarios.queued.QueuedItem.{QueuedItem}
use Rattle.busdma_base.specs.Scenarios.Queues.{queued_items}
use Rattle.ideal_lane.specs.State.{LaneState, LaneMap, Stage, Idle, Waiting, Loaded, Returning}
use Rattle.ideal_lane.specs.Turns.{Turn, Stepped, Blocked, Ended}

-- a turn is a step whose answer is a report
abbrev pub is_reported : Turn → Bool
is_reported (Stepped e) = is_report e.answer
is_reported Blocked = false
is_reported Ended = false

-- the items after the first
abbrev pub behind : List QueuedItem → List QueuedItem
behind [] = []
behind (q ∷ rest) = rest

-- the driver of which only this side has gone on: its script is at the next place, or an item has left the queue
abbrev pub gone_on : Side → LaneState → LaneState
gone_on side.Script l = record l { place = l.place + 1; due = false }
gone_on side.Transfer l = record l { queue = behind l.queue }
gone_on side.Callback l = l

-- the items of the queue that remain after a turn of a side: a step of the device takes the first
abbrev pub remaining : Side → Turn → List QueuedItem → List QueuedItem
remaining side.Transfer (Stepped e) queue = behind queue
remaining _ _ queue = queue

-- the items of an operation, if there is one, as its place in the script queues them
abbrev pub items_at : ℕ → Option Op → List QueuedItem
items_at place None = []
items_at place (Some o) = queued_items place (items_of o)

-- the items of the load for which a map at this stage waits
abbrev pub items_awaited : Stage → List QueuedItem
items_awaited Idle = []
items_awaited (Waiting v) = queued_items v.load_at v.items
items_awaited (Loaded bounced segments pages) = []
items_awaited Returning = []

-- the items of the load for which this map waits, if there is such a map
abbrev pub items_in : Option LaneMap → List QueuedItem
items_in None = []
items_in (Some o) = items_awaited o.stage

-- the items of what was done: a load or a kick, or the callback of a map whose load waited
abbrev pub done_items : LaneState → Did → List QueuedItem
done_items l (did.Op place) = items_at place (slice_get l.script place)
done_items l (did.Again place) = items_at place (slice_get l.script place)
done_items l (did.Callback m) = items_in (get l.maps m.made_at)
done_items l (did.Release m page) = []
done_items l (did.Item load_at place) = []

-- these items, if the answer lets them join: it is segments, with which the load's callback is called, or a kick's Done
abbrev pub if_ready : Answer → List QueuedItem → List QueuedItem
if_ready (answer.Segments segments) items = items
if_ready answer.Done items = items
if_ready _ items = []

-- the items that join the transfer queue with a turn
abbrev pub joining : LaneState → Turn → List QueuedItem
joining l (Stepped e) = if_ready e.answer (done_items l e.did)
joining l Blocked = []
joining l Ended = []
