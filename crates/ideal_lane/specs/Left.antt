-- How much a driver still has to do.
use Rattle.std.specs.Prelude.{◌≡◌, ℕ, ◌+◌, ◌<◌, List, length, drop, Option, Some, None}
use Rattle.std.specs.Ordering.{nat_cmp}
use Rattle.std.specs.FinMap.{FinMap, entries}
use Rattle.std.specs.List.{sum_by}
use Rattle.busdma_base.specs.declared.scenarios.script.Op.{Op}
use Rattle.busdma_machine.specs.Bounce.Account.{Account}
use Rattle.busdma_machine.specs.Bounce.AccountStep.{account_step}
use Rattle.busdma_base.specs.Scenarios.Operations.{items_of, loaded_by}
use Rattle.ideal_lane.specs.State.{LaneState, LaneMap, Stage, Idle, Waiting, Loaded, Returning}
use Rattle.busdma_machine.specs.Machine.Spans.{span_bytes}
use Rattle.ideal_lane.specs.Asking.{Asking, Gives, Asks}
use Rattle.ideal_lane.specs.Sends.{Send, due_send}
use Rattle.ideal_lane.specs.Turns.{Turn, Turned, Stepped, Blocked, Ended}

-- an operation that is not yet done counts 2, its items and the bytes that it counts for the limit on all loads
abbrev pub op_weight : Op → ℕ
op_weight o = 2 + (length (items_of o) + loaded_by o)

-- what a map at this stage counts: the pages that it holds; or, if its load waits, 1, the load's items and its need
abbrev pub stage_weight : Stage → ℕ
stage_weight Idle = 0
stage_weight (Waiting w) = 1 + (length w.items + w.need)
stage_weight (Loaded bounced segments pages) = length pages
stage_weight Returning = 0

-- what these maps count together
abbrev pub maps_weight : FinMap nat_cmp LaneMap → ℕ
maps_weight maps = sum_by (λ e. stage_weight e.1.stage) (entries maps)

-- a send whose resend is due counts 1, its items and the bytes of its chain
abbrev pub due_weight : Send → ℕ
due_weight s = 1 + (length s.items + span_bytes s.chain)

-- what the operations from a place on count that are not yet done; the first may be a send whose resend is due
abbrev pub script_weight : Option Send → List Op → ℕ → ℕ
script_weight None script place = sum_by op_weight (drop place script)
script_weight (Some s) script place = due_weight s + sum_by op_weight (drop (place + 1) script)

-- what is left: the operations that are not yet done; 1 for each item of the transfer queue and each page of the
-- return queue; and what the maps count
abbrev pub left : LaneState → ℕ
left l =
    script_weight (due_send l) l.script l.place + (length l.queue + (length l.returns + maps_weight l.maps))

-- a turn that is a step leaves less to do; any other leaves the driver as it was
abbrev pub Falls : LaneState → LaneState → Turn → Type 0
Falls before after (Stepped entry) = left after < left before
Falls before after Blocked = after ≡ before
Falls before after Ended = after ≡ before

-- a step with the account's reply leaves less to do, and a turn that is no step leaves the driver as it was
abbrev pub FallsOrStays : LaneState → Account → Asking Turned → Type 0
FallsOrStays l a (Gives t) = Falls l t.lane t.turn
FallsOrStays l a (Asks c k) = let t : Turned = k (account_step l.id c a).reply in Falls l t.lane t.turn
