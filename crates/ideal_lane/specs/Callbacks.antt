-- Which load's callback a step calls, and how often the steps of a run call it. After bus_dmamap_load(9).
use Rattle.std.specs.Prelude.{◌≡◌, ℕ, ◌+◌, ◌==◌, Bool, true, false, not, ◌&&◌, List, [], ◌∷◌, Option, Some, None}
use Rattle.std.specs.Prelude.{if◌then◌else◌, is_some, slice_get}
use Rattle.std.specs.FinMap.{get}
use Rattle.busdma_machine.specs.declared.bounce.hold.HubReply.{HubReply}
use Rattle.busdma_base.specs.declared.journals.answer.Answer.{Answer}
use Rattle.busdma_base.specs.declared.journals.answer.Answer.TheVariants as answer
use Rattle.busdma_base.specs.declared.journals.journal.Did.{Did}
use Rattle.busdma_base.specs.declared.journals.journal.Did.TheVariants as did
use Rattle.busdma_base.specs.declared.journals.journal.Side.{Side}
use Rattle.busdma_base.specs.declared.scenarios.script.Op.{Op}
use Rattle.busdma_base.specs.Scenarios.Operations.{about}
use Rattle.ideal_lane.specs.State.{LaneState, LaneMap, Stage, Idle, Waiting, Loaded, Returning}
use Rattle.ideal_lane.specs.Asking.{by_reply}
use Rattle.ideal_lane.specs.Sends.{is_kept, send_at}
use Rattle.ideal_lane.specs.Turns.{Turn, Turned, Stepped, Blocked, Ended, lane_step}

-- a load with this answer ends in the step of its own operation, which calls its callback
abbrev pub ends : Answer → Bool
ends answer.Done = false
ends (answer.Grown g) = false
ends (answer.Placed pa) = false
ends (answer.Segments segments) = true
ends (answer.InProgress have need) = false
ends (answer.Served n) = false
ends (answer.Bytes bytes) = false
ends answer.Idle = false
ends (answer.Refused errno) = true
ends (answer.Report r) = false

-- there is an operation, and it is a load
abbrev pub is_load : Option Op → Bool
is_load None = false
is_load (Some o) = is_some (about o).loads

-- a map at this stage waits with the load of this place of the script
abbrev pub awaits : ℕ → Stage → Bool
awaits p Idle = false
awaits p (Waiting w) = w.load_at == p
awaits p (Loaded bounced segments pages) = false
awaits p Returning = false

-- this map exists, and waits with the load of this place of the script
abbrev pub awaited : ℕ → Option LaneMap → Bool
awaited p None = false
awaited p (Some o) = awaits p o.stage

-- this step, with this answer, calls the callback of the load at a place of the script. A send whose resend is due
-- keeps its callback, and the resend calls it or drops it.
abbrev pub calls : ℕ → LaneState → Did → Answer → Bool
calls p l (did.Op place) a =
    (place == p) && (is_load (slice_get l.script place) && (ends a && not (is_kept (send_at l.script place) a)))
calls p l (did.Again place) a = (place == p) && ends a
calls p l (did.Callback m) a = awaited p (get l.maps m.made_at)
calls p l (did.Release m page) a = false
calls p l (did.Item load_at place) a = false

-- how often a turn calls the callback of the load at a place of the script
abbrev pub turn_calls : ℕ → LaneState → Turn → ℕ
turn_calls p l (Stepped e) = if calls p l e.did e.answer then 1 else 0
turn_calls p l Blocked = 0
turn_calls p l Ended = 0

-- a turn of a run: its side, the reply to its call if it made one, and what it made
pub record MadeStep : Type 0 where
  pub side : Side
  pub reply : HubReply
  pub turned : Turned

-- these turns were made one after another, from this state of the driver on
abbrev pub IsRun : LaneState → List MadeStep → Type 0
IsRun l [] = Unit {0}
IsRun l (m ∷ ms) = (m.turned ≡ by_reply (lane_step l m.side) m.reply) × IsRun m.turned.lane ms

-- how often the turns of a run call the callback of the load at a place of the script
abbrev pub times_called_in_run : ℕ → LaneState → List MadeStep → ℕ
times_called_in_run p l [] = 0
times_called_in_run p l (m ∷ ms) = turn_calls p l m.turned.turn + times_called_in_run p m.turned.lane ms
