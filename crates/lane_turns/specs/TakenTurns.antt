-- What a turn of a lane makes, at a door to the bounce lock.
use Rattle.std.specs.Prelude.{◌≡◌, ◌⊎◌, ℕ, ◌+◌, ◌≤◌, Bool, true, false, not, List, [], ◌∷◌, length}
use Rattle.std.specs.Prelude.{Option, None, Some, slice_get}
use Rattle.busdma_base.specs.declared.journals.journal.Side.{Side}
use Rattle.busdma_base.specs.declared.journals.journal.Side.TheVariants as side
use Rattle.busdma_base.specs.declared.scenarios.script.Op.{Op}
use Rattle.busdma_machine.specs.declared.bounce.hold.HubCall.{HubCall}
use Rattle.busdma_machine.specs.declared.bounce.hold.HubCall.TheVariants.{TakeCallback}
use Rattle.busdma_machine.specs.declared.bounce.hold.HubReply.{HubReply}
use Rattle.busdma_machine.specs.declared.bounce.hold.HubReply.TheVariants.{Nothing}
use Rattle.busdma_machine.specs.Bounce.Door.{Seen, Misses}
use Rattle.ideal_lane.specs.Ahead.{items_ahead}
use Rattle.ideal_lane.specs.Asking.{Asking, Gives, Asks}
use Rattle.lane_agreement.specs.View.{Return}
use Rattle.ideal_lane.specs.Sends.{Send, due_send}
use Rattle.ideal_lane.specs.Standing.{Stands}
use Rattle.ideal_lane.specs.State.{LaneState}
use Rattle.ideal_lane.specs.Turns as turns
use Rattle.ideal_lane.specs.Turns.{Turned, lane_step}
use Rattle.ideal_wire.specs.WireStep as wires
use Rattle.lane_state.specs.declared.holdings.Holdings.{Holdings}
use Rattle.lane_turns.specs.declared.turn.Turn.{Turn}
use Rattle.lane_turns.specs.declared.turn.Turn.TheVariants.{Stepped, Blocked, Ended}
use Rattle.lane_state.specs.Changes.{IsWireOf, KeepsButAgenda}
use Rattle.lane_state.specs.Doing.{IsCalled}
use Rattle.lane_state.specs.Ideal.{ideal_of}
use Rattle.lane_state.specs.Served.{IsServed}
use Rattle.lane_state.specs.Wire.{IsWired, wire_of}

-- a driver has come to a place of its script, at which a resend is due or not; all else is unchanged
pub record IsAtTurn (place : ℕ) (due : Bool) (h k : Holdings) : Type 0 where
  pub agenda : k.agenda ≡ record h.agenda { place = place }
  pub rest : KeepsButAgenda (record h { due = due }) k

-- what a turn answers, without saying whether it made a call
abbrev pub answered : Turn → turns.Turn
answered (Stepped entry held) = turns.Stepped entry
answered Blocked = turns.Blocked
answered Ended = turns.Ended

-- a turn says that it made a call that the history keeps
abbrev pub is_held : Turn → Bool
is_held (Stepped entry held) = held
is_held Blocked = false
is_held Ended = false

-- the ideal driver after a turn, with the turn's answer
abbrev pub turn_taken : Holdings → Turn → Turned
turn_taken h t = record { lane = ideal_of h; turn = answered t }

-- a callback was asked for and there was none, and the turn went on with that reply
pub record IsMissed {X : Type 0} (d : Seen) (lane : ℕ) (c : HubCall) (k : HubReply → X) (x : X) (e : Seen) : Type 0
  where
    pub callback : c ≡ TakeCallback
    pub misses : Misses d lane e
    pub is : x ≡ k Nothing

-- a turn did a step and says whether it made a call: it made none, and the door has seen nothing new; it made one that
-- the history keeps; or it asked for a callback that was not there, which counts as none
abbrev pub IsTurned : {X : Type 0} → Seen → ℕ → Asking X → X → Bool → Seen → Type 0
IsTurned {X} d lane (Gives y) x held e = (x ≡ y) × (held ≡ false) × (e ≡ d)
IsTurned {X} d lane (Asks c k) x held e =
    ((held ≡ true) × IsCalled d lane c k x e) ⊎ ((held ≡ false) × IsMissed d lane c k x e)

-- a turn of a side made this of a driver, between what a door had seen and what it has seen now: the driver has come to
-- the step's end, and its wire to the step's wire, except for pages and memories that came or went; the transfer queue
-- has as much room and as many items together, and the script is as long
pub record IsTurnOf (h k : Holdings) (d e : Seen) (s : Side) (t : Turn) : Type 0 where
  pub done : IsTurned d h.id.0 (lane_step (ideal_of h) s) (turn_taken k t) (is_held t) e
  pub wire : IsWireOf h k (wires.wire_lane_step (ideal_of h) s (wire_of h))
  pub places : k.agenda.length ≡ h.agenda.length
  pub capacity : k.agenda.room + length k.agenda.queue ≡ h.agenda.room + length h.agenda.queue

-- the script has a step to make: a page goes back, a resend is due, or the next operation does not wait
abbrev pub has_step_of : List Return → Option Send → Option Op → LaneState → Bool
has_step_of (r ∷ rest) s o l = true
has_step_of [] (Some s) o l = true
has_step_of [] None None l = false
has_step_of [] None (Some o) l = not (turns.waits o l)

-- the script of a driver has a step to make
abbrev pub has_step : LaneState → Bool
has_step l = has_step_of l.returns (due_send l) (slice_get l.script l.place) l

-- a turn of a side may run out of memory: a callback's turn does not, nor does the script's turn while a page is still
-- to go back
abbrev pub MayWant : LaneState → Side → Type 0
MayWant l side.Script = l.returns ≡ []
MayWant l side.Transfer = Unit {0}
MayWant l side.Callback = ⊥

-- a driver is ready for a turn at a door: it satisfies `Stands` and is wired, its transfer queue has room for the items
-- ahead, and the door serves it
pub record IsReady (h : Holdings) (d : Seen) : Type 0 where
  pub stands : Stands (ideal_of h)
  pub wired : IsWired h
  pub room : items_ahead (ideal_of h) ≤ h.agenda.room
  pub served : IsServed (ideal_of h) d
