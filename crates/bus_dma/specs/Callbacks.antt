-- The callback of a load that waited. After bus_dma(9)'s callbacks, which run after the bounce lock is released.
use Rattle.std.specs.Prelude.{◌≡◌, true, Bool, List, Option, Some, None, Result, Ok, Err, MatchOption}
use Rattle.std.specs.Option.{option_map}
use Rattle.busdma_base.specs.declared.journals.answer.Answer.{Answer}
use Rattle.busdma_base.specs.declared.journals.answer.Answer.TheVariants as answer
use Rattle.busdma_base.specs.declared.journals.journal.Did.{Did}
use Rattle.busdma_base.specs.declared.journals.journal.Did.TheVariants as did
use Rattle.busdma_machine.specs.declared.machine.address.Segment.{Segment}
use Rattle.busdma_machine.specs.declared.name.MapId.{MapId}
use Rattle.busdma_machine.specs.declared.report.Errno.{Errno}
use Rattle.busdma_machine.specs.Bounce.Door.{Seen}
use Rattle.bus_dma.specs.declared.failure.DmaError.{DmaError}
use Rattle.bus_dma.specs.declared.turns.Callback.{Callback}
use Rattle.bus_dma.specs.Calls.{IsWithheld}
use Rattle.bus_dma.specs.Returns.{IsReturned}
use Rattle.ideal_lane.specs.State.{LaneState}
use Rattle.ideal_lane.specs.Turns as turns
use Rattle.ideal_lane.specs.Turns.{callback_turn}
use Rattle.lane_core.specs.Appending.{is_ready}
use Rattle.lane_turns.specs.TakenTurns.{IsTurned}

-- what the load came to, by the answer of its callback: its segments, or the errno that refuses it. No callback has
-- another answer
abbrev pub load_called : Answer → Option (Result (List Segment) Errno)
load_called (answer.Segments segments) = Some (Ok segments)
load_called (answer.Refused errno) = Some (Err errno)
load_called answer.Done = None
load_called (answer.Grown grown) = None
load_called (answer.Placed pa) = None
load_called (answer.InProgress have need) = None
load_called (answer.Served n) = None
load_called (answer.Bytes bytes) = None
load_called answer.Idle = None
load_called (answer.Report report) = None

-- the callback of a map, whose load came to this
abbrev pub of_map : MapId → Result (List Segment) Errno → Callback
of_map map load = record { map = map; load = load }

-- the callback that was done with this answer, if one was
abbrev pub callback_by : Did → Answer → Option Callback
callback_by (did.Callback map) a = option_map (of_map map) (load_called a)
callback_by (did.Op place) a = None
callback_by (did.Again place) a = None
callback_by (did.Release map page) a = None
callback_by (did.Item load_at place) a = None

-- the callback that a turn took, if it took one
abbrev pub callback_in : turns.Turn → Option Callback
callback_in (turns.Stepped entry) = callback_by entry.did entry.answer
callback_in turns.Blocked = None
callback_in turns.Ended = None

-- the turn of the callbacks was taken, and then the pages that the driver is done with went back, so it is ready
pub record IsCallbackTurn (d : Seen) (l : LaneState) (r : Result (Option Callback) DmaError) (n : LaneState) (e : Seen)
    : Type 0 where
  pub turn : turns.Turn
  pub held : Bool
  pub between : LaneState
  pub seen : Seen
  pub taken : IsTurned d l.id (callback_turn l) (record { lane = between; turn = turn }) held seen
  pub returned : IsReturned between.returns seen between n e
  pub result : r ≡ Ok (callback_in turn)
  pub ready : is_ready n ≡ true

-- so it is, unless something keeps the driver from it
abbrev pub IsCallbackTaken : Option DmaError → Seen → LaneState → Result (Option Callback) DmaError → LaneState → Seen →
    Type 0
IsCallbackTaken h d l r n e = MatchOption h (IsCallbackTurn d l r n e) (λ x. IsWithheld x d l r n e)
