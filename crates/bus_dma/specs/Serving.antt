-- Callbacks that are handed to code of the driver's writer.
use Rattle.std.specs.Prelude.{◌≡◌, Bool, true, false, Option, Some, None, Result, Ok, MatchOption}
use Rattle.busdma_machine.specs.Bounce.Door.{Seen}
use Rattle.bus_dma.specs.declared.failure.DmaError.{DmaError}
use Rattle.bus_dma.specs.declared.turns.Callback.{Callback}
use Rattle.bus_dma.specs.Callbacks.{IsCallbackTurn}
use Rattle.bus_dma.specs.Calls.{IsWithheld}
use Rattle.ideal_lane.specs.State.{LaneState}

-- the handler, the callback, what the door has seen and the driver before a call of the handler; and the driver, what
-- the door has seen and the handler after it
module _ {H : Type 0} (Handles : H → Callback → Seen → LaneState → LaneState → Seen → H → Type 0) where
  -- a callback that was taken was handed to the handler; without one nothing was done
  abbrev pub IsHandedOn : Option Callback → H → Seen → LaneState → Result Bool DmaError → LaneState → Seen → H → Type 0
  IsHandedOn None h d l r n e k = (r ≡ Ok false) × ((n ≡ l) × ((e ≡ d) × (k ≡ h)))
  IsHandedOn (Some c) h d l r n e k = (r ≡ Ok true) × Handles h c d l n e k

  -- the turn of the callbacks was taken, and then the handler was called with the callback, if there was one
  pub record IsCallbackHandled (h : H) (d : Seen) (l : LaneState) (r : Result Bool DmaError) (n : LaneState) (e : Seen)
      (k : H) : Type 0 where
    pub callback : Option Callback
    pub between : LaneState
    pub seen : Seen
    pub taken : IsCallbackTurn d l (Ok callback) between seen
    pub handed : IsHandedOn callback h seen between r n e k

  -- so it is, unless something keeps the driver from it
  abbrev pub IsCallbackServed : Option DmaError → H → Seen → LaneState → Result Bool DmaError → LaneState → Seen → H →
      Type 0
  IsCallbackServed x h d l r n e k =
      MatchOption x (IsCallbackHandled h d l r n e k) (λ y. IsWithheld y d l r n e × (k ≡ h))
