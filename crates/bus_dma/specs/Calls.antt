-- What a call of a driver is: the step of its operation in the ideal driver. After bus_dma(9).
use Rattle.std.specs.Prelude.{◌≡◌, ◌⊎◌, ℕ, ◌+◌, ◌≤◌, true, false, Option, None, Result, Err, MatchOption, IfSome}
use Rattle.busdma_base.specs.declared.journals.answer.Answer.{Answer}
use Rattle.busdma_base.specs.declared.scenarios.script.Op.{Op}
use Rattle.busdma_base.specs.Scenarios.Buffers.{HasClusters}
use Rattle.busdma_base.specs.Scenarios.Limits.{buffer_limit, loaded_limit}
use Rattle.busdma_base.specs.Scenarios.Operations.{about, loaded_by}
use Rattle.busdma_base.specs.Scenarios.Valid.{LoadsFrom}
use Rattle.busdma_machine.specs.Bounce.Door.{Seen}
use Rattle.bus_dma.specs.declared.failure.DmaError.{DmaError}
use Rattle.bus_dma.specs.declared.failure.DmaError.TheVariants as error
use Rattle.bus_dma.specs.Returns.{IsReturned, may_return}
use Rattle.ideal_lane.specs.Asking.{Asking, goes_on}
use Rattle.ideal_lane.specs.Outcomes.{Outcome}
use Rattle.ideal_lane.specs.Sends.{send_of}
use Rattle.ideal_lane.specs.State.{LaneState}
use Rattle.ideal_lane.specs.Turns.{at_next, operation, waits}
use Rattle.lane_core.specs.Appending.{is_ready, with_next}
use Rattle.lane_state.specs.Doing.{IsDone}
use Rattle.lane_state.specs.SmallLoads.{loaded_once}

-- the outcome of an operation, with the script at its next place
abbrev pub past : ℕ → Outcome → Outcome
past place x = record { lane = at_next place x.lane; answer = x.answer }

-- the step of an operation that the driver gets as its next
abbrev pub next_step : Op → LaneState → Asking Outcome
next_step o l = goes_on (past l.place) (operation o (with_next o l))

-- an operation that a driver may do at once: it is no send, does not wait, loads no frame that is not of these pages,
-- and loads few bytes, also with the pages that are promised
pub record MayPerform (o : Op) (l : LaneState) (promised : ℕ) : Type 0 where
  pub unsent : send_of o ≡ None
  pub free : waits o l ≡ false
  pub bios : LoadsFrom l.pages o
  pub clusters : IfSome (about o).loads HasClusters
  pub small : loaded_once o ≤ buffer_limit
  pub few : promised ≤ loaded_limit → promised + loaded_by o ≤ loaded_limit

-- a call was refused without being made: it gives this error, and neither the driver nor what the door has seen changed
pub record IsWithheld {R : Type 0} (x : DmaError) (d : Seen) (l : LaneState) (r : Result R DmaError) (n : LaneState)
    (e : Seen) : Type 0 where
  pub result : r ≡ Err x
  pub lane : n ≡ l
  pub seen : e ≡ d

-- memory ran out: the driver is as it was, or has the operation as its next
pub record RunsOut {R : Type 0} (o : Op) (l : LaneState) (r : Result R DmaError) (n : LaneState) : Type 0 where
  pub result : r ≡ Err error.OutOfMemory
  pub lane : (n ≡ l) ⊎ (n ≡ with_next o l)

-- a call was made: the driver did its operation, and the result is what the answer is to the caller; the driver is ready
-- for the next call, unless pages may have to go back first
pub record IsPerformed {R : Type 0} (As : Result R DmaError → Answer → Type 0) (o : Op) (d : Seen) (l : LaneState)
    (r : Result R DmaError) (n : LaneState) (e : Seen) : Type 0 where
  pub answer : Answer
  pub done : IsDone d l.id (next_step o l) (record { lane = n; answer = answer }) e
  pub result : As r answer
  pub ready : may_return o ≡ false → is_ready n ≡ true

-- a call was made, and then the pages that the driver is done with went back to their zones, so it is ready
pub record IsPerformedAndReturned {R : Type 0} (As : Result R DmaError → Answer → Type 0) (o : Op) (d : Seen)
    (l : LaneState) (r : Result R DmaError) (n : LaneState) (e : Seen) : Type 0 where
  pub between : LaneState
  pub seen : Seen
  pub made : IsPerformed As o d l r between seen
  pub returned : IsReturned between.returns seen between n e
  pub ready : is_ready n ≡ true

module _ {R : Type 0} where
  -- what a call is, of an operation between two times at a door: unless something keeps it from being made, it is made,
  -- or memory runs out
  abbrev pub IsCall : Option DmaError → (Result R DmaError → Answer → Type 0) → Op → Seen → LaneState →
      Result R DmaError → LaneState → Seen → Type 0
  IsCall h As o d l r n e =
      MatchOption h (IsPerformed As o d l r n e ⊎ RunsOut o l r n) (λ x. IsWithheld x d l r n e)

  -- so is a call after which pages may go back
  abbrev pub IsCallAndReturn : Option DmaError → (Result R DmaError → Answer → Type 0) → Op → Seen → LaneState →
      Result R DmaError → LaneState → Seen → Type 0
  IsCallAndReturn h As o d l r n e =
      MatchOption h (IsPerformedAndReturned As o d l r n e ⊎ RunsOut o l r n) (λ x. IsWithheld x d l r n e)
