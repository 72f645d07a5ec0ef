-- A driver at work at a door to the bounce lock.
use Rattle.std.specs.Prelude.{◌≡◌, ℕ, ◌+◌, ◌-◌, ◌<◌, ◌^◌, Bool, true, false, length, min}
use Rattle.busdma_base.specs.declared.journals.answer.Answer.{Answer}
use Rattle.busdma_base.specs.declared.journals.answer.Answer.TheVariants as answer
use Rattle.busdma_base.specs.declared.journals.journal.Did.{Did}
use Rattle.busdma_base.specs.declared.journals.journal.Did.TheVariants as did
use Rattle.busdma_machine.specs.Bounce.Door.{Seen}
use Rattle.busdma_machine.specs.Bounce.LaneEntries.{of_lane}
use Rattle.ideal_lane.specs.State.{LaneState}
use Rattle.lane_core.specs.LaneIdeal.{ideal}
use Rattle.lane_state.specs.Served.{IsServed}
use Rattle.ideal_runs.specs.Runs.{Log, Runs}
use Rattle.lane_rounds.specs.declared.worker.Worker.{Worker}

-- a driver came from its first state by its log and by its own entries of what a door has seen, and the door serves it
pub record IsAtWork (first lane : LaneState) (log : Log) (d : Seen) : Type 0 where
  pub own : lane.id ≡ first.id
  pub runs : Runs first log (of_lane first.id d.history) lane
  pub served : IsServed lane d

-- a worker's driver came from its first state by the worker's log and what its door has seen, and the door serves it
abbrev pub Works : {D F : Type 0} → (D → Seen) → Worker D F → Type 0
Works seen w = IsAtWork (ideal w.first.value) (ideal w.lane) w.log.items (seen w.door)

-- what no turn changes: the driver's first state, and what is fixed of its door
pub record Place (F : Type 0) : Type 0 where
  pub first : LaneState
  pub fixed : F

-- what no turn of this worker changes: its driver's first state, and what is fixed of its door
abbrev pub worker_place : {D F : Type 0} → (D → F) → Worker D F → Place F
worker_place fixed w = record { first = ideal w.first.value; fixed = fixed w.door }

-- a worker is still at work, and has the same first state and the same fixed part of its door
pub record GoesOn {D F : Type 0} (seen : D → Seen) (fixed : D → F) (before after : Worker D F) : Type 0 where
  pub works : Works seen after
  pub place : worker_place fixed after ≡ worker_place fixed before

-- how many loads of a driver wait after what was done with this answer: a callback ends the wait of one, and a load in
-- progress begins to wait
abbrev pub waiting_after : ℕ → Did → Answer → ℕ
waiting_after n (did.Callback m) a = n - 1
waiting_after n d (answer.InProgress have need) = min (n + 1) (2 ^ 32 - 1)
waiting_after n d a = n

-- a log has become longer if a step was made, and is as it was if none was
abbrev pub Grows : Log → Log → Bool → Type 0
Grows before after true = length before < length after
Grows before after false = after ≡ before

-- whether a worker says that its last round made a step
abbrev pub tells_step : {D F : Type 0} → Worker D F → Bool
tells_step w = w.stepped

-- whether a worker says that memory ran out in a round
abbrev pub tells_failure : {D F : Type 0} → Worker D F → Bool
tells_failure w = w.failed

-- after a round, a worker says rightly whether it made a step, unless memory ran out
abbrev pub Tells : {D F : Type 0} → Worker D F → Worker D F → Type 0
Tells before after = tells_failure after ≡ false → Grows before.log.items after.log.items (tells_step after)
