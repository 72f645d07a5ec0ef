-- Drivers that get their passes.
use Rattle.std.specs.Prelude.{◌≡◌, ℕ, ◌+◌, List, [], ◌∷◌}
use Rattle.busdma_machine.specs.Bounce.LaneEntries.{of_lane}
use Rattle.ideal_lane.specs.State.{LaneState}
use Rattle.lane_core.specs.declared.lane.Lane.{Lane}
use Rattle.lane_core.specs.LaneIdeal.{ideal}
use Rattle.lane_state.specs.Served.{IsServed}
use Rattle.lane_threads.specs.Closing.{LanePass}
use Rattle.lane_threads.specs.PassDoor as pass
use Rattle.lane_threads.specs.PassDoor.{seen_from}
use Rattle.lane_rounds.specs.declared.worker.Worker.{Worker}
use Rattle.lane_rounds.specs.AtWork.{Place, Works, worker_place}

-- the driver has this number and has made no hold; the door of a pass with its name that knows what the first pass
-- knows serves it
pub record IsFreshlySeated (first : LanePass) (i : ℕ) (l : LaneState) : Type 0 where
  pub number : l.id ≡ i
  pub served : IsServed l (seen_from first.start (i + 1) first.front)
  pub none : of_lane l.id (seen_from first.start (i + 1) first.front).history ≡ []

-- each of these drivers is fresh, and they are numbered from this one on
abbrev pub AreFresh : LanePass → ℕ → List Lane → Type 0
AreFresh first i [] = Unit {0}
AreFresh first i (l ∷ ls) = IsFreshlySeated first i (ideal l) × AreFresh first (i + 1) ls

-- a driver at work at the door of a pass
abbrev pub Seat : Type 0
Seat = Worker LanePass pass.Place

-- what no turn changes of a seat: its driver's first state, and which pass its door has
abbrev pub seat_of : Seat → Place pass.Place
seat_of w = worker_place pass.door_place w

-- the seat is at work, began as this driver, and has a pass of this turnstile
pub record IsSeated (first : LanePass) (l : Lane) (w : Seat) : Type 0 where
  pub works : Works pass.seen w
  pub began : (seat_of w).first ≡ ideal l
  pub turnstile : (seat_of w).fixed.turnstile ≡ first.turnstile
  pub start : (seat_of w).fixed.start ≡ first.start

-- each of these seats is at work, began as its driver, and has a pass of this turnstile
abbrev pub AreSeated : LanePass → List Lane → List Seat → Type 0
AreSeated first [] [] = Unit {0}
AreSeated first (l ∷ ls) (w ∷ ws) = IsSeated first l w × AreSeated first ls ws
AreSeated first _ _ = ⊥
