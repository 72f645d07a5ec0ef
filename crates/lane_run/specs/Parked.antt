-- Drivers that left their doors.
use Rattle.std.specs.Prelude.{◌≡◌, List, [], ◌∷◌}
use Rattle.lane_core.specs.declared.lane.Lane.{Lane}
use Rattle.lane_core.specs.LaneIdeal.{ideal}
use Rattle.ideal_runs.specs.Runs.{Log}
use Rattle.lane_threads.specs.Closing.{LanePass}
use Rattle.lane_threads.specs.PassDoor as pass
use Rattle.lane_rounds.specs.AtWork.{IsAtWork}
use Rattle.lane_run.specs.Seated.{Seat, seat_of}

-- of each seat, in order: its driver and its log, by what its pass knows, and the pass is the one that the seat had
abbrev pub ArePassed : List Seat → List Lane → List Log → List LanePass → Type 0
ArePassed [] [] [] [] = Unit {0}
ArePassed (w ∷ ws) (l ∷ ls) (log ∷ logs) (q ∷ qs) =
    IsAtWork (seat_of w).first (ideal l) log (pass.seen q) × (pass.door_place q ≡ (seat_of w).fixed)
    × ArePassed ws ls logs qs
ArePassed _ _ _ _ = ⊥
