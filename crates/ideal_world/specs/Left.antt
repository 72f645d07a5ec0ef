-- How much all drivers still have to do.
use Rattle.std.specs.Prelude.{ℕ}
use Rattle.std.specs.List.{sum_by}
use Rattle.ideal_lane.specs.Left.{left}
use Rattle.ideal_world.specs.World.{WorldState}

-- what all drivers of a world have left to do, together
abbrev pub left_of : WorldState → ℕ
left_of w = sum_by left w.lanes
