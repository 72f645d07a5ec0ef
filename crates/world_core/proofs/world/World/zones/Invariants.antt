use Rattle.std.proofs.Common.{◌≡◌, ℕ, ◌<◌, get_or, length}
use Rattle.ideal_world.specs.World.{bounced}
use Rattle.world_core.specs.Ideal.{ideal_world}
use Rattle.world_core.proofs.world.World.zones.Given as goal

abbrev pub invariant-loop-place : goal.invariant-loop-place
invariant-loop-place l = record {
  count : length l.bounced.items ≡ l.place;
  each : (z : ℕ) → z < l.place → get_or l.bounced.items z 0 ≡ bounced (ideal_world l.fn.self) z;
}
