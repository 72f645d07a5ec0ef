use Rattle.std.proofs.Common.{◌^◌}
use Rattle.run_set.proofs.Sets.{rises_climbs}
use Rattle.run_set.proofs.run_set.RunSet.set_apart.Goals as goal

pub split-below-requires : goal.split-below-requires
split-below-requires c = rises_climbs 0 (2 ^ 64) _ c.self.invariant.rise
