use Rattle.std.proofs.Common.{◌^◌}
use Rattle.run_set.proofs.Sets.{rises_climbs}
use Rattle.run_set.proofs.run_set.RunSet.set.Goals as goal

pub split_here-requires : goal.split_here-requires
split_here-requires c = rises_climbs 0 (2 ^ 64) _ c.self.invariant.rise

pub returns-then-end-start-clause-kept : goal.returns-then-end-start-clause-kept
returns-then-end-start-clause-kept c = rw (← c.self.view_is) c.self.invariant
