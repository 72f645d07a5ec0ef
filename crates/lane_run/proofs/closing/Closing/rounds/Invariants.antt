use Rattle.std.proofs.Common.{ℕ}
use Rattle.ideal_world.specs.Left.{left_of}
use Rattle.lane_run.specs.Closing.{HasCome}
use Rattle.world_core.specs.Ideal.{ideal_world}
use Rattle.lane_run.proofs.closing.Closing.rounds.Given as goal

abbrev pub invariant-rounds : goal.invariant-rounds
invariant-rounds g l = HasCome l.scenario l.self

abbrev pub decreases-rounds : goal.decreases-rounds
decreases-rounds g l = left_of (ideal_world l.self.world)
