use Rattle.std.proofs.Common.{◌≡◌, ℕ}
use Rattle.world_core.specs.Ideal.{ideal_run}
use Rattle.ideal_world.specs.Left.{left_of}
use Rattle.ideal_world.specs.Legal.{rounds}
use Rattle.world_core.proofs.run.Progress.rounds.Given as goal

abbrev pub invariant-rounds : goal.invariant-rounds
invariant-rounds l = (n : ℕ) × (rounds n l.round (ideal_run l.fn.self) ≡ ideal_run l.self)

abbrev pub decreases-rounds : goal.decreases-rounds
decreases-rounds l = left_of (ideal_run l.self).world
