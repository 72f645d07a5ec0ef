use Rattle.std.proofs.Common.{◌≡◌, take}
use Rattle.world_core.specs.Ideal.{ideal_run}
use Rattle.ideal_world.specs.Legal.{turns}
use Rattle.world_core.proofs.run.Progress.turns.Given as goal

abbrev pub invariant-loop-actor : goal.invariant-loop-actor
invariant-loop-actor l = ideal_run l.self ≡ turns (ideal_run l.fn.self) (take l.actor-index l.order)
