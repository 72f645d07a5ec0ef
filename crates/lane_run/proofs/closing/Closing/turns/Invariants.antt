use Rattle.std.proofs.Common.{take}
use Rattle.lane_run.specs.Closing.{HasCome, HaveTurned}
use Rattle.world_core.specs.Ideal.{ideal_world}
use Rattle.lane_run.proofs.closing.Closing.turns.Given as goal

abbrev pub invariant-loop-actor : goal.invariant-loop-actor
invariant-loop-actor g l =
    HasCome l.scenario l.self
    × HaveTurned (take l.actor-index l.actors) (ideal_world l.fn.self.world) (ideal_world l.self.world) l.stepped
