use Rattle.world_core.specs.Ideal.{ideal_world}
use Rattle.journal_check.proofs.Trying.{IsQuiet}
use Rattle.journal_check.proofs.check.goes_on.Given as goal

abbrev pub invariant-loop-actor : goal.invariant-loop-actor
invariant-loop-actor l = IsQuiet (ideal_world l.fn.world) l.actor-items l.actor-index (ideal_world l.world)
