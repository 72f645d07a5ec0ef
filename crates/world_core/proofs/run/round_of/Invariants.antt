use Rattle.std.proofs.Common.{◌≡◌}
use Rattle.ideal_world.specs.Legal.{round_from}
use Rattle.world_core.proofs.run.round_of.Given as goal

abbrev pub invariant-loop-number : goal.invariant-loop-number
invariant-loop-number l = l.round.items ≡ round_from 0 l.number
