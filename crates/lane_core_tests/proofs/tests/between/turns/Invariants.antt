use Rattle.lane_core_tests.specs.Beside.{seen}
use Rattle.lane_core_tests.specs.Serving.{Serves}
use Rattle.lane_core_tests.proofs.tests.between.turns.Given as goal

abbrev pub invariant-loop-before : goal.invariant-loop-before
invariant-loop-before g l = Serves (seen l.door) l.lane
