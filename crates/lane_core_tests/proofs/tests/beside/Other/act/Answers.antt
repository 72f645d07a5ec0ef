use Rattle.std.proofs.Common.{refl}
use Rattle.lane_core.specs.LaneIdeal.{ideal}
use Rattle.lane_core_tests.proofs.Coming.{comes-none}
use Rattle.lane_core_tests.proofs.tests.beside.Other.act.Goals as goal

pub returns-in_default-clause-comes : goal.returns-in_default-clause-comes
returns-in_default-clause-comes c = comes-none (ideal c.args.self.now.lane).id c.args.hub.now c.args.hub.now refl refl
