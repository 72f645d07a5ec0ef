use Rattle.bounce_hub.specs.Seen.{door}
use Rattle.lane_core_tests.specs.Serving.{Serves}
use Rattle.lane_core_tests.proofs.tests.opened.steps.Given as goal

abbrev pub invariant-loop-want : goal.invariant-loop-want
invariant-loop-want g l = Serves (door l.hub) l.lane
