use Rattle.std.proofs.Common.{◌≡◌}
use Rattle.busdma_base.specs.Scenarios.PageRuns.{all_in}
use Rattle.scenario_read.proofs.pages.all_in.Given as goal

abbrev pub invariant-loop-left : goal.invariant-loop-left
invariant-loop-left l = all_in l.frames l.next l.left ≡ all_in l.frames l.first l.count

abbrev pub decreases-loop-left : goal.decreases-loop-left
decreases-loop-left l = l.left
