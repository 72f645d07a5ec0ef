use Rattle.std.proofs.Common.{◌≡◌, ◌+◌, ◌-◌, ◌≤◌, ◌<◌, sym, ap, ◌∙◌, arith}
use Rattle.busdma_base.specs.Scenarios.PageRuns.{all_in}
use Rattle.scenario_read.proofs.Runs.{jump, at_least, below}
use Rattle.scenario_read.proofs.pages.all_in.Goals as goal

pub loop-left-preserved : goal.loop-left-preserved
loop-left-preserved c =
    let run = c.in-Some.run' in
    let found = c.in-Some.ensures.found in
    let step = c.min-step.result in
    let next = c.loop-left.next in
    let low : run.first ≤ next = at_least _ _ found.0 in
    let high : next < run.first + run.count = below _ _ found.0 in
    let whole : step + (c.loop-left.left - step) ≡ c.loop-left.left = omega (arith, c.min-step.ensures) in
    let end : next + step ≤ run.first + run.count = omega (arith, c.min-step.ensures) in
    sym (jump c.args.frames.now run found.2 step (c.loop-left.left - step) next low end)
    ∙ ap (all_in c.args.frames.now next) whole ∙ c.loop-left.invariant
