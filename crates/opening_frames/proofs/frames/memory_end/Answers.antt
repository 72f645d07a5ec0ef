use Rattle.std.proofs.Common.{◌+◌, ◌^◌, ◌≤◌, get_or, drop, max, ap, ◌∙◌, arith, []}
use Rattle.busdma_base.specs.Scenarios.Opening.{maxmem_of}
use Rattle.opening_frames.proofs.Runs.{next-end, numbered-at}
use Rattle.opening_frames.proofs.frames.memory_end.Goals as goal

pub overflow_add-run : goal.overflow_add-run
overflow_add-run c =
    let runs = c.args.runs.now in
    let run = get_or runs c.loop-run.run-index (record { first = 0; count = 0 }) in
    let low : run.first + run.count ≤ 2 ^ 30 =
    numbered-at [] runs c.loop-run.run-index (record { first = 0; count = 0 }) c.requires c.loop-run-test.true in
    omega (arith, low)

pub loop-run-preserved : goal.loop-run-preserved
loop-run-preserved c =
    let runs = c.args.runs.now in
    let i = c.loop-run.run-index in
    ap (λ end. max end (maxmem_of (drop (i + 1) runs))) c.max-end.ensures
    ∙ next-end runs i (record { first = 0; count = 0 }) c.loop-run.end (maxmem_of runs) c.loop-run-test.true
    c.loop-run.invariant
