use Rattle.std.proofs.Common.{sym, ap, ◌∙◌, [], ◌<◌, subst, length, get_or, ◌++◌, List}
use Rattle.busdma_base.specs.declared.scenarios.scenario.Driver.{Driver}
use Rattle.busdma_base.specs.declared.scenarios.scenario.FrameRun.{FrameRun}
use Rattle.busdma_machine.specs.Each.{EachAfter}
use Rattle.busdma_base.specs.Scenarios.FrameRuns.{IsFrameRun}
use Rattle.opening_frames.specs.Frames.{unowned_in}
use Rattle.opening_frames.proofs.Runs.{next-run, numbered-at}
use Rattle.opening_frames.proofs.frames.unowned_frames.Goals as goal

abbrev none : FrameRun
none = record { first = 0; count = 0 }

pub add_unowned-requires : goal.add_unowned-requires
add_unowned-requires c =
    numbered-at [] c.as_slice-run-items.result.now c.loop-run.run-index none
    (subst (EachAfter IsFrameRun []) (sym c.as_slice-run-items.ensures) c.requires) c.loop-run-test.true

pub loop-run-preserved : goal.loop-run-preserved
loop-run-preserved c =
    let i = c.loop-run.run-index in
    let runs = c.as_slice-run-items.ensures in
    next-run c.args.scenario.now.drivers c.args.scenario.now.frames i none c.loop-run.frames.items _
    (subst (λ (rs : List FrameRun). i < length rs) runs c.loop-run-test.true) c.loop-run.invariant
    (c.in_ok-add_unowned.ensures
    ∙ ap (λ (ds : List Driver). c.loop-run.frames.items
    ++ unowned_in ds (get_or c.as_slice-run-items.result.now i none)) c.as_slice.ensures
    ∙ ap (λ (rs : List FrameRun). c.loop-run.frames.items
    ++ unowned_in c.args.scenario.now.drivers (get_or rs i none)) runs)
