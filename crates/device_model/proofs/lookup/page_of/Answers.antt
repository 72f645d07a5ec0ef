use Rattle.std.proofs.Common.{ap, ◌∙◌}
use Rattle.busdma_machine.specs.Machine.Page.{FrameBytes}
use Rattle.device_model.proofs.Accessing.{any_behind}
use Rattle.device_model.proofs.lookup.page_of.Goals as goal

pub loop-place-preserved : goal.loop-place-preserved
loop-place-preserved c =
    let shown = c.index-pages-place.result in
    let same = c.frame-in-loop-place.ensures.number ∙ ap (λ (p : FrameBytes). p.frame) c.index-pages-place.is in
    any_behind c.args.pages.now c.loop-place.place c.args.frame shown
    (λ e. c.loop-place-test.true (same ∙ e)) c.loop-place.invariant
