use Rattle.std.proofs.Common.{◌≡◌, ◌%◌, get_or, length, ap, sym, subst, ◌∙◌}
use Rattle.std.proofs.Math.Seq.{map-set_same}
use Rattle.std.proofs.lemmas.List.{get_or_default}
use Rattle.busdma_machine.specs.Machine.Page.{FrameBytes, overwritten}
use Rattle.phys_memory.specs.Frames.{SamePages}
use Rattle.phys_memory.specs.Memory.{FrameMemory as Memory, wire}
use Rattle.phys_memory.proofs.PageBytes.{no_page}
use Rattle.phys_memory.proofs.SameFrames.{same_rewritten}
use Rattle.device_model.proofs.Accessing.{memory_written, page_put}
use Rattle.device_model.proofs.writing.write_in_frame.Goals as goal

pub returns-then-write_if_there-clause-wire : goal.returns-then-write_if_there-clause-wire
returns-then-write_if_there-clause-wire c =
    memory_written c.args.memory.now.memory c.args.pages.now c.requires.apart c.args.at.0 c.args.bytes.now
    (wire c.write_if_there.new.self.memory) c.requires.inside (sym c.write_if_there.ensures.there
    ∙ c.if-write_if_there.true) (c.write_if_there.ensures.wire c.if-write_if_there.true)

pub returns-then-write_if_there-clause-same : goal.returns-then-write_if_there-clause-same
returns-then-write_if_there-clause-same c =
    subst (λ (m : Memory). SamePages c.args.memory.now.memory m)
    (sym (c.write_if_there.ensures.memory c.if-write_if_there.true))
    (same_rewritten c.args.memory.now.memory c.args.at.0 c.args.bytes.now
    (sym c.write_if_there.ensures.there ∙ c.if-write_if_there.true))

pub returns-clause-wire : goal.returns-clause-wire
returns-clause-wire c =
    let pages = c.args.pages.now in
    let place = c.page_of-place.result in
    let inside = c.page_of-place.ensures.inside in
    let shown = c.index-pages-place.result in
    let page : get_or pages place shown ≡ get_or pages place no_page =
    get_or_default pages place shown no_page inside in
    rw (c.write_if_there.ensures.left c.if-write_if_there.false)
    (page_put c.args.memory.now.memory pages c.requires.apart place c.args.at.0 c.args.bytes.now c.write.new.self
    inside c.page_of-place.ensures.frame c.requires.inside
    (ap (λ (p : FrameBytes). length p.bytes) (sym page) ∙ c.write.ensures.whole)
    (c.write.ensures.page
    ∙ ap (λ (p : FrameBytes). record p { bytes = overwritten p.bytes (c.args.at.0 % 4096) c.args.bytes.now }) page))

pub returns-clause-frames : goal.returns-clause-frames
returns-clause-frames c =
    map-set_same (λ (p : FrameBytes). p.frame) c.args.pages.now c.page_of-place.result
    c.write.new.self c.index-pages-place.result
    (ap (λ (p : FrameBytes). p.frame) c.write.ensures.page)
