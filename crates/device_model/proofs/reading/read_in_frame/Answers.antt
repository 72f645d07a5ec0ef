use Rattle.std.proofs.Common.{◌≡◌, ◌+◌, ◌-◌, ◌%◌, get_or, length, map, take, drop, ap, sym, ◌∙◌, arith}
use Rattle.std.proofs.lemmas.List.{get_or_default}
use Rattle.busdma_machine.specs.Machine.Page.{FrameBytes}
use Rattle.busdma_machine.specs.Machine.Wire.{page_byte}
use Rattle.busdma_machine.specs.Runs.{run_of}
use Rattle.phys_memory.proofs.PageBytes.{no_page, slice_page}
use Rattle.device_model.proofs.Accessing.{memory_read, page_read}
use Rattle.device_model.proofs.reading.read_in_frame.Goals as goal

pub returns-then-has_frame : goal.returns-then-has_frame
returns-then-has_frame c =
    c.read.ensures ∙ memory_read c.args.memory.now.memory c.args.pages.now c.requires.apart c.args.at.0
    (length c.args.out.now) c.requires.inside (sym c.has_frame.ensures.is ∙ c.if-has_frame.true)

pub returns : goal.returns
returns c =
    let at = c.args.at.0 in
    let n = length c.args.out.now in
    let pages = c.args.pages.now in
    let place = c.page_of-place.result in
    let inside = c.page_of-place.ensures.inside in
    let shown = c.index-pages-place.result in
    let page : shown ≡ get_or pages place no_page =
    c.index-pages-place.is ∙ get_or_default pages place shown no_page inside in
    c.copy_from_slice.ensures.after
    ∙ ap (λ xs. take (at % 4096 + n - at % 4096) (drop (at % 4096) xs)) c.bytes.ensures.bytes
    ∙ slice_page shown at n (at % 4096 + n - at % 4096) (omega arith) (sym (ap length c.bytes.ensures.bytes)
    ∙ c.bytes.ensures.length) c.requires.inside
    ∙ ap (λ (p : FrameBytes). map (page_byte p) (run_of at n)) page
    ∙ page_read c.args.memory.now.memory pages c.requires.apart place at n inside
    c.page_of-place.ensures.frame c.requires.inside
