use Rattle.std.proofs.Common.{◌*◌, cond, ap, ◌∙◌}
use Rattle.busdma_rules.specs.Memory.Memories.{virtual_of}
use Rattle.phys_memory.specs.Memory.{frame_added, with_page}
use Rattle.memory_pages.specs.Bytes.{filled}
use Rattle.memory_pages.proofs.Coming.{no_page}
use Rattle.memory_pages.proofs.pages.put_page.Goals as goal

pub returns-clause-memory : goal.returns-clause-memory
returns-clause-memory c =
    let m = c.args.memory.now.memory in
    let page = c.args.page in
    let reach = c.args.reach in
    let at = ap (λ v. v.0) c.va_of.ensures ∙ ap (λ f. virtual_of (4096 * f)) c.frame-frame.ensures.number in
    c.add_reserved.ensures.memory ∙ ap (λ v. frame_added m v c.fill.new.page reach) at
    ∙ ap (λ p. frame_added m (virtual_of (4096 * page.frame)) p reach) c.fill.ensures
    ∙ ap (λ b. cond b m (with_page m (virtual_of (4096 * page.frame)) (filled c.args.clear page) reach))
    (no_page m page.frame c.requires.placed c.requires.fresh)
