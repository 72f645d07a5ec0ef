use Rattle.std.proofs.Common.{◌∙◌, ap, sym}
use Rattle.memory_pages.specs.Bytes.{filled}
use Rattle.memory_pages.proofs.Filling.{page_cleared}
use Rattle.memory_pages.proofs.pages.fill.Goals as goal

pub returns-then-clear : goal.returns-then-clear
returns-then-clear c =
    page_cleared c.args.page.now c.write.new.self c.write.ensures.whole c.write.ensures.page
    ∙ sym (ap (λ b. filled b c.args.page.now) c.if-clear.true)
