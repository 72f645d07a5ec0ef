use Rattle.std.proofs.Common.{sym, ap, ◌∙◌}
use Rattle.busdma_machine.specs.Machine.Page.{overwritten}
use Rattle.frame_bank.proofs.Copies.{overwritten-whole}
use Rattle.frame_bank.proofs.frame.copy_of.Goals as goal

pub returns : goal.returns
returns c =
    c.write.ensures.page
    ∙ ap (λ f. record { frame = f; bytes = overwritten c.in_ok-copy.copy.bytes 0 c.bytes.result.now })
    (c.in_ok-copy.ensures.frame ∙ c.frame.ensures.number)
    ∙ ap (λ bs. record { frame = c.args.page.now.frame; bytes = bs })
    (overwritten-whole c.in_ok-copy.copy.bytes c.bytes.result.now (c.write.ensures.whole ∙ sym c.bytes.ensures.length)
    ∙ c.bytes.ensures.bytes)
