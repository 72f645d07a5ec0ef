use Rattle.std.proofs.Common.{ap, ◌∙◌}
use Rattle.frame_bank.proofs.frame.new_page.Goals as goal

pub returns : goal.returns
returns c =
    ap (λ f. record { frame = f; bytes = c.in_ok-page.page.bytes }) c.in_ok-page.ensures.frame
    ∙ ap (λ bs. record { frame = c.args.number; bytes = bs }) c.in_ok-page.ensures.bytes
