use Rattle.std.proofs.Common.{sym, ◌∙◌}
use Rattle.loan_table.proofs.Extending.{length-addresses}
use Rattle.loan_table.proofs.buffer.Buffer.whole.Goals as goal

pub returns-then-len-clause-all : goal.returns-then-len-clause-all
returns-then-len-clause-all c =
    rw (← c.self.view_is) (c.if-len-self.false ∙ sym c.self.invariant.long
    ∙ sym (length-addresses c.self.inside.stretches.items))
