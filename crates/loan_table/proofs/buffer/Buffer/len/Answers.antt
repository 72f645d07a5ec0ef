use Rattle.std.proofs.Common.{sym, ◌∙◌}
use Rattle.loan_table.proofs.Extending.{length-addresses}
use Rattle.loan_table.proofs.buffer.Buffer.len.Goals as goal

pub returns : goal.returns
returns c = rw (← c.self.view_is) (sym c.self.invariant.long ∙ sym (length-addresses c.self.inside.stretches.items))
