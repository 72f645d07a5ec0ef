use Rattle.std.proofs.Common.{sym, ◌∙◌}
use Rattle.loan_table.proofs.PlacedBytes.{length-placed}
use Rattle.loan_table.proofs.row.LoanRow.len.Goals as goal

pub returns : goal.returns
returns c = rw (← c.self.view_is) (c.len.ensures ∙ sym (length-placed _ _ 0 c.self.inside.buffer))
