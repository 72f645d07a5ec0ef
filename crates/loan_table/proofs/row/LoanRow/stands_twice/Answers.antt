use Rattle.std.proofs.Common.{◌∙◌}
use Rattle.loan_table.proofs.PlacedBytes.{twice_by}
use Rattle.loan_table.proofs.row.LoanRow.stands_twice.Goals as goal

pub returns : goal.returns
returns c =
    rw (← c.self.view_is) (c.stands_twice.ensures ∙ twice_by c.args.pa c.self.inside.coherent _ _ c.self.inside.buffer)
