use Rattle.std.proofs.Common.{sym, ◌∙◌}
use Rattle.loan_table.proofs.PlacedBytes.{twice_by}
use Rattle.loan_table.proofs.row.LoanRow.turn.Goals as goal

pub returns-clause-same : goal.returns-clause-same
returns-clause-same c a from to =
    rw (← c.self.view_is) (sym (twice_by a c.self.inside.coherent _ _ c.self.inside.buffer)
    ∙ c.turn.ensures.same a from to
    ∙ twice_by c.args.start c.self.inside.coherent _ _ c.self.inside.buffer)
