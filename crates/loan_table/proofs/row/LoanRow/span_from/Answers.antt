use Rattle.std.proofs.Common.{sym, ◌∙◌, ◌-◌, arith}
use Rattle.run_set.specs.Edges.{member}
use Rattle.loan_table.proofs.PlacedBytes.{span_alike}
use Rattle.loan_table.proofs.row.LoanRow.span_from.Goals as goal

pub returns-clause-alike : goal.returns-clause-alike
returns-clause-alike c =
    rw (← c.self.view_is) (span_alike (member c.self.inside.to_read.edges) (member c.self.inside.to_write.edges)
    c.self.inside.buffer c.args.at (c.run_at-to_write.result.1 - c.args.at)
    (record { pa = c.args.pa; to_read = c.run_at-to_read.result.0; to_write = c.run_at-to_write.result.0 })
    (λ i from to. c.run_at-to_read.ensures.same i from (omega arith) ∙ sym c.run_at-to_read.ensures.is_in)
    (λ i from to. c.run_at-to_write.ensures.same i from (omega arith) ∙ sym c.run_at-to_write.ensures.is_in))
