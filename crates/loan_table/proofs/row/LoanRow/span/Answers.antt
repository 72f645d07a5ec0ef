use Rattle.std.proofs.Common.{arith}
use Rattle.run_set.specs.Edges.{member}
use Rattle.loan_table.proofs.PlacedBytes.{length-placed}
use Rattle.loan_table.proofs.row.LoanRow.span.Goals as goal

pub stretch-run-requires-clause-range : goal.stretch-run-requires-clause-range
stretch-run-requires-clause-range c =
    let range = rw (← c.self.view_is) at c.requires.range in
    let long = length-placed (member c.self.inside.to_read.edges) (member c.self.inside.to_write.edges) 0
    c.self.inside.buffer in
    omega (arith, range, long)
