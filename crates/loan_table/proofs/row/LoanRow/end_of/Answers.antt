use Rattle.std.proofs.Common.{arith}
use Rattle.run_set.specs.Edges.{member}
use Rattle.loan_table.proofs.PlacedBytes.{length-placed}
use Rattle.loan_table.proofs.row.LoanRow.end_of.Goals as goal

pub overflow_add-off : goal.overflow_add-off
overflow_add-off c =
    let range = rw (← c.self.view_is) at c.requires in
    let long = length-placed (member c.self.inside.to_read.edges) (member c.self.inside.to_write.edges) 0
    c.self.inside.buffer in
    omega (arith, range, long, c.self.invariant.small)

pub returns : goal.returns
returns c =
    let range = rw (← c.self.view_is) at c.requires in
    let long = length-placed (member c.self.inside.to_read.edges) (member c.self.inside.to_write.edges) 0
    c.self.inside.buffer in
    omega (arith, range, long, c.len.ensures)
