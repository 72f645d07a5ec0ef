use Rattle.std.proofs.Common.{arith}
use Rattle.run_set.specs.Edges.{member}
use Rattle.loan_table.proofs.PlacedBytes.{byte_of, length-placed}
use Rattle.loan_table.proofs.row.LoanRow.byte_at.Goals as goal

pub stretch-requires-clause-some : goal.stretch-requires-clause-some
stretch-requires-clause-some c =
    let range = rw (← c.self.view_is) at c.requires in
    let long = length-placed (member c.self.inside.to_read.edges) (member c.self.inside.to_write.edges) 0
    c.self.inside.buffer in
    omega (arith, range, long, c.len.ensures)

pub returns : goal.returns
returns c =
    rw (← c.self.view_is) (byte_of _ _ c.self.inside.buffer c.args.at c.stretch.result.len _ c.stretch.ensures.some
    c.stretch.ensures.bytes)
