use Rattle.std.proofs.Common.{arith}
use Rattle.run_set.specs.Edges.{member}
use Rattle.loan_table.proofs.PlacedBytes.{byte_of, bytes_ahead, length-placed}
use Rattle.loan_table.proofs.row.LoanRow.stretch.Goals as goal

pub stretch-requires-clause-range : goal.stretch-requires-clause-range
stretch-requires-clause-range c =
    let range = rw (← c.self.view_is) at c.requires.range in
    let long = length-placed (member c.self.inside.to_read.edges) (member c.self.inside.to_write.edges) 0
    c.self.inside.buffer in
    omega (arith, range, long)

pub returns-clause-is : goal.returns-clause-is
returns-clause-is c =
    rw (← c.self.view_is) (bytes_ahead (member c.self.inside.to_read.edges) (member c.self.inside.to_write.edges)
    c.self.inside.buffer c.args.at c.args.end c.stretch.result.len c.stretch.result.pa.0 c.stretch.ensures.within
    c.stretch.ensures.bytes)

pub returns-clause-first : goal.returns-clause-first
returns-clause-first c =
    rw (← c.self.view_is) (byte_of _ _ c.self.inside.buffer c.args.at c.stretch.result.len _ c.stretch.ensures.some
    c.stretch.ensures.bytes)
