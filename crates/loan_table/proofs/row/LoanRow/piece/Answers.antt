use Rattle.std.proofs.Common.{arith}
use Rattle.run_set.specs.Edges.{member}
use Rattle.loan_table.proofs.PlacedBytes.{length-placed, piece_ahead}
use Rattle.loan_table.proofs.row.LoanRow.piece.Goals as goal

pub stretch-run-requires-clause-range : goal.stretch-run-requires-clause-range
stretch-run-requires-clause-range c =
    let range = rw (← c.self.view_is) at c.requires.range in
    let long = length-placed (member c.self.inside.to_read.edges) (member c.self.inside.to_write.edges) 0
    c.self.inside.buffer in
    omega (arith, range, long)

pub returns-clause-is : goal.returns-clause-is
returns-clause-is c =
    let alike = rw (← c.self.view_is) at c.span_from-span.ensures.alike in
    rw (← c.self.view_is) (piece_ahead (member c.self.inside.to_read.edges) (member c.self.inside.to_write.edges)
    c.self.inside.buffer c.args.at c.args.end c.span_from-span.result.len c.stretch-run.result.len
    c.stretch-run.result.pa.0 c.span_from-span.result.first (omega arith) (omega arith) c.span_from-span.ensures.pa
    c.stretch-run.ensures.bytes alike)
