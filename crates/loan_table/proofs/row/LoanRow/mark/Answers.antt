use Rattle.std.proofs.Common.{arith}
use Rattle.run_set.specs.Edges.{member}
use Rattle.loan_table.proofs.PlacedBytes.{length-placed, marked_places}
use Rattle.loan_table.proofs.row.LoanRow.mark.Goals as goal

pub overflow_add-end : goal.overflow_add-end
overflow_add-end c =
    let range = rw (← c.self.view_is) at c.requires in
    let long = length-placed (member c.self.inside.to_read.edges) (member c.self.inside.to_write.edges) 0
    c.self.inside.buffer in
    omega (arith, range, long, c.self.invariant.small)

pub mark_places-requires-clause-within : goal.mark_places-requires-clause-within
mark_places-requires-clause-within c =
    let range = rw (← c.self.view_is) at c.requires in
    let long = length-placed (member c.self.inside.to_read.edges) (member c.self.inside.to_write.edges) 0
    c.self.inside.buffer in
    omega (arith, range, long, c.len-count.ensures)

pub mark_places-requires-2-clause-within : goal.mark_places-requires-2-clause-within
mark_places-requires-2-clause-within c =
    let range = rw (← c.self.view_is) at c.requires in
    let long = length-placed (member c.self.inside.to_read.edges) (member c.self.inside.to_write.edges) 0
    c.self.inside.buffer in
    omega (arith, range, long, c.len-count.ensures)

pub returns-clause-positions : goal.returns-clause-positions
returns-clause-positions c =
    rw (← c.self.view_is) (marked_places c.args.ops.0 c.args.off c.args.len
    (member c.self.inside.to_read.edges) (member c.self.inside.to_write.edges)
    _ _ c.self.inside.buffer
    (rw (c.contains-begins.ensures, c.contains-ends.ensures) at c.mark_places.ensures.members)
    (rw (c.contains-begins-2.ensures, c.contains-ends-2.ensures) at c.mark_places-2.ensures.members))
