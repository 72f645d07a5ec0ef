use Rattle.std.proofs.Common.{arith}
use Rattle.run_set.specs.Edges.{member}
use Rattle.loan_table.proofs.PlacedBytes.{all_to_write, first_unlent, length-placed}
use Rattle.loan_table.proofs.row.LoanRow.judge_to_write.Goals as goal

pub returns-in-Some : goal.returns-in-Some
returns-in-Some c =
    let range = rw (← c.self.view_is) at c.requires.range in
    let long = length-placed (member c.self.inside.to_read.edges) (member c.self.inside.to_write.edges) 0
    c.self.inside.buffer in
    let found = rw c.in-Some.is at c.first.ensures in
    rw (← c.self.view_is) (first_unlent c.args.name (member c.self.inside.to_read.edges)
    (member c.self.inside.to_write.edges) c.self.inside.buffer c.args.place c.args.off c.args.len c.end_of-end.result
    c.end_of-end.ensures (omega (arith, range, long)) c.in-Some.at found.0 found.1 found.2 found.3)

pub returns-in-None : goal.returns-in-None
returns-in-None c =
    let range = rw (← c.self.view_is) at c.requires.range in
    let long = length-placed (member c.self.inside.to_read.edges) (member c.self.inside.to_write.edges) 0
    c.self.inside.buffer in
    let found = rw c.in-None.is at c.first.ensures in
    rw (← c.self.view_is) (all_to_write c.args.name (member c.self.inside.to_read.edges)
    (member c.self.inside.to_write.edges) c.self.inside.buffer c.args.place c.args.off c.args.len c.end_of-end.result
    c.end_of-end.ensures (omega (arith, range, long)) found)
