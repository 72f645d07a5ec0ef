use Rattle.loan_table.proofs.MarkLaws.{AreIn-range}
use Rattle.loan_table.proofs.sync.lose.Goals as goal

pub lose_by_call-requires-clause-range : goal.lose_by_call-requires-clause-range
lose_by_call-requires-clause-range c = rw c.row_of-row.ensures c.requires.range

pub lose_by_call-requires-clause-there : goal.lose_by_call-requires-clause-there
lose_by_call-requires-clause-there c =
    rw c.row_of-row.ensures (AreIn-range _ c.args.off c.args.len _ c.requires.bytes)
