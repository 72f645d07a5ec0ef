use Rattle.loan_table.proofs.PlacedBytes.{none_among}
use Rattle.loan_table.proofs.row.LoanRow.is_unlent.Goals as goal

pub returns-then-is_empty : goal.returns-then-is_empty
returns-then-is_empty c empty =
    rw (← c.self.view_is) (none_among c.self.inside.to_read.edges c.self.inside.to_write.edges c.self.inside.buffer
    (c.is_empty.ensures c.if-is_empty.true) (c.is_empty-then-is_empty.ensures empty))
