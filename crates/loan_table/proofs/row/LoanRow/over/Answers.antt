use Rattle.loan_table.proofs.PlacedBytes.{new_row}
use Rattle.loan_table.proofs.row.LoanRow.over.Goals as goal

pub returns : goal.returns
returns c =
    new_row c.args.coherent c.in_ok-to_read.to_read.edges c.in_ok-to_write.to_write.edges _ c.in_ok-buffer.buffer
    c.in_ok-to_read.ensures.none c.in_ok-to_write.ensures.none c.in_ok-buffer.ensures
