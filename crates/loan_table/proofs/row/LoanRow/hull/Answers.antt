use Rattle.run_set.specs.Edges.{member}
use Rattle.loan_table.proofs.PlacedBytes.{addresses_of-placed}
use Rattle.loan_table.proofs.row.LoanRow.hull.Goals as goal

pub returns-clause-within : goal.returns-clause-within
returns-clause-within c =
    rw (
      ← c.self.view_is,
      addresses_of-placed (member c.self.inside.to_read.edges) (member c.self.inside.to_write.edges) 0
          c.self.inside.buffer,
    ) c.hull.ensures.within
