use Rattle.std.proofs.Common.{◌≡◌, length, sym, ◌∙◌}
use Rattle.run_set.specs.Edges.{member}
use Rattle.loan_table.proofs.Hulls.{each_some}
use Rattle.loan_table.proofs.PlacedBytes.{addresses_of-placed, length-placed}
use Rattle.loan_table.proofs.row.LoanRow.whole.Goals as goal

pub returns-clause-bytes : goal.returns-clause-bytes
returns-clause-bytes c =
    rw (
      ← c.self.view_is,
      addresses_of-placed (member c.self.inside.to_read.edges) (member c.self.inside.to_write.edges) 0
          c.self.inside.buffer,
    ) c.whole.ensures.bytes

pub returns-clause-all : goal.returns-clause-all
returns-clause-all c =
    rw (← c.self.view_is) (each_some (λ s. c.args.len ≡ length c.self.inside.buffer) _ c.whole.result
    (λ s e. e ∙ sym (length-placed (member c.self.inside.to_read.edges) (member c.self.inside.to_write.edges) 0
    c.self.inside.buffer)) c.whole.ensures.all)
