use Rattle.std.proofs.Common.{sym, ap, ◌∙◌}
use Rattle.busdma_rules.specs.Lending.Loans.{Loan}
use Rattle.loan_table.specs.Trees.{opened}
use Rattle.loan_table.proofs.Recounting.{held_range, counted_synced}
use Rattle.loan_table.proofs.sync.count.Goals as goal

pub mark-requires-clause-range : goal.mark-requires-clause-range
mark-requires-clause-range c = rw c.row_of-row.ensures c.requires.range

pub mark-requires-clause-held : goal.mark-requires-clause-held
mark-requires-clause-held c =
    rw c.row_of-row.ensures
    (held_range c.args.lent.now (opened c.args.loans.now) c.args.map c.args.off c.args.len c.requires.counted)

pub returns-then-not-is_coherent-clause-counted : goal.returns-then-not-is_coherent-clause-counted
returns-then-not-is_coherent-clause-counted c =
    counted_synced c.args.lent.now c.mark.new.self (opened c.args.loans.now) c.args.map c.args.off c.args.len
    c.args.ops.0
    (ap (λ (l : Loan). l.coherent) (sym c.row_of-row.ensures) ∙ sym c.is_coherent.ensures ∙ c.if-not-is_coherent.true)
    c.requires.counted
    (rw c.row_of-row.ensures at c.mark.ensures.counts)
