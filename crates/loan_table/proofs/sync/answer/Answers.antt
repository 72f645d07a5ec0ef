use Rattle.std.proofs.Common.{sym, ◌∙◌}
use Rattle.loan_table.specs.Trees.{opened}
use Rattle.loan_table.proofs.LoansInTree.{answer_judged}
use Rattle.loan_table.proofs.sync.answer.Goals as goal

pub judge-requires : goal.judge-requires
judge-requires c = record { range = rw c.row_of-row.ensures c.requires.range }

pub returns-else-is_coherent : goal.returns-else-is_coherent
returns-else-is_coherent c =
    let loans = opened c.args.loans.now in
    c.judge.ensures (record { loans = loans; map = c.args.map }) (c.requires.counted, c.row_of-row.ensures)
    ∙ answer_judged loans c.args.map c.args.off c.args.len c.args.ops.0 c.row_of-row.result.now
    (sym c.row_of-row.ensures) (sym c.is_coherent.ensures ∙ c.if-is_coherent.false)
