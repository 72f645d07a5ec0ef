use Rattle.std.proofs.Common.{◌||◌, nat_lt, sym, ap, ◌∙◌, arith}
use Rattle.loan_table.specs.declared.row.Way.TheVariants.{ToRead, ToWrite}
use Rattle.busdma_rules.specs.Lending.Loans.{lent, to_read, to_write}
use Rattle.loan_table.proofs.Totals.{is_lent, lent_any, lent_counted, not_lent}
use Rattle.loan_table.proofs.access.is_lent.Goals as goal

pub returns-then-count_near-gt0 : goal.returns-then-count_near-gt0
returns-then-count_near-gt0 c loans counted =
    sym (lent_any c.args.pa loans ∙ ap (λ b. b || lent to_write c.args.pa loans)
    (is_lent to_read c.args.pa loans c.count_near.result (c.count_near.ensures ∙ counted ToRead c.args.pa)
    (omega (arith, c.if-count_near-gt0.true))))

pub returns : goal.returns
returns c loans counted =
    ap (nat_lt 0) (c.count_near-2.ensures ∙ counted ToWrite c.args.pa) ∙ sym (lent_counted to_write c.args.pa loans)
    ∙ sym (lent_any c.args.pa loans ∙ ap (λ b. b || lent to_write c.args.pa loans)
    (not_lent to_read c.args.pa loans c.count_near.result (c.count_near.ensures ∙ counted ToRead c.args.pa)
    (omega (arith, c.if-count_near-gt0.false))))
