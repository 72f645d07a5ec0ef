use Rattle.std.proofs.Common.{Some, None, cond, sym, ap, ◌∙◌, arith}
use Rattle.busdma_machine.specs.declared.report.ReportName.TheVariants.{CpuReadLent, StaleByte}
use Rattle.loan_table.specs.declared.row.Way.TheVariants.{ToWrite}
use Rattle.busdma_rules.specs.Lending.Loans.{to_write}
use Rattle.loan_table.specs.Table.{is_marked}
use Rattle.loan_table.proofs.Totals.{is_lent, not_lent}
use Rattle.loan_table.proofs.access.cpu_read_refusal.Goals as goal

pub returns-then-count_near-gt0 : goal.returns-then-count_near-gt0
returns-then-count_near-gt0 c loans counted =
    sym (ap (λ b. cond b (Some CpuReadLent) (cond (is_marked c.args.bytes.now.bytes c.args.pa) None (Some StaleByte)))
    (is_lent to_write c.args.pa loans c.count_near.result (c.count_near.ensures ∙ counted ToWrite c.args.pa)
    (omega (arith, c.if-count_near-gt0.true))))

pub returns-then-is_known : goal.returns-then-is_known
returns-then-is_known c loans counted =
    sym (ap (λ b. cond b (Some CpuReadLent) (cond (is_marked c.args.bytes.now.bytes c.args.pa) None (Some StaleByte)))
    (not_lent to_write c.args.pa loans c.count_near.result (c.count_near.ensures ∙ counted ToWrite c.args.pa)
    (omega (arith, c.if-count_near-gt0.false)))
    ∙ ap (λ b. cond b None (Some StaleByte)) (sym c.is_known.ensures ∙ c.if-is_known.true))

pub returns-else-is_known : goal.returns-else-is_known
returns-else-is_known c loans counted =
    sym (ap (λ b. cond b (Some CpuReadLent) (cond (is_marked c.args.bytes.now.bytes c.args.pa) None (Some StaleByte)))
    (not_lent to_write c.args.pa loans c.count_near.result (c.count_near.ensures ∙ counted ToWrite c.args.pa)
    (omega (arith, c.if-count_near-gt0.false)))
    ∙ ap (λ b. cond b None (Some StaleByte)) (sym c.is_known.ensures ∙ c.if-is_known.false))
