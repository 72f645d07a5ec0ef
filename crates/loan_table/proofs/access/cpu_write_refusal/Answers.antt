use Rattle.std.proofs.Common.{Some, None, cond, sym, ap, ◌∙◌}
use Rattle.busdma_machine.specs.declared.report.ReportName.TheVariants.{CpuWriteLent}
use Rattle.loan_table.proofs.access.cpu_write_refusal.Goals as goal

pub returns-then-is_lent : goal.returns-then-is_lent
returns-then-is_lent c loans counted =
    sym (ap (λ b. cond b (Some CpuWriteLent) None) (sym (c.is_lent.ensures loans counted) ∙ c.if-is_lent.true))

pub returns-else-is_lent : goal.returns-else-is_lent
returns-else-is_lent c loans counted =
    sym (ap (λ b. cond b (Some CpuWriteLent) None) (sym (c.is_lent.ensures loans counted) ∙ c.if-is_lent.false))
