use Rattle.loan_table.proofs.Addresses.{AllEnd}
use Rattle.loan_table.proofs.table.LoanTable.may_cpu_read.Goals as goal

pub judge_extents-requires-clause-ends : goal.judge_extents-requires-clause-ends
judge_extents-requires-clause-ends c = AllEnd _ c.self.invariant.low _ (rw (← c.self.view_is) at c.requires.there)
