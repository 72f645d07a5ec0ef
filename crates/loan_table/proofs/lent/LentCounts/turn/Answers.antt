use Rattle.std.proofs.Common.{arith}
use Rattle.loan_table.specs.declared.row.Way.TheVariants.{ToWrite, ToRead}
use Rattle.loan_table.proofs.lent.LentCounts.turn.Goals as goal

pub returns-clause-same : goal.returns-clause-same
returns-clause-same c ToWrite a from to = c.turn-turn.ensures.same a from (omega arith)
returns-clause-same c ToRead a from to = c.turn.ensures.same a from to
