use Rattle.std.proofs.Common.{arith}
use Rattle.loan_table.proofs.sync.same_len.Goals as goal

pub returns-clause-stands : goal.returns-clause-stands
returns-clause-stands c a from to = c.turn-turn.ensures.same a from (omega arith)
