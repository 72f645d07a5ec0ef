use Rattle.std.proofs.Common.{◌≤◌, length, arith}
use Rattle.busdma_rules.specs.Lending.Loans.{loan_of}
use Rattle.loan_table.specs.Trees.{opened}
use Rattle.loan_table.proofs.Rooms.{count_bound}
use Rattle.loan_table.proofs.table.LoanTable.buffers_are_short.Goals as goal

pub returns : goal.returns
returns c m =
    let ps = (loan_of (opened c.self.inside.loans) m).positions in
    let all : length ps ≤ c.self.inside.positions =
    rw c.self.invariant.counted at (count_bound c.self.inside.loans.entries m) in
    rw (← c.self.view_is) (omega (arith, all))
