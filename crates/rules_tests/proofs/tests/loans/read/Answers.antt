use Rattle.std.proofs.Common.{sym, subst, append-nil}
use Rattle.busdma_machine.specs.Runs.{run_of}
use Rattle.loan_table.specs.Table.{AreIn}
use Rattle.rules_tests.proofs.tests.loans.read.Goals as goal

pub may_cpu_read-requires-clause-there : goal.may_cpu_read-requires-clause-there
may_cpu_read-requires-clause-there c =
    subst (λ bytes. AreIn c.args.table.now.bytes bytes) (sym (append-nil (run_of c.args.pa c.args.len)))
    (c.requires.all c.args.pa c.args.len c.requires.inside)
