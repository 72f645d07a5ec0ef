use Rattle.std.proofs.Common.{◌≡◌, ◌+◌, ◌++◌, drop}
use Rattle.busdma_machine.specs.Runs.{byte_count}
use Rattle.loan_table.specs.Rows.{starts_from}
use Rattle.loan_table.proofs.buffer.starts_of.Given as goal

abbrev pub invariant-loop-run : goal.invariant-loop-run
invariant-loop-run l = record {
  starts : l.starts.items ++ starts_from l.before (drop l.run-index l.stretches) ≡ starts_from 0 l.stretches;
  counted : l.before + byte_count (drop l.run-index l.stretches) ≡ byte_count l.stretches;
}
