use Rattle.std.proofs.Common.{◌≡◌, ◌-◌, ◌≤◌}
use Rattle.busdma_machine.specs.Judging.{judged}
use Rattle.busdma_machine.specs.Machine.Wire.{stretch}
use Rattle.busdma_rules.specs.Lending.Access.{dev_read_refusal}
use Rattle.loan_table.specs.Table.{is_marked}
use Rattle.loan_table.proofs.access.judge_read.Given as goal

abbrev pub invariant-loop-at : goal.invariant-loop-at
invariant-loop-at l = record {
  judged_so_far : judged (dev_read_refusal (is_marked l.bytes.bytes) l.coherent) (l.at - l.off)
      (stretch l.at (l.end - l.at) l.row.positions)
      ≡ judged (dev_read_refusal (is_marked l.bytes.bytes) l.coherent) 0
      (stretch l.off l.len l.row.positions);
  from : l.off ≤ l.at;
  to : l.at ≤ l.end;
}

abbrev pub decreases-loop-at : goal.decreases-loop-at
decreases-loop-at l = l.end - l.at
