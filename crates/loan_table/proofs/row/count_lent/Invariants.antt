use Rattle.std.proofs.Common.{◌≡◌, ◌+◌, ◌-◌, ◌≤◌}
use Rattle.busdma_machine.specs.Machine.Wire.{stretch}
use Rattle.loan_table.specs.Counted.{counted_places}
use Rattle.loan_table.specs.Kinds.{test_of}
use Rattle.loan_table.proofs.row.count_lent.Given as goal

abbrev pub invariant-loop-at : goal.invariant-loop-at
invariant-loop-at l = record {
  counted : l.count + counted_places (test_of l.way) l.pa (stretch l.at (l.end - l.at) l.row.positions)
      ≡ counted_places (test_of l.way) l.pa l.row.positions;
  small : l.count ≤ l.at;
  to : l.at ≤ l.end;
}

abbrev pub decreases-loop-at : goal.decreases-loop-at
decreases-loop-at l = l.end - l.at
