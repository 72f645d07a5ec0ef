use Rattle.std.proofs.Common.{◌≡◌, ◌+◌, ◌-◌, ◌≤◌}
use Rattle.busdma_machine.specs.Machine.Wire.{stretch}
use Rattle.loan_table.specs.Table.{extent_count, more_extents}
use Rattle.loan_table.proofs.extents.extent_count.Given as goal

abbrev pub invariant-loop-at : goal.invariant-loop-at
invariant-loop-at l = record {
  counted : l.count + more_extents l.last (stretch l.at (l.end - l.at) l.buffer)
      ≡ extent_count (stretch l.off l.len l.buffer);
  small : l.count + l.off ≤ l.at;
  to : l.at ≤ l.end;
}

abbrev pub decreases-loop-at : goal.decreases-loop-at
decreases-loop-at l = l.end - l.at
