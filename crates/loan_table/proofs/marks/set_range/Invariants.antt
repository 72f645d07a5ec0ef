use Rattle.std.proofs.Common.{◌≡◌, ◌+◌, ◌-◌, ◌≤◌}
use Rattle.busdma_machine.specs.Machine.Wire.{stretch}
use Rattle.loan_table.specs.Table.{AreIn, set_all}
use Rattle.busdma_rules.specs.Lending.Loans.{addresses_of}
use Rattle.loan_table.proofs.marks.set_range.Given as goal

abbrev pub invariant-loop-at : goal.invariant-loop-at
invariant-loop-at l = record {
  marked : set_all l.bytes.bytes (addresses_of (stretch l.at (l.end - l.at) l.row.positions)) l.known
      ≡ set_all l.initial.bytes.bytes (addresses_of (stretch l.off l.len l.row.positions)) l.known;
  there : AreIn l.bytes.bytes (addresses_of (stretch l.at (l.end - l.at) l.row.positions));
  in_room : l.initial.bytes.room + (l.off + l.off) ≤ l.bytes.room + (l.at + l.at);
  same_room : l.bytes.there_room ≡ l.initial.bytes.there_room;
  from : l.off ≤ l.at;
  to : l.at ≤ l.end;
}

abbrev pub decreases-loop-at : goal.decreases-loop-at
decreases-loop-at l = l.end - l.at
