use Rattle.std.proofs.Common.{◌≡◌, ℕ, ◌+◌, ◌-◌, ◌≤◌, if◌then◌else◌, false}
use Rattle.busdma_machine.specs.Machine.Wire.{stretch}
use Rattle.run_set.specs.Counts.{count}
use Rattle.busdma_rules.specs.Lending.Loans.{addresses_of}
use Rattle.loan_table.specs.Rows.{stands}
use Rattle.loan_table.proofs.lent.count_range.Given as goal

abbrev pub invariant-loop-at : goal.invariant-loop-at
invariant-loop-at l = record {
  counted : (a : ℕ) →
      let all = stands a (addresses_of (stretch l.off l.len l.row.positions)) in
      let rest = stands a (addresses_of (stretch l.at (l.end - l.at) l.row.positions)) in
      count l.counts a + (if l.up then 0 else all) + (if l.up then rest else 0)
      ≡ count l.initial.counts a + (if l.up then all else 0) + (if l.up then 0 else rest);
  held : l.up ≡ false → (a : ℕ) →
      stands a (addresses_of (stretch l.at (l.end - l.at) l.row.positions)) ≤ count l.counts a;
  in_room : l.initial.counts.room + l.off ≤ l.counts.room + l.at;
  from : l.off ≤ l.at;
  to : l.at ≤ l.end;
}

abbrev pub decreases-loop-at : goal.decreases-loop-at
decreases-loop-at l = l.end - l.at
