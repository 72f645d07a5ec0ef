use Rattle.std.proofs.Common.{◌≡◌, ℕ, ◌+◌, ◌-◌, ◌≤◌, map}
use Rattle.busdma_machine.specs.Machine.Wire.{stretch}
use Rattle.run_set.specs.Counts.{count}
use Rattle.loan_table.specs.declared.row.Way.{Way}
use Rattle.loan_table.specs.Counted.{counts_of, counted_places}
use Rattle.loan_table.specs.Kinds.{test_of}
use Rattle.busdma_rules.specs.Lending.SyncEffects.{marked}
use Rattle.loan_table.proofs.lent.LentCounts.mark.Given as goal

abbrev pub invariant-loop-at : goal.invariant-loop-at
invariant-loop-at l = record {
  counted : (way : Way) (a : ℕ) →
      count (counts_of l.self way) a + counted_places (test_of way) a (stretch l.off l.len l.row.positions)
      + counted_places (test_of way) a (map (marked l.ops.0) (stretch l.at (l.end - l.at) l.row.positions))
      ≡ count (counts_of l.initial.self way) a
      + counted_places (test_of way) a (map (marked l.ops.0) (stretch l.off l.len l.row.positions))
      + counted_places (test_of way) a (stretch l.at (l.end - l.at) l.row.positions);
  held : (way : Way) (a : ℕ) →
      counted_places (test_of way) a (stretch l.at (l.end - l.at) l.row.positions) ≤ count (counts_of l.self way) a;
  in_room : (way : Way) → (counts_of l.initial.self way).room + l.off ≤ (counts_of l.self way).room + l.at;
  from : l.off ≤ l.at;
  to : l.at ≤ l.end;
}

abbrev pub decreases-loop-at : goal.decreases-loop-at
decreases-loop-at l = l.end - l.at
