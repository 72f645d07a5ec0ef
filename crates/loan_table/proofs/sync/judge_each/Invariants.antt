use Rattle.std.proofs.Common.{◌≡◌, ◌-◌, ◌≤◌}
use Rattle.busdma_machine.specs.Judging.{judged}
use Rattle.busdma_machine.specs.Machine.Wire.{stretch}
use Rattle.loan_table.specs.Counted.{AreUnlent, Lender, IsOf}
use Rattle.busdma_rules.specs.Lending.SyncEffects.{sync_refusal}
use Rattle.loan_table.proofs.sync.judge_each.Given as goal

abbrev pub invariant-loop-at : goal.invariant-loop-at
invariant-loop-at l = record {
  judged_so_far : (lender : Lender) → IsOf l.lent l.row lender →
      judged (sync_refusal lender.loans lender.map l.ops.0) l.at (stretch l.at (l.end - l.at) l.row.positions)
      ≡ judged (sync_refusal lender.loans lender.map l.ops.0) l.off (stretch l.off l.len l.row.positions);
  unlent : AreUnlent l.lent l.unlent.from l.unlent.to;
  to : l.at ≤ l.end;
}

abbrev pub decreases-loop-at : goal.decreases-loop-at
decreases-loop-at l = l.end - l.at
