use Rattle.std.proofs.Common.{length, ◌-◌, ◌≡◌, ◌≤◌}
use Rattle.journal_check.proofs.Alike.{AreAlike}
use Rattle.journal_check.proofs.closing.lines_alike.Given as goal

abbrev pub invariant-loop-at : goal.invariant-loop-at
invariant-loop-at l = record {
  few : l.count ≤ l.at;
  within : l.at ≤ length l.text;
  other : l.at ≤ length l.other;
  same : AreAlike l.text l.other l.at l.count;
}

abbrev pub decreases-loop-at : goal.decreases-loop-at
decreases-loop-at l = length l.text - l.at
