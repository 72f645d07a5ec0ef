use Rattle.std.proofs.Common.{◌≡◌, ◌-◌, ◌≤◌}
use Rattle.std.specs.List.{AllByRecursion}
use Rattle.busdma_machine.specs.Runs.{addresses}
use Rattle.busdma_rules.specs.Lending.Loans.{load_bytes}
use Rattle.lane_access.specs.Raw.{IsInFrame}
use Rattle.lane_access.proofs.accesses.load_extents.Given as goal

abbrev pub invariant-loop-at : goal.invariant-loop-at
invariant-loop-at l = record {
  from : l.off ≤ l.at;
  to : l.at ≤ l.end;
  bytes : addresses l.parts.items ≡ load_bytes l.holdings.loans.loans l.map l.off (l.at - l.off);
  in_frames : AllByRecursion IsInFrame l.parts.items;
}

abbrev pub decreases-loop-at : goal.decreases-loop-at
decreases-loop-at l = l.end - l.at
