use Rattle.std.proofs.Common.{◌≡◌, ◌+◌, ◌-◌, ◌≤◌}
use Rattle.busdma_machine.specs.Judging.{judged}
use Rattle.busdma_machine.specs.Runs.{run_of}
use Rattle.lane_state.specs.Ideal.{ideal_of}
use Rattle.lane_access.specs.Raw.{refusal_of}
use Rattle.lane_access.proofs.raw.judge_raw.Given as goal

abbrev pub invariant-loop-done : goal.invariant-loop-done
invariant-loop-done l = record {
  to : l.done ≤ l.len;
  left : judged (refusal_of l.access (ideal_of l.holdings) l.tag) l.done (run_of (l.addr + l.done) (l.len - l.done))
      ≡ judged (refusal_of l.access (ideal_of l.holdings) l.tag) 0 (run_of l.addr l.len);
}

abbrev pub decreases-loop-done : goal.decreases-loop-done
decreases-loop-done l = l.len - l.done
