use Rattle.std.proofs.Common.{◌≡◌, ◌+◌, ◌-◌, ◌≤◌, length}
use Rattle.busdma_machine.specs.Runs.{run_of}
use Rattle.busdma_rules.specs.Segments.Pieces.{pieces_of}
use Rattle.segment_build.proofs.pieces.piece_count.Given as goal

abbrev pub invariant-loop-left : goal.invariant-loop-left
invariant-loop-left l = record {
  is : l.count + length (pieces_of l.limits (run_of (l.fn.run.addr.0 + (l.fn.run.len - l.left)) l.left))
      ≡ length (pieces_of l.limits (run_of l.fn.run.addr.0 l.fn.run.len));
  few : l.count + l.left ≤ l.fn.run.len;
  place : l.left ≤ l.fn.run.len;
}

abbrev pub decreases-loop-left : goal.decreases-loop-left
decreases-loop-left l = l.left
