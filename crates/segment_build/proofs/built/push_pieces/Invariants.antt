use Rattle.std.proofs.Common.{◌≡◌, ◌+◌, ◌++◌}
use Rattle.busdma_machine.specs.Runs.{run_of}
use Rattle.busdma_rules.specs.Segments.Pieces.{pieces_of}
use Rattle.segment_build.proofs.built.push_pieces.Given as goal

abbrev pub invariant-loop-left : goal.invariant-loop-left
invariant-loop-left l = record {
  is : l.pieces.items ++ pieces_of l.limits (run_of l.at l.left) ≡ l.initial.pieces.items
      ++ pieces_of l.limits (run_of l.fn.run.addr.0 l.fn.run.len);
  place : l.at + l.left ≡ l.fn.run.addr.0 + l.fn.run.len;
}

abbrev pub decreases-loop-left : goal.decreases-loop-left
decreases-loop-left l = l.left
