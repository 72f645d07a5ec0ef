use Rattle.std.proofs.Common.{◌≡◌, ◌+◌, ◌-◌, ◌≤◌, length}
use Rattle.busdma_machine.specs.Runs.{run_of}
use Rattle.segment_build.specs.Joining.{added_all}
use Rattle.busdma_rules.specs.Segments.Pieces.{pieces_of}
use Rattle.segment_build.proofs.pieces.add_run.Given as goal

abbrev pub invariant-loop-left : goal.invariant-loop-left
invariant-loop-left l = record {
  is : added_all l.limits l.list.items (pieces_of l.limits (run_of (l.fn.run.addr.0 + (l.fn.run.len - l.left)) l.left))
      ≡ added_all l.limits l.initial.list.items (pieces_of l.limits (run_of l.fn.run.addr.0 l.fn.run.len));
  few : length l.list.items ≤ l.limits.nsegments;
  room : l.initial.list.spare + length l.initial.list.items ≤ l.list.spare + length l.list.items;
  place : l.left ≤ l.fn.run.len;
}

abbrev pub decreases-loop-left : goal.decreases-loop-left
decreases-loop-left l = l.left
