use Rattle.std.proofs.Common.{◌≡◌, ◌+◌, ◌≤◌, ◌++◌, length, take}
use Rattle.lane_state.proofs.buffers.copy_segments.Given as goal

abbrev pub invariant-loop-segment : goal.invariant-loop-segment
invariant-loop-segment l = record {
  copied : l.to.items ≡ l.initial.to.items ++ take l.segment-index l.from;
  room : l.initial.to.spare + length l.initial.to.items ≤ l.to.spare + length l.to.items;
}
