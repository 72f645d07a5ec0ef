use Rattle.std.proofs.Common.{◌≡◌, ◌++◌}
use Rattle.lane_state.specs.Loading.{stream_extents}
use Rattle.lane_state.proofs.buffers.extents_of.Given as goal

abbrev pub invariant-loop-part : goal.invariant-loop-part
invariant-loop-part l = l.extents.items ++ stream_extents l.part-iterator ≡ stream_extents l.fn.parts
