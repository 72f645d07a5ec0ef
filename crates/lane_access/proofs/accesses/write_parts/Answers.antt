use Rattle.std.proofs.Common.{arith, ◌∙◌}
use Rattle.lane_state.proofs.WireBytes.{part_written, extents_more, count_more, lie_more, lie_same, lie_first}
use Rattle.lane_state.proofs.WireBytes.{same_rewritten, same_trans}
use Rattle.lane_access.proofs.accesses.write_parts.Goals as goal

pub slice_bounds-here-end : goal.slice_bounds-here-end
slice_bounds-here-end c =
    omega (
      arith,
      c.loop-part.invariant.count,
      count_more c.args.parts.now c.loop-part.part-index c.loop-part-test.true,
    )

pub loop-part-preserved : goal.loop-part-preserved
loop-part-preserved c =
    let parts = c.args.parts.now in
    let i = c.loop-part.part-index in
    let inside = c.loop-part-test.true in
    let before = c.loop-part.invariant in
    let count = count_more parts i inside in
    let same = same_rewritten c.loop-part.memory.memory _ _ (lie_first _ parts i inside before.lie) in
    record {
      left = part_written _ _ c.args.bytes.now _ _ c.loop-part.done _ _ _ (extents_more parts i inside) (omega arith)
          (omega (arith, before.count, count)) c.write.ensures.wire ∙ before.left;
      count = omega (arith, before.count, count);
      lie = rw c.write.ensures.memory (lie_same _ _ _ same (lie_more _ parts i inside before.lie));
      same = rw c.write.ensures.memory (same_trans _ _ _ before.same same);
    }
