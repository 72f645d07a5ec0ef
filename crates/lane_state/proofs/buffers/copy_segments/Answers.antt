use Rattle.std.proofs.Common.{◌<◌, length, take, ap, arith, length-append, length-take}
use Rattle.lane_state.proofs.buffers.copy_segments.Goals as goal

pub unwrap-requires : goal.unwrap-requires
unwrap-requires c =
    let before = c.loop-segment.invariant in
    let some : 0 < c.loop-segment.to.spare =
    omega (
      arith,
      before.room,
      ap length before.copied,
      length-append c.args.to.now.items (take c.loop-segment.segment-index c.args.from.now),
      length-take c.loop-segment.segment-index c.args.from.now,
      c.loop-segment-test.true,
      c.requires,
    ) in
    c.push.ensures.within some
