use Rattle.std.proofs.Common.{◌<◌, length, take, ap, arith, length-take}
use Rattle.lane_state.proofs.Preparing.{pages-count}
use Rattle.lane_state.proofs.buffers.write_addresses.Goals as goal

pub unwrap-requires : goal.unwrap-requires
unwrap-requires c =
    let before = c.loop-page.invariant in
    let some : 0 < c.loop-page.list.spare =
    omega (
      arith,
      before.room,
      ap length before.written,
      pages-count (take c.loop-page.page-index c.args.pages.now),
      length-take c.loop-page.page-index c.args.pages.now,
      c.loop-page-test.true,
      c.requires.room,
    ) in
    c.push.ensures.within some
