use Rattle.std.proofs.Common.{ap, sym, ◌∙◌, ◌&&◌, ◌||◌}
use Rattle.std.specs.List.{list_any}
use Rattle.busdma_rules.specs.Tags.SyncOps.{postread, prewrite}
use Rattle.dma_map.specs.MapView.{held_chunks}
use Rattle.ideal_lane.specs.Syncs.{has_byte_of}
use Rattle.lane_state.specs.Held.{device_view}
use Rattle.lane_state.specs.Kept.{device_in}
use Rattle.lane_access.proofs.Copying.{idle-copy}
use Rattle.lane_access.proofs.syncs.copy_part.Goals as goal

pub returns-else-copies-clause-view : goal.returns-else-copies-clause-view
returns-else-copies-clause-view c =
    let ops = c.args.ops.0 in
    idle-copy c.args.off c.args.len ops (held_chunks c.args.map.now.stage)
    (device_view (device_in c.args.map.now.stage) c.args.memory.now.memory)
    (ap (λ cs. (prewrite ops || postread ops) && list_any (has_byte_of c.args.off c.args.len) cs)
    (sym c.chunks.ensures)
    ∙ sym c.copies.ensures ∙ c.if-copies.false)
