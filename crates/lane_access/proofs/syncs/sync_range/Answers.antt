use Rattle.std.proofs.Common.{refl, ap}
use Rattle.std.specs.FinMap.{get}
use Rattle.ideal_lane.specs.Syncs as syncs
use Rattle.ideal_wire.specs.WireStep as wires
use Rattle.ideal_wire.specs.WireStep.{if_done}
use Rattle.lane_state.specs.Ideal.{ideal_of}
use Rattle.lane_state.specs.Kept.{map_of}
use Rattle.lane_state.specs.Wire.{wire_of}
use Rattle.lane_access.specs.Steps.{part_sync, wire_part_sync}
use Rattle.lane_access.proofs.DeviceReads.{load-there}
use Rattle.lane_state.proofs.MapValues.{image-some}
use Rattle.lane_access.proofs.Steps.{refused-step, same-step}
use Rattle.lane_access.proofs.Syncing.{range-past, range-within}
use Rattle.lane_access.proofs.syncs.sync_range.Goals as goal

pub returns-in-Some-past_end : goal.returns-in-Some-past_end
returns-in-Some-past_end c =
    let h = c.args.holdings.now in
    let k = c.args.map in
    let x = load-there (get h.maps.map k) c.in_default.ensures.loaded in
    refused-step (syncs.sync_range k c.args.off c.args.len c.args.ops.0) _ h _ c.in-Some-past_end.refusal refl
    (range-past (ideal_of h) k (map_of x.0) (image-some map_of h.maps.map k x.0 x.1) x.2 c.args.ops.0 c.args.off
    c.args.len c.in-Some-past_end.refusal c.in-Some-past_end.ensures.refused)

pub returns : goal.returns
returns c =
    let h = c.args.holdings.now in
    let l = ideal_of h in
    let w = wire_of h in
    let k = c.args.map in
    let off = c.args.off in
    let len = c.args.len in
    let ops = c.args.ops.0 in
    let x = load-there (get h.maps.map k) c.in_default.ensures.loaded in
    let within = range-within l k (map_of x.0) (image-some map_of h.maps.map k x.0 x.1) x.2 ops off len
    c.in_default-past_end.ensures.range in
    same-step (part_sync k off len ops) (syncs.sync_range k off len ops) (wire_part_sync k off len ops)
    (wires.wire_sync_range k off len ops) h c.sync_part.new.holdings c.sync_part.result within
    (ap (λ s. if_done s (wires.wire_synced k off len ops l w) w) within) c.sync_part.ensures
