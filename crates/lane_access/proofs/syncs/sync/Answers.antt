use Rattle.std.proofs.Common.{◌≡◌, length, ap, ◌∙◌}
use Rattle.busdma_machine.specs.declared.name.MapId.{MapId}
use Rattle.loan_table.specs.Table.{buffer_of}
use Rattle.ideal_lane.specs.Outcomes.{load_length}
use Rattle.ideal_lane.specs.Syncs as syncs
use Rattle.ideal_wire.specs.WireStep as wires
use Rattle.lane_state.specs.Ideal.{ideal_of}
use Rattle.lane_state.specs.Wire.{wire_of}
use Rattle.lane_access.specs.Steps.{part_sync, wire_part_sync}
use Rattle.lane_access.proofs.Steps.{same-step}
use Rattle.lane_access.proofs.syncs.sync.Goals as goal

pub returns : goal.returns
returns c =
    let h = c.args.holdings.now in
    let k = c.args.map in
    let ops = c.args.ops.0 in
    let len = c.len_of-len.result in
    let size : len ≡ load_length (ideal_of h) k =
    c.len_of-len.ensures.is ∙ ap (λ (m : MapId). length (buffer_of h.loans m.made_at)) c.map_id.ensures in
    same-step (part_sync k 0 len ops) (syncs.sync k ops) (wire_part_sync k 0 len ops) (wires.wire_sync k ops) h
    c.sync_part.new.holdings c.sync_part.result (ap (λ n. part_sync k 0 n ops (ideal_of h)) size)
    (ap (λ n. wire_part_sync k 0 n ops (ideal_of h) (wire_of h)) size) c.sync_part.ensures
