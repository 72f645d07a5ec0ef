use Rattle.std.proofs.Common.{◌≡◌, ◌+◌, ◌^◌, ◌<◌, ◌∙◌, ap, arith, take, get_or, length}
use Rattle.std.proofs.lemmas.List.{take_all}
use Rattle.lane_core.specs.LaneIdeal.{ideal}
use Rattle.world_core.proofs.Counting.{share-next, share-sum, shares-are, shares-fit}
use Rattle.world_core.proofs.world.World.bounced.Goals as goal

pub overflow_add-syncs : goal.overflow_add-syncs
overflow_add-syncs c =
    let w = c.args.self.now in
    let z = c.args.zone.0 in
    let i = c.loop-lane.lane-index in
    let lanes = c.deref-lane-items.ensures.value in
    let lt : i < length w.lanes.items = omega (arith, c.loop-lane-test.true, ap length lanes) in
    let here : c.bounced-syncs.result ≡ (ideal (get_or w.lanes.items i c.lane-item.result)).shares z =
    c.bounced-syncs.ensures ∙ ap (λ l. (ideal l).shares z) (c.lane-item.is
    ∙ ap (λ ls. get_or ls i c.lane-item.result) lanes) in
    let next = share-next z w.lanes.items i c.lane-item.result lt in
    let fits : share-sum z (take (i + 1) w.lanes.items) < 2 ^ 64 =
    shares-fit w.scenario.now w.lanes.items w.hub z (i + 1) w.kept in
    omega (arith, c.loop-lane.invariant, here, next, fits)

pub loop-lane-preserved : goal.loop-lane-preserved
loop-lane-preserved c =
    let w = c.args.self.now in
    let z = c.args.zone.0 in
    let i = c.loop-lane.lane-index in
    let lanes = c.deref-lane-items.ensures.value in
    let lt : i < length w.lanes.items = omega (arith, c.loop-lane-test.true, ap length lanes) in
    let here : c.bounced-syncs.result ≡ (ideal (get_or w.lanes.items i c.lane-item.result)).shares z =
    c.bounced-syncs.ensures ∙ ap (λ l. (ideal l).shares z) (c.lane-item.is
    ∙ ap (λ ls. get_or ls i c.lane-item.result) lanes) in
    let next = share-next z w.lanes.items i c.lane-item.result lt in
    omega (arith, c.loop-lane.invariant, here, next)

pub returns : goal.returns
returns c =
    let w = c.args.self.now in
    let z = c.args.zone.0 in
    let lanes = c.deref-lane-items.ensures.value in
    c.loop-lane.invariant
    ∙ ap (share-sum z) (take_all c.loop-lane.lane-index w.lanes.items
    (omega (arith, c.loop-lane-test.false, ap length lanes)))
    ∙ shares-are z w.lanes.items
