use Rattle.std.proofs.Common.{◌≡◌, ◌+◌, ap, ◌∙◌, arith, length, map, get_or, [], ◌∷◌, length-append, subst, sym, List}
use Rattle.std.proofs.lemmas.List.{take_all}
use Rattle.busdma_base.specs.declared.scenarios.scenario.PageRun.{PageRun}
use Rattle.lane_core.specs.LaneIdeal.{ideal}
use Rattle.lane_state.specs.OpeningMemory.{ArePages, IsOpeningMemory}
use Rattle.ideal_lane.specs.Opening.{opening_lane}
use Rattle.ideal_world.specs.World.{opening_lanes}
use Rattle.world_core.proofs.OpeningWorld.{may-open, next_lane}
use Rattle.world_core.proofs.opening.opening_lanes.Goals as goal

pub loop-driver-init : goal.loop-driver-init
loop-driver-init c = (ap length c.new-lanes.ensures.items, ap (map ideal) c.new-lanes.ensures.items)

pub opening_memory-requires : goal.opening_memory-requires
opening_memory-requires c =
    subst ArePages (sym c.as_slice.ensures)
    (may-open c.args.scenario.now c.as_slice-driver-items.result.now c.loop-driver.driver-index c.driver-item.result
    c.args.maxmem c.requires.valid c.requires.end c.as_slice-driver-items.ensures c.loop-driver-test.true
    c.driver-item.is).pages

pub overflow_cast-id : goal.overflow_cast-id
overflow_cast-id c =
    omega (
      arith,
      c.len.ensures,
      c.loop-driver.lanes.ok.0,
      c.loop-driver.invariant.0,
      c.loop-driver-test.true,
      ap length c.as_slice-driver-items.ensures,
      c.requires.valid.few_drivers,
    )

pub new-requires : goal.new-requires
new-requires c =
    let may = may-open c.args.scenario.now c.as_slice-driver-items.result.now c.loop-driver.driver-index
    c.driver-item.result c.args.maxmem c.requires.valid c.requires.end c.as_slice-driver-items.ensures
    c.loop-driver-test.true c.driver-item.is in
    record {
      script = may.script;
      pages = may.pages;
      memory = subst (λ (ps : List PageRun). IsOpeningMemory ps c.in_ok-memory.memory.memory) c.as_slice.ensures
          c.in_ok-memory.ensures;
      numbered = may.numbered;
      inside = may.inside;
      small = may.small;
      bios = may.bios;
    }

pub loop-driver-preserved : goal.loop-driver-preserved
loop-driver-preserved c =
    let ds = c.args.scenario.now.drivers in
    let same = c.as_slice-driver-items.ensures in
    let i = c.loop-driver.driver-index in
    let lane = c.in_ok-new.field-0 in
    let number : c.len.result ≡ i = c.len.ensures ∙ (c.loop-driver.lanes.ok.0 ∙ c.loop-driver.invariant.0) in
    let driver = c.driver-item.is ∙ ap (λ l. get_or l i c.driver-item.result) same in
    let opened : ideal lane ≡ opening_lane i c.args.maxmem (get_or ds i c.driver-item.result) =
    c.in_ok-new.ensures ∙ (ap (λ n. opening_lane n c.args.maxmem c.driver-item.result) number
    ∙ ap (opening_lane i c.args.maxmem) driver) in (
      ap length c.in_ok-push.ensures.items
          ∙ (length-append c.loop-driver.lanes.items (lane ∷ []) ∙ ap (λ n. n + 1) c.loop-driver.invariant.0),
      next_lane c.args.maxmem ds c.loop-driver.lanes.items c.push.new.self.items lane i c.driver-item.result
          (omega (arith, c.loop-driver-test.true, ap length same)) c.loop-driver.invariant.1
          opened c.in_ok-push.ensures.items,
    )

pub returns : goal.returns
returns c =
    let same = c.as_slice-driver-items.ensures in
    c.loop-driver.invariant.1
    ∙ ap (opening_lanes 0 c.args.maxmem) (take_all c.loop-driver.driver-index c.args.scenario.now.drivers
    (omega (arith, c.loop-driver-test.false, ap length same)))
