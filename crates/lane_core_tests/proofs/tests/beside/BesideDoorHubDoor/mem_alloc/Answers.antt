use Rattle.std.proofs.Common.{sym, ◌∙◌}
use Rattle.busdma_machine.specs.declared.bounce.hold.HubCall.TheVariants.{MemAlloc}
use Rattle.busdma_machine.specs.Bounce.Door.{memory_reply}
use Rattle.lane_core.specs.LaneIdeal.{ideal}
use Rattle.lane_core_tests.proofs.Coming.{allows-at, not-other, made-at, fails-at, still-made}
use Rattle.lane_core_tests.proofs.tests.beside.BesideDoorHubDoor.mem_alloc.Goals as goal

pub mem_alloc-requires : goal.mem_alloc-requires
mem_alloc-requires c =
    allows-at c.args.self.now c.self.inside.lane.0 (ideal c.self.inside.other.lane).id c.self.inside.hub c.act.new.hub
    c.self.view_is c.self.invariant.apart c.act.ensures.comes (ideal c.act.new.self.lane) c.act.ensures.served
    c.args.mem.lane.0 (MemAlloc c.args.mem c.args.tag.now) c.requires

pub invariant_of-self : goal.invariant_of-self
invariant_of-self c = record {
  apart = λ same. c.self.invariant.apart (sym c.act.ensures.number ∙ same);
  served =
      still-made (ideal c.act.new.self.lane) c.act.new.hub c.mem_alloc.new.self c.act.ensures.served
      c.args.mem.lane.0 (MemAlloc c.args.mem c.args.tag.now) memory_reply c.mem_alloc.result
      (not-other c.args.self.now c.self.inside.lane.0 (ideal c.self.inside.other.lane).id c.self.inside.hub
      c.act.new.hub
      c.self.view_is c.self.invariant.apart c.act.ensures.comes (ideal c.act.new.self.lane) c.act.ensures.served
      c.args.mem.lane.0 (MemAlloc c.args.mem c.args.tag.now) c.act.ensures.number c.requires)
      c.mem_alloc.ensures.held c.mem_alloc.ensures.no_memory;
}

pub returns-clause-held : goal.returns-clause-held
returns-clause-held c =
    made-at c.args.self.now c.self.inside.lane.0 (ideal c.self.inside.other.lane).id c.self.inside.hub c.act.new.hub
    c.self.view_is c.self.invariant.apart c.act.ensures.comes (ideal c.act.new.self.lane) c.act.ensures.served
    c.mem_alloc.new.self c.args.mem.lane.0 (MemAlloc c.args.mem c.args.tag.now) memory_reply c.mem_alloc.result
    c.mem_alloc.ensures.held

pub returns-clause-no_memory : goal.returns-clause-no_memory
returns-clause-no_memory c =
    fails-at c.args.self.now c.self.inside.lane.0 (ideal c.self.inside.other.lane).id c.self.inside.hub c.act.new.hub
    c.self.view_is c.self.invariant.apart c.act.ensures.comes (ideal c.act.new.self.lane) c.act.ensures.served
    c.mem_alloc.new.self c.mem_alloc.result c.mem_alloc.ensures.no_memory
