use Rattle.std.proofs.Common.{sym, ◌∙◌}
use Rattle.busdma_machine.specs.declared.bounce.hold.HubCall.TheVariants.{MemFree}
use Rattle.busdma_machine.specs.declared.bounce.hold.HubReply.TheVariants.{Nothing}
use Rattle.busdma_machine.specs.Machine.PageList.{page_addresses}
use Rattle.lane_core.specs.LaneIdeal.{ideal}
use Rattle.lane_core_tests.proofs.Coming.{allows-at, pages-at, not-other, holds-at, still-held}
use Rattle.lane_core_tests.proofs.tests.beside.BesideDoorHubDoor.mem_free.Goals as goal

pub mem_free-requires-clause-allowed : goal.mem_free-requires-clause-allowed
mem_free-requires-clause-allowed c =
    allows-at c.args.self.now c.self.inside.lane.0 (ideal c.self.inside.other.lane).id c.self.inside.hub c.act.new.hub
    c.self.view_is c.self.invariant.apart c.act.ensures.comes (ideal c.act.new.self.lane) c.act.ensures.served
    c.args.mem.lane.0 (MemFree c.args.mem) c.requires.allowed

pub mem_free-requires-clause-pages : goal.mem_free-requires-clause-pages
mem_free-requires-clause-pages c =
    pages-at c.args.self.now c.self.inside.lane.0 (ideal c.self.inside.other.lane).id c.self.inside.hub c.act.new.hub
    c.self.view_is c.self.invariant.apart c.act.ensures.comes (ideal c.act.new.self.lane) c.act.ensures.served
    c.args.mem (page_addresses c.args.pages.items) (MemFree c.args.mem) c.requires.allowed c.requires.pages

pub invariant_of-self : goal.invariant_of-self
invariant_of-self c = record {
  apart = λ same. c.self.invariant.apart (sym c.act.ensures.number ∙ same);
  served =
      still-held (ideal c.act.new.self.lane) c.act.new.hub c.mem_free.new.self c.act.ensures.served
      c.args.mem.lane.0 (MemFree c.args.mem) Nothing
      (not-other c.args.self.now c.self.inside.lane.0 (ideal c.self.inside.other.lane).id c.self.inside.hub
      c.act.new.hub
      c.self.view_is c.self.invariant.apart c.act.ensures.comes (ideal c.act.new.self.lane) c.act.ensures.served
      c.args.mem.lane.0 (MemFree c.args.mem) c.act.ensures.number c.requires.allowed)
      c.mem_free.ensures.held;
}

pub returns-clause-held : goal.returns-clause-held
returns-clause-held c =
    holds-at c.args.self.now c.self.inside.lane.0 (ideal c.self.inside.other.lane).id c.self.inside.hub c.act.new.hub
    c.self.view_is c.self.invariant.apart c.act.ensures.comes (ideal c.act.new.self.lane) c.act.ensures.served
    c.mem_free.new.self c.args.mem.lane.0 (MemFree c.args.mem) Nothing c.mem_free.ensures.held
