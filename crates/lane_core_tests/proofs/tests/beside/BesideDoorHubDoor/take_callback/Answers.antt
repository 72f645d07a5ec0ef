use Rattle.std.proofs.Common.{sym, ◌∙◌}
use Rattle.busdma_machine.specs.declared.bounce.hold.HubCall.TheVariants.{TakeCallback}
use Rattle.busdma_machine.specs.declared.bounce.hold.HubReply.TheVariants.{Called as CalledFor}
use Rattle.busdma_machine.specs.Bounce.AccountStep.{as_pages}
use Rattle.busdma_machine.specs.Machine.PageList.{page_addresses}
use Rattle.lane_core.specs.LaneIdeal.{ideal}
use Rattle.lane_core_tests.proofs.Coming.{allows-at, not-other, taken-at, still-taken}
use Rattle.lane_core_tests.proofs.tests.beside.BesideDoorHubDoor.take_callback.Goals as goal

pub take_callback-requires : goal.take_callback-requires
take_callback-requires c =
    allows-at c.args.self.now c.self.inside.lane.0 (ideal c.self.inside.other.lane).id c.self.inside.hub c.act.new.hub
    c.self.view_is c.self.invariant.apart c.act.ensures.comes (ideal c.act.new.self.lane) c.act.ensures.served
    c.args.lane.0 TakeCallback c.requires

pub invariant_of-self : goal.invariant_of-self
invariant_of-self c = record {
  apart = λ same. c.self.invariant.apart (sym c.act.ensures.number ∙ same);
  served =
      still-taken (ideal c.act.new.self.lane) c.act.new.hub c.take_callback.new.self c.act.ensures.served
      c.args.lane.0 (λ c. CalledFor c.map (as_pages (page_addresses c.pages.items))) c.take_callback.result
      (not-other c.args.self.now c.self.inside.lane.0 (ideal c.self.inside.other.lane).id c.self.inside.hub
      c.act.new.hub
      c.self.view_is c.self.invariant.apart c.act.ensures.comes (ideal c.act.new.self.lane) c.act.ensures.served
      c.args.lane.0 TakeCallback c.act.ensures.number c.requires)
      c.take_callback.ensures.held;
}

pub returns-clause-held : goal.returns-clause-held
returns-clause-held c =
    taken-at c.args.self.now c.self.inside.lane.0 (ideal c.self.inside.other.lane).id c.self.inside.hub c.act.new.hub
    c.self.view_is c.self.invariant.apart c.act.ensures.comes (ideal c.act.new.self.lane) c.act.ensures.served
    c.take_callback.new.self c.args.lane.0 (λ c. CalledFor c.map (as_pages (page_addresses c.pages.items)))
    c.take_callback.result c.take_callback.ensures.held
