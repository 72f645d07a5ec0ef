use Rattle.std.proofs.Common.{sym, ◌∙◌}
use Rattle.busdma_machine.specs.declared.bounce.hold.HubCall.TheVariants.{Release}
use Rattle.busdma_machine.specs.declared.bounce.hold.HubReply.TheVariants.{Served}
use Rattle.busdma_machine.specs.Machine.PageList.{page_address}
use Rattle.lane_core.specs.LaneIdeal.{ideal}
use Rattle.lane_core_tests.proofs.Coming.{allows-at, not-other, holds-at, still-held}
use Rattle.lane_core_tests.proofs.tests.beside.BesideDoorHubDoor.release.Goals as goal

pub release-requires : goal.release-requires
release-requires c =
    allows-at c.args.self.now c.self.inside.lane.0 (ideal c.self.inside.other.lane).id c.self.inside.hub c.act.new.hub
    c.self.view_is c.self.invariant.apart c.act.ensures.comes (ideal c.act.new.self.lane) c.act.ensures.served
    c.args.map.lane.0 (Release c.args.map c.args.zone (record { 0 = page_address c.args.page })) c.requires

pub invariant_of-self : goal.invariant_of-self
invariant_of-self c = record {
  apart = λ same. c.self.invariant.apart (sym c.act.ensures.number ∙ same);
  served =
      still-held (ideal c.act.new.self.lane) c.act.new.hub c.release.new.self c.act.ensures.served
      c.args.map.lane.0 (Release c.args.map c.args.zone (record { 0 = page_address c.args.page }))
      (Served c.release.result)
      (not-other c.args.self.now c.self.inside.lane.0 (ideal c.self.inside.other.lane).id c.self.inside.hub
      c.act.new.hub
      c.self.view_is c.self.invariant.apart c.act.ensures.comes (ideal c.act.new.self.lane) c.act.ensures.served
      c.args.map.lane.0 (Release c.args.map c.args.zone (record { 0 = page_address c.args.page })) c.act.ensures.number
      c.requires)
      c.release.ensures.held;
}

pub returns-clause-held : goal.returns-clause-held
returns-clause-held c =
    holds-at c.args.self.now c.self.inside.lane.0 (ideal c.self.inside.other.lane).id c.self.inside.hub c.act.new.hub
    c.self.view_is c.self.invariant.apart c.act.ensures.comes (ideal c.act.new.self.lane) c.act.ensures.served
    c.release.new.self c.args.map.lane.0 (Release c.args.map c.args.zone (record { 0 = page_address c.args.page }))
    (Served c.release.result) c.release.ensures.held
