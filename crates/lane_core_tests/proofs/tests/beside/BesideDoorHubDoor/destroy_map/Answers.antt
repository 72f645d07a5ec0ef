use Rattle.std.proofs.Common.{sym, ◌∙◌}
use Rattle.busdma_machine.specs.declared.bounce.hold.HubCall.TheVariants.{DestroyMap}
use Rattle.busdma_machine.specs.declared.bounce.hold.HubReply.TheVariants.{Nothing}
use Rattle.lane_core.specs.LaneIdeal.{ideal}
use Rattle.lane_core_tests.proofs.Coming.{allows-at, not-other, holds-at, still-held}
use Rattle.lane_core_tests.proofs.tests.beside.BesideDoorHubDoor.destroy_map.Goals as goal

pub destroy_map-requires : goal.destroy_map-requires
destroy_map-requires c =
    allows-at c.args.self.now c.self.inside.lane.0 (ideal c.self.inside.other.lane).id c.self.inside.hub c.act.new.hub
    c.self.view_is c.self.invariant.apart c.act.ensures.comes (ideal c.act.new.self.lane) c.act.ensures.served
    c.args.map.lane.0 (DestroyMap c.args.map c.args.zone) c.requires

pub invariant_of-self : goal.invariant_of-self
invariant_of-self c = record {
  apart = λ same. c.self.invariant.apart (sym c.act.ensures.number ∙ same);
  served =
      still-held (ideal c.act.new.self.lane) c.act.new.hub c.destroy_map.new.self c.act.ensures.served
      c.args.map.lane.0 (DestroyMap c.args.map c.args.zone) Nothing
      (not-other c.args.self.now c.self.inside.lane.0 (ideal c.self.inside.other.lane).id c.self.inside.hub
      c.act.new.hub
      c.self.view_is c.self.invariant.apart c.act.ensures.comes (ideal c.act.new.self.lane) c.act.ensures.served
      c.args.map.lane.0 (DestroyMap c.args.map c.args.zone) c.act.ensures.number c.requires)
      c.destroy_map.ensures.held;
}

pub returns-clause-held : goal.returns-clause-held
returns-clause-held c =
    holds-at c.args.self.now c.self.inside.lane.0 (ideal c.self.inside.other.lane).id c.self.inside.hub c.act.new.hub
    c.self.view_is c.self.invariant.apart c.act.ensures.comes (ideal c.act.new.self.lane) c.act.ensures.served
    c.destroy_map.new.self c.args.map.lane.0 (DestroyMap c.args.map c.args.zone) Nothing c.destroy_map.ensures.held
