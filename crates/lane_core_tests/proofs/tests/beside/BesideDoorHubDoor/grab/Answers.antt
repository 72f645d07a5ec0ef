use Rattle.std.proofs.Common.{sym, ◌∙◌}
use Rattle.busdma_machine.specs.declared.bounce.hold.HubCall.TheVariants.{Grab}
use Rattle.busdma_machine.specs.Bounce.Door.{grab_reply}
use Rattle.lane_core.specs.LaneIdeal.{ideal}
use Rattle.lane_core_tests.proofs.Coming.{allows-at, not-other, made-at, fails-at, still-made}
use Rattle.lane_core_tests.proofs.tests.beside.BesideDoorHubDoor.grab.Goals as goal

pub grab-requires : goal.grab-requires
grab-requires c =
    allows-at c.args.self.now c.self.inside.lane.0 (ideal c.self.inside.other.lane).id c.self.inside.hub c.act.new.hub
    c.self.view_is c.self.invariant.apart c.act.ensures.comes (ideal c.act.new.self.lane) c.act.ensures.served
    c.args.map.lane.0 (Grab c.args.map c.args.zone c.args.need c.args.nowait) c.requires

pub invariant_of-self : goal.invariant_of-self
invariant_of-self c = record {
  apart = λ same. c.self.invariant.apart (sym c.act.ensures.number ∙ same);
  served =
      still-made (ideal c.act.new.self.lane) c.act.new.hub c.grab.new.self c.act.ensures.served
      c.args.map.lane.0 (Grab c.args.map c.args.zone c.args.need c.args.nowait) grab_reply c.grab.result
      (not-other c.args.self.now c.self.inside.lane.0 (ideal c.self.inside.other.lane).id c.self.inside.hub
      c.act.new.hub
      c.self.view_is c.self.invariant.apart c.act.ensures.comes (ideal c.act.new.self.lane) c.act.ensures.served
      c.args.map.lane.0 (Grab c.args.map c.args.zone c.args.need c.args.nowait) c.act.ensures.number c.requires)
      c.grab.ensures.held c.grab.ensures.no_memory;
}

pub returns-clause-held : goal.returns-clause-held
returns-clause-held c =
    made-at c.args.self.now c.self.inside.lane.0 (ideal c.self.inside.other.lane).id c.self.inside.hub c.act.new.hub
    c.self.view_is c.self.invariant.apart c.act.ensures.comes (ideal c.act.new.self.lane) c.act.ensures.served
    c.grab.new.self c.args.map.lane.0 (Grab c.args.map c.args.zone c.args.need c.args.nowait) grab_reply c.grab.result
    c.grab.ensures.held

pub returns-clause-no_memory : goal.returns-clause-no_memory
returns-clause-no_memory c =
    fails-at c.args.self.now c.self.inside.lane.0 (ideal c.self.inside.other.lane).id c.self.inside.hub c.act.new.hub
    c.self.view_is c.self.invariant.apart c.act.ensures.comes (ideal c.act.new.self.lane) c.act.ensures.served
    c.grab.new.self c.grab.result c.grab.ensures.no_memory
