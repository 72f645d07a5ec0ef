use Rattle.std.proofs.Common.{sym, ◌∙◌}
use Rattle.busdma_machine.specs.declared.bounce.hold.HubCall.TheVariants.{AttachTag}
use Rattle.busdma_machine.specs.declared.bounce.hold.HubReply.TheVariants.{Grown as GrownBy}
use Rattle.lane_core.specs.LaneIdeal.{ideal}
use Rattle.lane_core_tests.proofs.Coming.{allows-at, not-other, made-at, fails-at, still-made}
use Rattle.lane_core_tests.proofs.tests.beside.BesideDoorHubDoor.attach_tag.Goals as goal

pub attach_tag-requires : goal.attach_tag-requires
attach_tag-requires c =
    allows-at c.args.self.now c.self.inside.lane.0 (ideal c.self.inside.other.lane).id c.self.inside.hub c.act.new.hub
    c.self.view_is c.self.invariant.apart c.act.ensures.comes (ideal c.act.new.self.lane) c.act.ensures.served
    c.args.lane.0 (AttachTag c.args.tag.now) c.requires

pub invariant_of-self : goal.invariant_of-self
invariant_of-self c = record {
  apart = λ same. c.self.invariant.apart (sym c.act.ensures.number ∙ same);
  served =
      still-made (ideal c.act.new.self.lane) c.act.new.hub c.attach_tag.new.self c.act.ensures.served
      c.args.lane.0 (AttachTag c.args.tag.now) GrownBy c.attach_tag.result
      (not-other c.args.self.now c.self.inside.lane.0 (ideal c.self.inside.other.lane).id c.self.inside.hub
      c.act.new.hub
      c.self.view_is c.self.invariant.apart c.act.ensures.comes (ideal c.act.new.self.lane) c.act.ensures.served
      c.args.lane.0 (AttachTag c.args.tag.now) c.act.ensures.number c.requires)
      c.attach_tag.ensures.held c.attach_tag.ensures.no_memory;
}

pub returns-clause-held : goal.returns-clause-held
returns-clause-held c =
    made-at c.args.self.now c.self.inside.lane.0 (ideal c.self.inside.other.lane).id c.self.inside.hub c.act.new.hub
    c.self.view_is c.self.invariant.apart c.act.ensures.comes (ideal c.act.new.self.lane) c.act.ensures.served
    c.attach_tag.new.self c.args.lane.0 (AttachTag c.args.tag.now) GrownBy c.attach_tag.result c.attach_tag.ensures.held

pub returns-clause-no_memory : goal.returns-clause-no_memory
returns-clause-no_memory c =
    fails-at c.args.self.now c.self.inside.lane.0 (ideal c.self.inside.other.lane).id c.self.inside.hub c.act.new.hub
    c.self.view_is c.self.invariant.apart c.act.ensures.comes (ideal c.act.new.self.lane) c.act.ensures.served
    c.attach_tag.new.self c.attach_tag.result c.attach_tag.ensures.no_memory
