use Rattle.std.proofs.Common.{◌≡◌, ◌∙◌, sym, ap, refl, length, rules}
use Rattle.lane_turns.specs.TakenTurns.{answered}
use Rattle.world_core.specs.Ideal.{ideal_world}
use Rattle.world_core.proofs.Taking.{no_entry}
use Rattle.journal_check.proofs.Trying.{IsQuiet, stays-quiet, goes-on, all-quiet}
use Rattle.journal_check.proofs.check.goes_on.Goals as goal

pub loop-actor-init : goal.loop-actor-init
loop-actor-init c = record { none = tt; same = refl }

pub loop-actor-preserved : goal.loop-actor-preserved
loop-actor-preserved c =
    stays-quiet (ideal_world c.args.world.now) (ideal_world c.loop-actor.world) (ideal_world c.step.new.self)
    c.deref-actor-items.result.now c.loop-actor.actor-index _ (answered c.in_ok-step.field-0) c.loop-actor-test.true
    c.loop-actor.invariant c.in_ok-step.ensures.done (no_entry _ c.in_default.not-Stepped)

pub returns-in-Stepped : goal.returns-in-Stepped
returns-in-Stepped c =
    goes-on (ideal_world c.args.world.now) (ideal_world c.loop-actor.world) (ideal_world c.step.new.self)
    c.deref-actor-items.result.now c.loop-actor.actor-index _ (answered c.in_ok-step.field-0) c.loop-actor-test.true
    c.loop-actor.invariant c.in_ok-step.ensures.done c.args.scenario.now c.in-Stepped.entry c.requires
    (ap answered c.in-Stepped.is)

pub returns : goal.returns
returns c =
    let own : c.deref-actor-items.result.now ≡ c.in_ok-round.round.items = search rules in
    let count : c.len.result ≡ length c.args.scenario.now.drivers = search rules in
    all-quiet c.args.scenario.now (ideal_world c.args.world.now) (ideal_world c.loop-actor.world)
    c.deref-actor-items.result.now c.len.result c.loop-actor.actor-index c.requires c.loop-actor.invariant
    c.loop-actor-test.false (own ∙ c.in_ok-round.ensures) count
