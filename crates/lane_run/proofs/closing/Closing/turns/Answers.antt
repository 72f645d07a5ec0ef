use Rattle.std.proofs.Common.{ap, subst}
use Rattle.std.proofs.lemmas.List.{take_all}
use Rattle.lane_run.specs.Closing.{HaveTurned}
use Rattle.lane_run.proofs.ClosingLaws.{turned-first, turned-more}
use Rattle.world_core.specs.Ideal.{ideal_world}
use Rattle.lane_run.proofs.closing.Closing.turns.Goals as goal

pub loop-actor-init : goal.loop-actor-init
loop-actor-init g c = (c.requires.come, turned-first (ideal_world c.args.self.now.world))

pub loop-actor-preserved : goal.loop-actor-preserved
loop-actor-preserved g c = (
  c.in_ok-stepped.ensures.come,
  turned-more c.args.actors.now c.loop-actor.actor-index _ c.loop-actor-test.true (ideal_world c.args.self.now.world)
      (ideal_world c.loop-actor.self.world) (ideal_world c.turn.new.self.world) c.loop-actor.stepped
      c.in_ok-stepped.field-0 c.loop-actor.invariant.1 c.in_ok-stepped.ensures.goes,
)

pub returns-clause-goes : goal.returns-clause-goes
returns-clause-goes g c =
    subst (λ xs. HaveTurned xs (ideal_world c.args.self.now.world) (ideal_world c.loop-actor.self.world)
    c.loop-actor.stepped) (take_all c.loop-actor.actor-index c.args.actors.now c.loop-actor-test.false)
    c.loop-actor.invariant.1
