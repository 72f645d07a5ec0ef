use Rattle.std.proofs.Common.{◌≡◌, ap, ◌∙◌, arith}
use Rattle.ideal_world.specs.Legal.{round_from}
use Rattle.world_core.proofs.TurnsInOrder.{round_pushed}
use Rattle.world_core.proofs.run.round_of.Goals as goal

pub loop-number-init : goal.loop-number-init
loop-number-init c = c.new-round.ensures.items

pub loop-number-preserved : goal.loop-number-preserved
loop-number-preserved c =
    round_pushed c.loop-number.number c.loop-number.round.items c.push.new.self.items
    c.push-in-loop-number.new.self.items c.push-in-loop-number-2.new.self.items
    c.loop-number.invariant c.in_ok-push.ensures.items c.in_ok-push-2.ensures.items c.in_ok-push-3.ensures.items

pub returns : goal.returns
returns c =
    let e : c.loop-number.number ≡ c.args.drivers =
    omega (arith, c.loop-number-test.false, c.loop-number.auto.number-end) in
    c.loop-number.invariant ∙ ap (round_from 0) e
