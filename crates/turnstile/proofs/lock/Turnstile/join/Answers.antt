use Rattle.std.proofs.Common.{rules, arith}
use Rattle.turnstile.proofs.PassSteps.{joins_keep, tells_keep}
use Rattle.turnstile.proofs.Turn.{none_there}
use Rattle.turnstile.proofs.Passes.{joined_pass_knows, sound_pass}
use Rattle.turnstile.proofs.lock.Turnstile.join.Goals as goal

pub join_seat-requires : goal.join_seat-requires
join_seat-requires g c = let p = c.pass.inside in (
  search rules,
  search rules,
  none_there p.seat.me.1 c.pass.invariant.0.3,
  omega (arith, c.self.invariant.0),
  joins_keep _ _ _ _ _ _ _ _ _ c.into.invariant.0.2 c.pass.invariant.0.2,
)

pub load-requires : goal.load-requires
load-requires g c = (search rules, omega (arith, c.self.invariant.0), tells_keep _ _ _ _ _ _ _ _)

pub invariant_of-into : goal.invariant_of-into
invariant_of-into g c = let t = g.H.TurnObject in
    joined_pass_knows t.legal t.fits c.into.inside.name c.pass.inside.seat.me.0 c.into.inside.seat.me
    c.join_seat.new.seat.me _ c.join_seat.ensures.2 c.load.ensures.2.0 c.into.invariant.0 c.load.ensures.2.1

pub returns-clause-sound : goal.returns-clause-sound
returns-clause-sound g c = let t = g.H.TurnObject in let known =
    invariant_of-into g c in sound_pass t.legal t.fits _ _ known.0.0 known.1
