use Rattle.std.proofs.Common.{rules, ◌+◌, sym, ap}
use Rattle.turnstile.proofs.TurnSteps.{after_keeps}
use Rattle.turnstile.proofs.lock.Turnstile.end_turn.Goals as goal

pub store-requires : goal.store-requires
store-requires g c = let k = c.requires.acted in (
  search rules,
  search rules,
  after_keeps _ _ _ _ _ _ _ _ _ _ k.0 k.1 c.requires.turn.0 c.requires.turn.1
      (ap (λ k. k + 1) (sym c.requires.turn.2)) k.2,
)

pub returns-clause-knows : goal.returns-clause-knows
returns-clause-knows g c = let acted = c.requires.acted in (acted.0, c.store.ensures.2.1 acted.0 acted.1)
