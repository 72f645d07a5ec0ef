use Rattle.std.proofs.Common.{rules, ◌∙◌, ap}
use Rattle.turnstile.proofs.TurnSteps.{draws_keep}
use Rattle.turnstile.proofs.lock.Turnstile.draw_ticket.Goals as goal

pub compare_exchange-found-requires : goal.compare_exchange-found-requires
compare_exchange-found-requires g c = (
  search rules,
  search rules,
  draws_keep _ _ _ _ _ _ _ _ _
      (ap (λ m. m.0.turn) c.loop.invariant.2 ∙ c.requires.idle),
)
