use Rattle.std.proofs.Common.{rules, ◌≡◌, ◌∙◌, ap, sym, subst, ◌∷◌}
use Rattle.turnstile.specs.Steps.{Sees, HeldStep as Held}
use Rattle.turnstile.proofs.TurnSteps.{looks_keep}
use Rattle.turnstile.proofs.Turn.{some_of}
use Rattle.turnstile.proofs.lock.Turnstile.await_turn.Goals as goal

pub load-found-requires : goal.load-found-requires
load-found-requires g c = let same = c.loop.invariant.2 in let b = some_of c.args.seat.now.me.0.start
    c.requires.start in (
      search rules,
      search rules,
      looks_keep _ _ _ _ _ _ _ _ b.0 (ap (λ m. m.0.start) same
          ∙ b.1) (ap (λ m. m.0.waits) same ∙ c.requires.ticket.0) (ap (λ m. m.0.turn) same ∙ c.requires.ticket.1),
    )

pub returns-then-found-ticket-clause-sees : goal.returns-then-found-ticket-clause-sees
returns-then-found-ticket-clause-sees g c = let same = c.loop.invariant.2 in let hit : c.load-found.result
    ≡ c.args.ticket = search rules in
    subst (λ (m : Held g.row.H.Denot g.row.H-Entry.Denot g.row.H-Fixed.Denot). Sees g.H.TurnObject.history
    g.H.TurnObject.fixed g.H.TurnObject.legal g.H.TurnObject.fits (λ x. (0, x) ∷ m.1) m c.load-found.new.seat.me)
    same
    (c.load-found.ensures.2.0 (hit ∙ (sym c.requires.ticket.2 ∙ ap (λ m. m.0.ticket) (sym same))))
