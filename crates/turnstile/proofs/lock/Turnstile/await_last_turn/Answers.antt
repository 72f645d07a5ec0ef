use Rattle.std.proofs.Common.{rules, ◌≡◌, ◌∙◌, ap, sym, subst, false, List, ℕ}
use mathlib.Core.List.{IsPrefix}
use Rattle.turnstile.specs.View.{served_view}
use Rattle.turnstile.specs.Steps.{HeldStep as Held}
use Rattle.turnstile.proofs.TurnSteps.{closes_keep}
use Rattle.turnstile.proofs.lock.Turnstile.await_last_turn.Goals as goal

pub load-found-requires : goal.load-found-requires
load-found-requires g c = let same = c.loop.invariant.2 in (
  search rules,
  search rules,
  closes_keep _ _ _ _ _ _ _ _ (ap (λ m. m.0.waits) same
      ∙ c.requires.ticket.0) (ap (λ m. m.0.turn) same ∙ c.requires.ticket.1),
)

pub returns-then-found-ticket-clause-last : goal.returns-then-found-ticket-clause-last
returns-then-found-ticket-clause-last g c = let same =
    c.loop.invariant.2 in let hit : c.load-found.result ≡ c.args.ticket = search rules in
    subst (λ (m : Held g.row.H.Denot g.row.H-Entry.Denot g.row.H-Fixed.Denot). (log : List (ℕ × g.row.H-Entry.Denot))
    × (c.load-found.new.seat.me ≡ (served_view false log m.0, m.1)) × IsPrefix m.0.front log) same
    (c.load-found.ensures.2.0 (hit ∙ (sym c.requires.ticket.2 ∙ ap (λ m. m.0.ticket) (sym same))))
