use Rattle.std.proofs.Common.{◌≡◌, ◌∙◌, ap, subst, false}
use mathlib.Core.List.{IsPrefix}
use Rattle.turnstile.specs.Steps.{HeldStep as Held}
use Rattle.turnstile.specs.View.{served_view, ticket_view}
use Rattle.turnstile.specs.Pass.{PassView, Closes}
use Rattle.turnstile.specs.Key.{start_for}
use Rattle.turnstile.proofs.TurnSteps.{closed_ends}
use Rattle.turnstile.proofs.lock.Turnstile.close.Goals as goal

pub returns : goal.returns
returns g c = let t = g.H.TurnObject in let b = start_for t.history t.fixed c.self.inside.table.shared.key in let v =
    c.pass.inside.seat.me.0 in let k = c.draw_ticket-ticket.result in let drawn =
    c.draw_ticket-ticket.ensures.ticket in let last = c.await_last_turn.ensures.last in
    let view : c.await_last_turn.new.seat.me.0 ≡ served_view false last.0 (ticket_view k v) =
    ap (λ m. m.0) last.1 ∙ ap (λ m. served_view false last.0 m.0) drawn in
    let more : IsPrefix v.front last.0 =
    subst (λ (m : Held g.row.H.Denot g.row.H-Entry.Denot g.row.H-Fixed.Denot). IsPrefix m.0.front last.0) drawn
    last.2 in
    subst (λ (z : PassView g.row.H-Entry.Denot g.row.H-Fixed.Denot). Closes t.history t.fixed t.legal t.fits z
    c.take-object.result) c.pass.view_is
    (closed_ends t.history t.fixed t.legal t.fits b c.pass.inside.seat.table_id _ _ _ k v
    c.await_last_turn.new.seat.me.0 last.0 c.take-object.result c.pass.invariant.1.0 c.pass.invariant.1.1
    c.close_with-closed.ensures.values.2 view c.take-object.ensures.value more c.pass.invariant.0.0)
