use Rattle.turnstile.proofs.Turn.{turn_begins, turn_acts, turn_ends, some_of}
use Rattle.turnstile.proofs.lock.Turnstile.take_turn.Goals as goal

pub act-reply-requires-clause-may : goal.act-reply-requires-clause-may
act-reply-requires-clause-may g c = let t = g.H.TurnObject in let idle = c.requires.idle in let v =
    c.args.seat.now.me.0 in let start = some_of v.start idle.4 in
    turn_begins t.history t.fixed t.legal t.fits t.may t.answers start.0 v c.args.seat.now.me.1
    c.draw_ticket-ticket.result c.args.name c.draw_ticket-ticket.new.seat.me c.await_turn.new.seat.me
    c.args.call start.1 idle.0 idle.1 idle.3
    c.draw_ticket-ticket.ensures.ticket c.await_turn.ensures.sees g.met.H.TurnObject.outlasts c.requires.may

pub end_turn-requires-clause-acted : goal.end_turn-requires-clause-acted
end_turn-requires-clause-acted g c = let t = g.H.TurnObject in let idle = c.requires.idle in let v =
    c.args.seat.now.me.0 in let start = some_of v.start idle.4 in
    turn_acts t.history t.fixed t.legal t.fits t.may t.answers start.0 v c.args.seat.now.me.1
    c.draw_ticket-ticket.result c.args.name c.draw_ticket-ticket.new.seat.me c.await_turn.new.seat.me
    c.args.call start.1 idle.0 idle.1 idle.3
    c.draw_ticket-ticket.ensures.ticket c.await_turn.ensures.sees c.act-reply.result c.act-reply.new.seat.me
    c.act-reply.ensures.table.2 c.act-reply.ensures.acts

pub returns-clause-turn : goal.returns-clause-turn
returns-clause-turn g c = let t = g.H.TurnObject in let idle = c.requires.idle in let v =
    c.args.seat.now.me.0 in let start = some_of v.start idle.4 in
    turn_ends t.history t.fixed t.legal t.fits t.may t.answers start.0 v c.args.seat.now.me.1
    c.draw_ticket-ticket.result c.args.name c.draw_ticket-ticket.new.seat.me c.await_turn.new.seat.me
    c.args.call start.1 idle.0 idle.1 idle.3
    c.draw_ticket-ticket.ensures.ticket c.await_turn.ensures.sees c.act-reply.result c.act-reply.new.seat.me
    c.act-reply.ensures.table.2 c.act-reply.ensures.acts c.args.seat.now.table_id
    c.end_turn.new.seat.me c.end_turn.ensures.after
