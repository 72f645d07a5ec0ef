use Rattle.std.proofs.Common.{◌≡◌, ◌+◌, ◌<◌, ◌≤◌, length, ap, ◌∙◌, subst, arith}
use Rattle.std.proofs.lemmas.Option.{slice_get_within}
use Rattle.busdma_base.specs.declared.journals.journal.Did.TheVariants as did
use Rattle.busdma_base.specs.declared.journals.journal.Side.TheVariants as side
use Rattle.busdma_machine.specs.Machine.Spans.{span_bytes}
use Rattle.lane_turns.specs.declared.turn.Turn.TheVariants as turn
use Rattle.lane_state.specs.Covered.{pages_due}
use Rattle.lane_state.specs.Sends.{the_send}
use Rattle.lane_turns.proofs.Providing.{made-script}
use Rattle.lane_turns.proofs.SmallLoads.{chain-small, few-resent, has-due, is-send, small-resent, small-same}
use Rattle.lane_turns.proofs.ScriptTurns.{again-made, again-may, few-items}
use Rattle.lane_turns.proofs.turns.resend_turn.Goals as goal

pub resend-requires : goal.resend-requires
resend-requires g c =
    let h = c.args.holdings.now in
    let s = the_send c.args.send in
    let has = has-due h s c.requires.due in
    record {
      stands = c.requires.ready.stands;
      wired = c.requires.ready.wired;
      due = c.requires.due;
      small = chain-small h c.requires.small s c.requires.due;
      few_items = subst (λ items. length items ≤ h.agenda.room) (is-send has.o s has.send).items
          (few-items h has.o has.here c.requires.ready.room);
      few_pages = few-resent h c.requires.small s c.requires.due;
      allowed = again-may h c.requires.empty s c.requires.due (g.D.HubDoor.seen c.args.door.now)
          c.requires.ready.stands c.requires.ready.served;
    }

pub advance-requires : goal.advance-requires
advance-requires g c =
    let h = c.args.holdings.now in
    let has = has-due h (the_send c.args.send) c.requires.due in
    let within : h.agenda.place < length h.script = slice_get_within h.script h.agenda.place has.o has.here in
    let all = c.requires.length in
    let place = c.resend.ensures.resent.agenda.place in
    let same = c.resend.ensures.resent.agenda.end in
    omega (arith, within, all, place, same)

pub returns-clause-made : goal.returns-clause-made
returns-clause-made g c =
    again-made c.args.holdings.now c.requires.empty (the_send c.args.send) c.requires.due c.resend.new.holdings
    c.advance.new.holdings (g.D.HubDoor.seen c.args.door.now) (g.D.HubDoor.seen c.resend.new.door)
    c.in_ok-answer.field-0 c.stepped.result c.advance.ensures c.in_ok-answer.ensures.resent.done
    c.in_ok-answer.ensures.resent.held
    c.in_ok-answer.ensures.resent.wire c.resend.ensures.resent.agenda
    (c.stepped.ensures ∙ ap (λ p. turn.Stepped (record {
      actor = record { lane = c.advance.new.holdings.id; side = side.Script };
      did = did.Again p;
      answer = c.in_ok-answer.field-0.answer;
    }) c.in_ok-answer.field-0.held) c.place-place.ensures)

pub returns-in_err-answer-clause-small : goal.returns-in_err-answer-clause-small
returns-in_err-answer-clause-small g c =
    let agenda = c.in_err-answer.ensures.resent.unpromised in
    let promised = ap (λ a. a.promised) agenda in
    small-same c.args.holdings.now c.requires.small c.resend.new.holdings
    (ap (λ l. l.script) c.in_err-answer.ensures.resent.err.ideal)
    c.resend.ensures.resent.agenda.place (ap (λ l. l.due) c.in_err-answer.ensures.resent.err.ideal)
    (omega (arith, promised)) c.resend.ensures.resent.due

pub returns-clause-small : goal.returns-clause-small
returns-clause-small g c =
    let h = c.args.holdings.now in
    let k = c.resend.new.holdings in
    let n = c.advance.new.holdings in
    let done = c.resend.ensures.resent in
    let on = c.advance.ensures.agenda in
    let promised : n.agenda.promised ≡ k.agenda.promised = ap (λ a. a.promised) on in
    let few : k.agenda.promised ≤ h.agenda.promised + span_bytes c.args.send.chain.now = done.promised in
    small-resent h c.requires.small (the_send c.args.send) c.requires.due n
    (made-script h n (g.D.HubDoor.seen c.args.door.now) (g.D.HubDoor.seen c.resend.new.door) side.Script
    c.stepped.result c.requires.ready (returns-clause-made g c))
    (ap (λ a. a.place) on ∙ ap (λ p. p + 1) done.agenda.place) c.advance.ensures.rest.most.due
    (omega (arith, promised, few))
    (omega (arith, done.due, promised, ap (λ t. pages_due t.map) c.advance.ensures.rest.maps))
