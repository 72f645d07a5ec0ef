use Rattle.std.proofs.Common.{◌≡◌, ◌<◌, ◌≤◌, Some, slice_get, length, refl, sym, ap, ◌∙◌, arith}
use Rattle.std.proofs.lemmas.Bool.Decides.{nat_tests}
use Rattle.std.proofs.lemmas.Option.{slice_get_within}
use Rattle.busdma_base.specs.declared.journals.journal.Did.TheVariants as did
use Rattle.busdma_base.specs.declared.journals.journal.Side.TheVariants as side
use Rattle.lane_turns.specs.declared.turn.Turn.TheVariants as turn
use Rattle.lane_turns.proofs.Providing.{made-script}
use Rattle.lane_turns.proofs.SmallLoads.{small-after, small-same}
use Rattle.lane_turns.proofs.ScriptTurns.{blocked-made, ended-made, next-made, next-may}
use Rattle.lane_turns.proofs.turns.operation_turn.Goals as goal

pub operation-requires-clause-going : goal.operation-requires-clause-going
operation-requires-clause-going g c =
    let h = c.args.holdings.now in
    let here : slice_get h.script h.agenda.place ≡ Some c.in-Some.op.now =
    ap (slice_get h.script) (sym c.place-place.ensures) ∙ sym c.in-Some.ensures in
    let within : h.agenda.place < length h.script = slice_get_within h.script h.agenda.place c.in-Some.op.now here in
    let all = c.requires.length in
    omega (arith, within, all)

pub operation-requires-clause-here : goal.operation-requires-clause-here
operation-requires-clause-here g c =
    let h = c.args.holdings.now in
    ap (slice_get h.script) (sym c.place-place.ensures) ∙ sym c.in-Some.ensures

pub operation-requires-clause-allowed : goal.operation-requires-clause-allowed
operation-requires-clause-allowed g c =
    let h = c.args.holdings.now in
    let here : slice_get h.script h.agenda.place ≡ Some c.in-Some.op.now =
    ap (slice_get h.script) (sym c.place-place.ensures) ∙ sym c.in-Some.ensures in
    next-may h c.requires.empty c.requires.undue c.in-Some.op.now here (sym c.waits.ensures ∙ c.if-waits.false)
    (g.D.HubDoor.seen c.args.door.now) c.requires.ready.stands c.requires.ready.served

pub go_on-requires : goal.go_on-requires
go_on-requires g c =
    let h = c.args.holdings.now in
    let here : slice_get h.script h.agenda.place ≡ Some c.in-Some.op.now =
    ap (slice_get h.script) (sym c.place-place.ensures) ∙ sym c.in-Some.ensures in
    let within : h.agenda.place < length h.script = slice_get_within h.script h.agenda.place c.in-Some.op.now here in
    let all = c.requires.length in
    let place = c.operation.ensures.agenda.place in
    let same = c.operation.ensures.agenda.end in
    omega (arith, within, all, place, same)

pub returns-in_default-clause-made : goal.returns-in_default-clause-made
returns-in_default-clause-made g c =
    let h = c.args.holdings.now in
    ended-made h c.requires.empty c.requires.undue (g.D.HubDoor.seen c.args.door.now)
    (ap (slice_get h.script) (sym c.place-place.ensures) ∙ sym c.in_default.ensures)

pub returns-then-waits-clause-made : goal.returns-then-waits-clause-made
returns-then-waits-clause-made g c =
    let h = c.args.holdings.now in
    let here : slice_get h.script h.agenda.place ≡ Some c.in-Some.op.now =
    ap (slice_get h.script) (sym c.place-place.ensures) ∙ sym c.in-Some.ensures in
    blocked-made h c.requires.empty c.requires.undue c.in-Some.op.now here (g.D.HubDoor.seen c.args.door.now)
    (sym c.waits.ensures ∙ c.if-waits.true)

pub returns-clause-made : goal.returns-clause-made
returns-clause-made g c =
    let h = c.args.holdings.now in
    let here : slice_get h.script h.agenda.place ≡ Some c.in-Some.op.now =
    ap (slice_get h.script) (sym c.place-place.ensures) ∙ sym c.in-Some.ensures in
    next-made h c.requires.empty c.requires.undue c.in-Some.op.now here (sym c.waits.ensures ∙ c.if-waits.false)
    c.operation.new.holdings c.go_on.new.holdings (g.D.HubDoor.seen c.args.door.now)
    (g.D.HubDoor.seen c.operation.new.door) c.in_ok-answer.field-0 c.stepped.result c.in_ok-answer.ensures.done
    c.in_ok-answer.ensures.held c.in_ok-answer.ensures.wire c.operation.ensures.agenda
    (c.stepped.ensures ∙ ap (λ p. turn.Stepped (record {
      actor = record { lane = c.go_on.new.holdings.id; side = side.Script };
      did = did.Op p;
      answer = c.in_ok-answer.field-0.answer;
    }) c.in_ok-answer.field-0.held) c.place-place.ensures) c.go_on.ensures.gone c.go_on.ensures.kept

pub returns-in_err-answer-clause-small : goal.returns-in_err-answer-clause-small
returns-in_err-answer-clause-small g c =
    let agenda = c.in_err-answer.ensures.unpromised in
    let promised = ap (λ a. a.promised) agenda in
    small-same c.args.holdings.now c.requires.small c.operation.new.holdings
    (ap (λ l. l.script) c.in_err-answer.ensures.err.ideal)
    c.operation.ensures.agenda.place (ap (λ l. l.due) c.in_err-answer.ensures.err.ideal)
    (omega (arith, promised)) c.operation.ensures.due

pub returns-clause-small : goal.returns-clause-small
returns-clause-small g c =
    let h = c.args.holdings.now in
    let k = c.operation.new.holdings in
    let n = c.go_on.new.holdings in
    let here : slice_get h.script h.agenda.place ≡ Some c.in-Some.op.now =
    ap (slice_get h.script) (sym c.place-place.ensures) ∙ sym c.in-Some.ensures in
    let done = c.operation.ensures in
    small-after h c.requires.small c.in-Some.op.now here c.requires.undue k n done.agenda.place
    (made-script h n (g.D.HubDoor.seen c.args.door.now) (g.D.HubDoor.seen c.operation.new.door) side.Script
    c.stepped.result c.requires.ready (returns-clause-made g c)) done.promised done.due c.in_ok-answer.field-0.answer
    c.go_on.ensures.gone c.go_on.ensures.kept
