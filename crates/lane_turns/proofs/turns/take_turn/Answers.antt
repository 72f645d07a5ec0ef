use Rattle.std.proofs.Common.{◌≡◌, inl, IfOk, [], length, map, refl, sym, ap, ◌∙◌, subst}
use Rattle.busdma_base.specs.declared.journals.journal.Side.{Side}
use Rattle.busdma_base.specs.declared.journals.journal.Side.TheVariants as side
use Rattle.lane_state.specs.Ideal.{ideal_of}
use Rattle.lane_state.specs.Kept.{return_of}
use Rattle.lane_turns.specs.TakenTurns.{IsTurnOf, MayWant}
use Rattle.lane_state.proofs.Doors.{err-map, on-err}
use Rattle.lane_turns.proofs.MadeTurns.{made-ready}
use Rattle.lane_turns.proofs.Providing.{length-after, made-script, ready-after, same-room, transfer-all}
use Rattle.lane_turns.proofs.SmallLoads.{small-same}
use Rattle.lane_turns.proofs.turns.take_turn.Goals as goal

pub returns-in-Script-clause-made : goal.returns-in-Script-clause-made
returns-in-Script-clause-made g c =
    subst (λ (s : Side). IfOk c.script_turn.result (IsTurnOf c.args.holdings.now c.script_turn.new.holdings
    (g.D.HubDoor.seen c.args.door.now) (g.D.HubDoor.seen c.script_turn.new.door) s)) (sym c.in-Script.is)
    c.script_turn.ensures.made

pub returns-in-Script-clause-ready : goal.returns-in-Script-clause-ready
returns-in-Script-clause-ready g c =
    let r = c.script_turn.ensures in
    ready-after c.args.holdings.now c.script_turn.new.holdings (g.D.HubDoor.seen c.args.door.now)
    (g.D.HubDoor.seen c.script_turn.new.door) side.Script c.requires.ready c.script_turn.result r.made r.err r.room
    r.undone

pub returns-in-Script-clause-length : goal.returns-in-Script-clause-length
returns-in-Script-clause-length g c =
    let r = c.script_turn.ensures in
    length-after c.args.holdings.now c.script_turn.new.holdings (g.D.HubDoor.seen c.args.door.now)
    (g.D.HubDoor.seen c.script_turn.new.door) side.Script c.requires.ready c.script_turn.result r.made r.err r.places
    c.requires.length

pub returns-in-Transfer-clause-made : goal.returns-in-Transfer-clause-made
returns-in-Transfer-clause-made g c =
    let h = c.args.holdings.now in
    let k = c.transfer_turn.new.holdings in
    let d = g.D.HubDoor.seen c.args.door.now in
    let r = c.transfer_turn.ensures in
    subst (λ (s : Side). IfOk c.transfer_turn.result (IsTurnOf h k d d s)) (sym c.in-Transfer.is)
    (transfer-all h k d c.transfer_turn.result r.done r.unheld r.wire r.memories r.agenda.end r.agenda.capacity)

pub returns-in-Transfer-clause-undone : goal.returns-in-Transfer-clause-undone
returns-in-Transfer-clause-undone g c = on-err c.transfer_turn.result (inl refl)

pub returns-in-Transfer-clause-ready : goal.returns-in-Transfer-clause-ready
returns-in-Transfer-clause-ready g c =
    let h = c.args.holdings.now in
    let k = c.transfer_turn.new.holdings in
    let d = g.D.HubDoor.seen c.args.door.now in
    let r = c.transfer_turn.ensures in
    ready-after h k d d side.Transfer c.requires.ready c.transfer_turn.result
    (transfer-all h k d c.transfer_turn.result r.done r.unheld r.wire r.memories r.agenda.end r.agenda.capacity) r.err
    (err-map c.transfer_turn.result (λ s. same-room h k s r.agenda.capacity) r.err)
    (on-err c.transfer_turn.result (inl refl))

pub returns-in-Transfer-clause-small : goal.returns-in-Transfer-clause-small
returns-in-Transfer-clause-small g c =
    let r = c.transfer_turn.ensures in
    small-same c.args.holdings.now c.requires.small c.transfer_turn.new.holdings r.script r.agenda.place
    r.resend r.promised r.due

pub returns-in-Transfer-clause-length : goal.returns-in-Transfer-clause-length
returns-in-Transfer-clause-length g c =
    let r = c.transfer_turn.ensures in
    r.agenda.end ∙ c.requires.length ∙ sym (ap length r.script)

pub returns-in-Callback-clause-made : goal.returns-in-Callback-clause-made
returns-in-Callback-clause-made g c =
    subst (λ (s : Side). IsTurnOf c.args.holdings.now c.call_back.new.holdings (g.D.HubDoor.seen c.args.door.now)
    (g.D.HubDoor.seen c.call_back.new.door) s c.call_back.result) (sym c.in-Callback.is) c.call_back.ensures.made

pub returns-in-Callback-clause-ready : goal.returns-in-Callback-clause-ready
returns-in-Callback-clause-ready g c =
    made-ready c.args.holdings.now c.call_back.new.holdings (g.D.HubDoor.seen c.args.door.now)
    (g.D.HubDoor.seen c.call_back.new.door) side.Callback c.call_back.result c.requires.ready c.call_back.ensures.made

pub returns-in-Callback-clause-length : goal.returns-in-Callback-clause-length
returns-in-Callback-clause-length g c =
    let script =
    made-script c.args.holdings.now c.call_back.new.holdings (g.D.HubDoor.seen c.args.door.now)
    (g.D.HubDoor.seen c.call_back.new.door) side.Callback c.call_back.result c.requires.ready
    c.call_back.ensures.made in
    c.call_back.ensures.made.places ∙ c.requires.length ∙ sym (ap length script)

pub returns-in-Script-clause-wanting : goal.returns-in-Script-clause-wanting
returns-in-Script-clause-wanting g c =
    let l = ideal_of c.args.holdings.now in
    err-map c.script_turn.result
    (λ (none : c.args.holdings.now.agenda.returns ≡ []). subst (MayWant l) (sym c.in-Script.is)
    (ap (map return_of) none))
    c.script_turn.ensures.wanting

pub returns-in-Transfer-clause-wanting : goal.returns-in-Transfer-clause-wanting
returns-in-Transfer-clause-wanting g c =
    on-err c.transfer_turn.result (subst (MayWant (ideal_of c.args.holdings.now)) (sym c.in-Transfer.is) tt)
