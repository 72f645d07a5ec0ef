use Rattle.std.proofs.Common.{◌≡◌, ◌≤◌, [], length, sym, ap, ◌∙◌, subst}
use Rattle.busdma_base.specs.declared.journals.journal.Side.TheVariants as side
use Rattle.busdma_machine.specs.Bounce.Door.{Seen}
use Rattle.lane_state.specs.declared.holdings.Holdings.{Holdings}
use Rattle.lane_state.specs.Changes.{KeepsState}
use Rattle.lane_state.specs.Doing.{IsUndone}
use Rattle.lane_state.specs.SmallLoads.{HasSmallLoads}
use Rattle.lane_turns.specs.TakenTurns.{IsReady}
use Rattle.lane_state.proofs.Doors.{err-map, on-err}
use Rattle.lane_turns.proofs.Providing.{made-from}
use Rattle.lane_turns.proofs.SmallLoads.{small-same}
use Rattle.lane_turns.proofs.TurnEnds.{turn-may}
use Rattle.lane_turns.proofs.turns.script_turn.Goals as goal

pub return_turn-requires : goal.return_turn-requires
return_turn-requires g c =
    turn-may c.args.holdings.now side.Script (g.D.HubDoor.seen c.args.door.now) c.requires.ready.stands
    c.requires.ready.served

pub returns-in-Some-clause-places : goal.returns-in-Some-clause-places
returns-in-Some-clause-places g c = c.in-Some.ensures.made.places

pub returns-in-Some-clause-small : goal.returns-in-Some-clause-small
returns-in-Some-clause-small g c =
    let r = c.return_turn.ensures in
    small-same c.args.holdings.now c.requires.small c.return_turn.new.holdings r.script r.place r.resend
    r.promised r.due

pub due_turn-requires-clause-ready : goal.due_turn-requires-clause-ready
due_turn-requires-clause-ready g c =
    subst (λ (x : Holdings). IsReady x (g.D.HubDoor.seen c.return_turn.new.door)) (sym c.in-None.ensures.same)
    (subst (λ (y : Seen). IsReady c.args.holdings.now y) (sym c.in-None.ensures.unseen) c.requires.ready)

pub due_turn-requires-clause-small : goal.due_turn-requires-clause-small
due_turn-requires-clause-small g c =
    subst (λ (x : Holdings). HasSmallLoads x) (sym c.in-None.ensures.same) c.requires.small

pub due_turn-requires-clause-length : goal.due_turn-requires-clause-length
due_turn-requires-clause-length g c =
    subst (λ (x : Holdings). x.agenda.length ≡ length x.script) (sym c.in-None.ensures.same) c.requires.length

pub due_turn-requires-clause-empty : goal.due_turn-requires-clause-empty
due_turn-requires-clause-empty g c =
    subst (λ (x : Holdings). x.agenda.returns ≡ []) (sym c.in-None.ensures.same) c.in-None.ensures.empty

pub returns-in-None-clause-made : goal.returns-in-None-clause-made
returns-in-None-clause-made g c =
    made-from c.args.holdings.now c.return_turn.new.holdings c.due_turn.new.holdings (g.D.HubDoor.seen c.args.door.now)
    (g.D.HubDoor.seen c.return_turn.new.door) (g.D.HubDoor.seen c.due_turn.new.door) side.Script
    c.in-None.ensures.same c.in-None.ensures.unseen c.due_turn.result c.due_turn.ensures.made

pub returns-in-None-clause-err : goal.returns-in-None-clause-err
returns-in-None-clause-err g c =
    err-map c.due_turn.result
    (subst (λ (x : Holdings). KeepsState x c.due_turn.new.holdings) c.in-None.ensures.same)
    c.due_turn.ensures.err

pub returns-in-None-clause-undone : goal.returns-in-None-clause-undone
returns-in-None-clause-undone g c =
    err-map c.due_turn.result
    (subst (λ (y : Seen). IsUndone y (g.D.HubDoor.seen c.due_turn.new.door)) c.in-None.ensures.unseen)
    c.due_turn.ensures.undone

pub returns-in-None-clause-room : goal.returns-in-None-clause-room
returns-in-None-clause-room g c =
    err-map c.due_turn.result
    (subst (λ (x : Holdings). x.agenda.room ≤ c.due_turn.new.holdings.agenda.room) c.in-None.ensures.same)
    c.due_turn.ensures.room

pub returns-in-None-clause-places : goal.returns-in-None-clause-places
returns-in-None-clause-places g c =
    c.due_turn.ensures.places ∙ ap (λ (x : Holdings). x.agenda.length) c.in-None.ensures.same

pub returns-in-None-clause-wanting : goal.returns-in-None-clause-wanting
returns-in-None-clause-wanting g c = on-err c.due_turn.result c.in-None.ensures.empty
