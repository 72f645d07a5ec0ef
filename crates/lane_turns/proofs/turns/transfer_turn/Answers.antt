use Rattle.std.proofs.Common.{◌≡◌, ap, ◌∙◌, arith}
use Rattle.lane_state.specs.Changes.{KeepsPromises}
use Rattle.lane_state.specs.Covered.{pages_due}
use Rattle.lane_turns.proofs.Promises.{item-due, item-maps, maps-promise, state-promise}
use Rattle.lane_turns.proofs.Queueing.{back-agenda, item-agenda, item-back, item-done, item-wire}
use Rattle.lane_turns.proofs.Queueing.{queue-stands, queue-wired}
use Rattle.lane_turns.proofs.turns.transfer_turn.Goals as goal

pub transfer-requires-clause-wired : goal.transfer-requires-clause-wired
transfer-requires-clause-wired c =
    queue-wired c.args.holdings.now c.pop_item.new.holdings c.pop_item.ensures.rest c.pop_item.ensures.agenda
    c.requires.wired

pub transfer-requires-clause-stands : goal.transfer-requires-clause-stands
transfer-requires-clause-stands c =
    queue-stands c.args.holdings.now c.pop_item.new.holdings c.pop_item.ensures.rest c.pop_item.ensures.agenda
    c.requires.stands

pub returns-in-Ok-clause-done : goal.returns-in-Ok-clause-done
returns-in-Ok-clause-done c =
    let p = c.pop_item.ensures in
    item-done c.args.holdings.now c.pop_item.new.holdings c.transfer.new.holdings c.in-Some.queued
    c.in-Some.ensures.item p.rest
    p.agenda c.transfer.ensures.agenda c.in-Ok.answer c.stepped.result c.in-Ok.ensures.done c.stepped.ensures

pub returns-in-Ok-clause-wire : goal.returns-in-Ok-clause-wire
returns-in-Ok-clause-wire c =
    let p = c.pop_item.ensures in
    item-wire c.args.holdings.now c.pop_item.new.holdings c.transfer.new.holdings c.in-Some.queued
    c.in-Some.ensures.item p.rest
    p.agenda c.transfer.ensures.agenda c.in-Ok.ensures.wire

pub returns-in-Ok-clause-agenda : goal.returns-in-Ok-clause-agenda
returns-in-Ok-clause-agenda c =
    let p = c.pop_item.ensures in
    item-agenda c.args.holdings.now c.pop_item.new.holdings c.transfer.new.holdings c.in-Some.queued
    c.in-Some.ensures.item p.rest
    p.agenda c.transfer.ensures.agenda c.in-Some.ensures.room

pub put_item_back-requires : goal.put_item_back-requires
put_item_back-requires c = omega (arith, c.in-Some.ensures.room, ap (λ a. a.room) c.transfer.ensures.agenda)

pub returns-in-Err-clause-agenda : goal.returns-in-Err-clause-agenda
returns-in-Err-clause-agenda c =
    let p = c.pop_item.ensures in
    back-agenda c.args.holdings.now c.pop_item.new.holdings c.transfer.new.holdings c.in-Some.queued
    c.in-Some.ensures.item p.rest
    p.agenda c.transfer.ensures.agenda c.put_item_back.new.holdings c.in-Some.ensures.room
    c.put_item_back.ensures.agenda

pub returns-in-Err-clause-err : goal.returns-in-Err-clause-err
returns-in-Err-clause-err c =
    let p = c.pop_item.ensures in
    item-back c.args.holdings.now c.pop_item.new.holdings c.transfer.new.holdings c.in-Some.queued
    c.in-Some.ensures.item p.rest
    p.agenda c.transfer.ensures.agenda c.put_item_back.new.holdings c.in-Err.ensures.err c.put_item_back.ensures.rest
    c.put_item_back.ensures.agenda

pub returns-in-Ok-clause-due : goal.returns-in-Ok-clause-due
returns-in-Ok-clause-due c =
    let p = c.pop_item.ensures in
    let k = c.pop_item.new.holdings in
    let n = c.transfer.new.holdings in
    let same : n.agenda.promised ≡ k.agenda.promised = ap (λ a. a.promised) c.transfer.ensures.agenda in
    let kept : KeepsPromises k n =
    maps-promise k n same (item-maps k n c.in-Some.queued.item c.in-Ok.answer c.in-Ok.ensures.done) in
    omega (arith, kept, ap (λ a. a.promised) p.agenda, ap (λ t. pages_due t.map) p.rest.maps)

pub returns-in-Err-clause-due : goal.returns-in-Err-clause-due
returns-in-Err-clause-due c =
    let p = c.pop_item.ensures in
    let k = c.pop_item.new.holdings in
    let n = c.transfer.new.holdings in
    let back = c.put_item_back.ensures in
    let same : n.agenda.promised ≡ k.agenda.promised = ap (λ a. a.promised) c.transfer.ensures.agenda in
    let kept : KeepsPromises k n = state-promise k n same c.in-Err.ensures.err in
    omega (
      arith,
      kept,
      ap (λ a. a.promised) p.agenda,
      ap (λ t. pages_due t.map) p.rest.maps,
      ap (λ a. a.promised) back.agenda,
      ap (λ t. pages_due t.map) back.rest.maps,
    )

pub returns-in-Ok-clause-resend : goal.returns-in-Ok-clause-resend
returns-in-Ok-clause-resend c =
    item-due c.pop_item.new.holdings c.transfer.new.holdings c.in-Some.queued.item c.in-Ok.answer c.in-Ok.ensures.done
    ∙ c.pop_item.ensures.rest.most.due

pub returns-in-Err-clause-resend : goal.returns-in-Err-clause-resend
returns-in-Err-clause-resend c =
    c.put_item_back.ensures.rest.most.due ∙ ap (λ l. l.due) c.in-Err.ensures.err.ideal
    ∙ c.pop_item.ensures.rest.most.due
