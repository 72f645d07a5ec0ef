use Rattle.std.proofs.Common.{length}
use Rattle.busdma_machine.specs.Machine.PageList.{page_addresses}
use Rattle.lane_state.proofs.Called.{called-need, called-waits}
use Rattle.lane_turns.proofs.CallbackTurns.{called-made}
use Rattle.lane_turns.proofs.callbacks.call_back.Goals as goal

pub end_wait-answer-requires-clause-waits : goal.end_wait-answer-requires-clause-waits
end_wait-answer-requires-clause-waits g c =
    let h = c.args.holdings.now in
    let d = g.D.HubDoor.seen c.args.door.now in
    let e = g.D.HubDoor.seen c.take_callback.new.self in
    let called = c.in-Some.field-0 in
    (called-waits h d c.requires.ready.served called.map (page_addresses called.pages.items) e
    c.in-Some.ensures.held).waits

pub end_wait-answer-requires-clause-need : goal.end_wait-answer-requires-clause-need
end_wait-answer-requires-clause-need g c =
    let h = c.args.holdings.now in
    let d = g.D.HubDoor.seen c.args.door.now in
    let e = g.D.HubDoor.seen c.take_callback.new.self in
    let called = c.in-Some.field-0 in
    called-need h d c.requires.ready.served called.map called.pages.items e c.in-Some.ensures.held

pub returns-clause-made : goal.returns-clause-made
returns-clause-made g c =
    let h = c.args.holdings.now in
    let d = g.D.HubDoor.seen c.args.door.now in
    let e = g.D.HubDoor.seen c.take_callback.new.self in
    let called = c.in-Some.field-0 in
    let pages = page_addresses called.pages.items in
    let ended = c.end_wait-answer.ensures in
    called-made h c.end_wait-answer.new.holdings d e called.map pages (length pages) c.end_wait-answer.result
    c.in-Some.ensures.held (called-waits h d c.requires.ready.served called.map pages e c.in-Some.ensures.held)
    ended.done ended.bytes ended.memories ended.agenda.end ended.agenda.capacity c.stepped.result c.stepped.ensures
