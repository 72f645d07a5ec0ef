use Rattle.std.proofs.Common.{Ok, Some, ap}
use Rattle.busdma_base.specs.declared.scenarios.script.Op.TheVariants.{Unload}
use Rattle.bus_dma.specs.Answers.{IsAnswer, IsResult}
use Rattle.bus_dma.specs.State.{hindrance, state}
use Rattle.bus_dma.proofs.CallLaws.{call-renamed, return-answered}
use Rattle.bus_dma.proofs.driver.DmaDriver.unload.Goals as goal

pub returns-clause-call : goal.returns-clause-call
returns-clause-call g c =
    let l = state c.args.self.now in
    let d = g.D.HubDoor.seen c.args.door.now in
    let n = state c.call.new.self in
    let e = g.D.HubDoor.seen c.call.new.door in
    let call = call-renamed IsAnswer d l n e (Ok c.in_ok-answer.answer) (ap (λ q. hindrance (Some q) l) c.id-2.ensures)
    (ap (λ q. Unload q.made_at) c.id.ensures) c.in_ok-answer.ensures.call in
    return-answered (IsResult tt) (Unload c.args.map.made_at) d l n e (hindrance (Some c.args.map) l)
    c.in_ok-answer.answer call (state c.give_back.new.self) (g.D.HubDoor.seen c.give_back.new.door)
    c.give_back.ensures.returned c.give_back.ensures.ready c.unless_refused.result c.unless_refused.ensures
