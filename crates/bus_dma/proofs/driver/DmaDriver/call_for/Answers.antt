use Rattle.bus_dma.specs.Answers.{IsResult}
use Rattle.bus_dma.specs.State.{hindrance, state}
use Rattle.bus_dma.proofs.CallLaws.{call-answered}
use Rattle.bus_dma.proofs.driver.DmaDriver.call_for.Goals as goal

pub returns-clause-call : goal.returns-clause-call
returns-clause-call g c =
    let l = state c.args.self.now in
    call-answered (IsResult c.args.value) c.args.op (g.D.HubDoor.seen c.args.door.now) l (state c.call.new.self)
    (g.D.HubDoor.seen c.call.new.door) (hindrance c.args.on l) c.in_ok-answer.answer c.in_ok-answer.ensures.call
    c.unless_refused.result c.unless_refused.ensures
