use Rattle.std.proofs.Common.{None}
use Rattle.busdma_base.specs.declared.scenarios.script.Op.TheVariants.{CpuRead}
use Rattle.ideal_lane.specs.Accesses.{cpu_read}
use Rattle.lane_core.specs.Appending.{with_next}
use Rattle.bus_dma.specs.Answers.{IsReadAnswer}
use Rattle.bus_dma.specs.State.{hindrance, state}
use Rattle.bus_dma.proofs.AnswerLaws.{answer-by, read-answers}
use Rattle.bus_dma.proofs.CallLaws.{call-answer}
use Rattle.bus_dma.proofs.driver.DmaDriver.cpu_read.Goals as goal

pub read-requires : goal.read-requires
read-requires g c =
    let l = state c.args.self.now in
    let place = c.args.place in
    let len = c.args.len in
    let next = with_next (CpuRead place len) l in
    call-answer (CpuRead place len) (g.D.HubDoor.seen c.args.door.now) l (state c.call.new.self)
    (g.D.HubDoor.seen c.call.new.door) IsReadAnswer
    (answer-by next IsReadAnswer (cpu_read place len next) (read-answers next place len)) (hindrance None l)
    c.in_ok-answer.answer c.in_ok-answer.ensures.call
