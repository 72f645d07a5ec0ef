use Rattle.lane_core.specs.LaneIdeal.{given}
use Rattle.bus_dma.specs.State.{state}
use Rattle.bus_dma.proofs.AnswerLaws.{dev_write-serves}
use Rattle.bus_dma.proofs.driver.DmaDriver.dev_write.Goals as goal

pub returns-clause-served : goal.returns-clause-served
returns-clause-served c =
    λ d. dev_write-serves (state c.args.self.now) d c.id.result c.args.off c.args.bytes.now
    (given c.dev_write.new.self c.in_ok-answer.answer) c.in_ok-answer.ensures.done
