use Rattle.driver_laws.proofs.Accessing.{dev_read-is, read-is}
use Rattle.driver_laws.proofs.step_laws.reads_answer_memory.Goals as goal

pub returns-clause-cpu : goal.returns-clause-cpu
returns-clause-cpu c = λ l n place len vs s. let h = read-is l n place len vs s in (h.0, h.1)

pub returns-clause-dev : goal.returns-clause-dev
returns-clause-dev c = dev_read-is
