use Rattle.driver_laws.proofs.Accessing.{dev_write-is, write-is}
use Rattle.driver_laws.proofs.Transfers.{write-kept}
use Rattle.driver_laws.proofs.step_laws.writes_are_kept.Goals as goal

pub returns-clause-cpu : goal.returns-clause-cpu
returns-clause-cpu c = λ l n place vs s. (write-is l n place vs s).0

pub returns-clause-dev : goal.returns-clause-dev
returns-clause-dev c = dev_write-is

pub returns-clause-kept : goal.returns-clause-kept
returns-clause-kept c = write-kept
