use Rattle.bus_dma.proofs.CallerLaws.{dev_read-step, dev_write-step, read-step, write-step}
use Rattle.bus_dma.proofs.laws.accesses_are_steps.Goals as goal

pub returns-clause-write : goal.returns-clause-write
returns-clause-write c = write-step

pub returns-clause-read : goal.returns-clause-read
returns-clause-read c = read-step

pub returns-clause-dev_read : goal.returns-clause-dev_read
returns-clause-dev_read c = dev_read-step

pub returns-clause-dev_write : goal.returns-clause-dev_write
returns-clause-dev_write c = dev_write-step
