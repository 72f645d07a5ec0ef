use Rattle.bus_dma.proofs.CallerLaws.{range-step, sync-step}
use Rattle.bus_dma.proofs.laws.syncs_are_steps.Goals as goal

pub returns-clause-all : goal.returns-clause-all
returns-clause-all c = sync-step

pub returns-clause-range : goal.returns-clause-range
returns-clause-range c = range-step
