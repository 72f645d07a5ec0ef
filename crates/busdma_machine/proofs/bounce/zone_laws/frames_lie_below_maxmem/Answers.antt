use Rattle.busdma_machine.proofs.Accounts.EachFrame.{below-history, whole-history}
use Rattle.busdma_machine.proofs.bounce.zone_laws.frames_lie_below_maxmem.Goals as goal

pub returns-clause-history : goal.returns-clause-history
returns-clause-history c = below-history

pub returns-clause-whole : goal.returns-clause-whole
returns-clause-whole c = whole-history
