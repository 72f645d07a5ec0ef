use Rattle.busdma_base.proofs.OpeningLaws.{opening-may_begin, below-opening}
use Rattle.busdma_base.proofs.scenarios.opening_laws.scenario_opens.Goals as goal

pub returns-clause-may_begin : goal.returns-clause-may_begin
returns-clause-may_begin c = opening-may_begin

pub returns-clause-below_maxmem : goal.returns-clause-below_maxmem
returns-clause-below_maxmem c = below-opening
