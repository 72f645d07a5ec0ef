use Rattle.ideal_laws.proofs.UsedSpaces.{page-held, page-own}
use Rattle.ideal_laws.proofs.space_laws.device_pages_are_isolated.Goals as goal

pub returns-clause-held : goal.returns-clause-held
returns-clause-held c = page-held

pub returns-clause-own : goal.returns-clause-own
returns-clause-own c = page-own
