use Rattle.ideal_laws.proofs.UsedSpaces.{journal-used, opens-used, step-used}
use Rattle.ideal_laws.proofs.space_laws.device_runs_are_loads.Goals as goal

pub returns-clause-opens : goal.returns-clause-opens
returns-clause-opens c = opens-used

pub returns-clause-stays : goal.returns-clause-stays
returns-clause-stays c = step-used

pub returns-clause-journal : goal.returns-clause-journal
returns-clause-journal c = journal-used
