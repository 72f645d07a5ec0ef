use Rattle.ideal_runs.proofs.Leading.{merged-legal}
use Rattle.ideal_runs.proofs.laws.merged_journals_are_legal.Goals as goal

pub returns : goal.returns
returns c = λ s history logs lasts sound all rest. merged-legal s history logs lasts sound all rest
