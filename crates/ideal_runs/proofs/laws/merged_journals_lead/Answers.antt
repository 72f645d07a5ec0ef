use Rattle.ideal_runs.proofs.Leading.{merged-leads}
use Rattle.ideal_runs.proofs.laws.merged_journals_lead.Goals as goal

pub returns : goal.returns
returns c = λ a history logs firsts lasts numbers sound all. merged-leads a history logs firsts lasts numbers sound all
