use Rattle.ideal_runs.proofs.Ordering.{merged-ordered}
use Rattle.ideal_runs.proofs.laws.merged_journals_are_ordered.Goals as goal

pub returns : goal.returns
returns c = λ history logs firsts lasts numbers all. merged-ordered history logs firsts lasts numbers all
