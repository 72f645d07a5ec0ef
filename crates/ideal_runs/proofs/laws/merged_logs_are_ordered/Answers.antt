use Rattle.ideal_runs.proofs.Ordering.{logs-ordered}
use Rattle.ideal_runs.proofs.laws.merged_logs_are_ordered.Goals as goal

pub returns : goal.returns
returns c = logs-ordered
