use Rattle.ideal_runs.proofs.FromLogs.{from-logs-legal, from-logs-ordered}
use Rattle.ideal_runs.proofs.laws.runs_are_ordered.Goals as goal

pub returns-clause-legal : goal.returns-clause-legal
returns-clause-legal c = λ s j h. from-logs-legal s j h

pub returns-clause-ordered : goal.returns-clause-ordered
returns-clause-ordered c = λ s j h. from-logs-ordered s j h
