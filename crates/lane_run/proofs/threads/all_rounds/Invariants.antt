use Rattle.std.proofs.Common.{◌≡◌, length}
use Rattle.lane_run.proofs.SeatedLaws.{Rounded}
use Rattle.lane_run.proofs.threads.all_rounds.Given as goal

abbrev pub invariant-loop : goal.invariant-loop
invariant-loop g l = (length l.workers ≡ length l.initial.workers) × Rounded l.initial.workers l.workers
