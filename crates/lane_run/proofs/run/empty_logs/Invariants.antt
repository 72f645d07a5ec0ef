use Rattle.std.proofs.Common.{◌≡◌, [], All, length}
use Rattle.lane_run.proofs.run.empty_logs.Given as goal

abbrev pub invariant-loop : goal.invariant-loop
invariant-loop l = record {
  count : length l.logs.items ≡ l.counter;
  empty : All (λ log. log.items ≡ []) l.logs.items;
}
