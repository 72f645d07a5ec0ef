use Rattle.std.proofs.Common.{◌≡◌, ◌<◌, ◌^◌, drop}
use Rattle.scenario_format.specs.Scenarios.Order.{number_after}
use Rattle.scenario_read.proofs.order.digits.Given as goal

abbrev pub invariant-loop-b : goal.invariant-loop-b
invariant-loop-b l =
    (number_after l.number (drop l.b-index l.bytes) ≡ number_after 0 l.bytes) × (l.number < 10 ^ l.b-index)
