use Rattle.std.proofs.Common.{◌≡◌, ◌+◌, drop}
use Rattle.busdma_base.specs.Scenarios.Queues.{script_items}
use Rattle.lane_tables.proofs.agenda.script_items.Given as goal

-- what was counted and what is left to count make the total
abbrev pub invariant-loop-op : goal.invariant-loop-op
invariant-loop-op l = l.count + script_items (drop l.op-index l.script) ≡ script_items l.script
