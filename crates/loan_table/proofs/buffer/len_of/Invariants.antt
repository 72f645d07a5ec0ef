use Rattle.std.proofs.Common.{◌≡◌, ◌+◌, drop}
use Rattle.busdma_machine.specs.Runs.{byte_count}
use Rattle.loan_table.proofs.buffer.len_of.Given as goal

abbrev pub invariant-loop-extent : goal.invariant-loop-extent
invariant-loop-extent l = l.len + byte_count (drop l.extent-index l.extents) ≡ byte_count l.extents
