use Rattle.std.proofs.Common.{◌<◌, ℕ, slice_index_or}
use Rattle.busdma_machine.specs.declared.machine.address.Extent.{Extent}
use Rattle.loan_table.specs.Rows.{LiesFromTo}
use Rattle.loan_table.proofs.buffer.hull_of.Given as goal

abbrev pub invariant-loop-extent : goal.invariant-loop-extent
invariant-loop-extent l =
    (k : ℕ) (d : Extent) → k < l.extent-index → LiesFromTo l.first l.end (slice_index_or l.extents k d)
