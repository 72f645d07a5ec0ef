use Rattle.std.proofs.Common.{◌≡◌, ◌+◌, ◌≤◌, ◌==◌, ℕ, drop, length}
use Rattle.std.specs.List.{count_by}
use Rattle.run_set.specs.Counts.{count}
use Rattle.busdma_machine.specs.Runs.{addresses}
use Rattle.loan_table.proofs.buffer.places_over.Given as goal

abbrev pub invariant-loop-extent : goal.invariant-loop-extent
invariant-loop-extent l = record {
  counted : (a : ℕ) → count l.places a
      + count_by (λ b. b == a) (addresses (drop l.extent-index l.extents))
      ≡ count_by (λ b. b == a) (addresses l.extents);
  in_room : length l.extents ≤ l.places.room + l.extent-index;
}
