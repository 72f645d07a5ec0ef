use Rattle.std.proofs.Common.{◌≡◌, ℕ, ◌+◌, ◌≤◌, drop, if◌then◌else◌, false}
use Rattle.busdma_machine.specs.Runs.{addresses}
use Rattle.run_set.specs.Counts.{count}
use Rattle.loan_table.specs.Rows.{stands}
use Rattle.loan_table.proofs.lent.count_extents.Given as goal

abbrev pub invariant-loop-extent : goal.invariant-loop-extent
invariant-loop-extent l = record {
  counted : (a : ℕ) →
      let all = stands a (addresses l.extents) in
      let rest = stands a (addresses (drop l.extent-index l.extents)) in
      count l.counts a + (if l.up then 0 else all) + (if l.up then rest else 0)
      ≡ count l.initial.counts a + (if l.up then all else 0) + (if l.up then 0 else rest);
  held : l.up ≡ false → (a : ℕ) → stands a (addresses (drop l.extent-index l.extents)) ≤ count l.counts a;
  in_room : l.initial.counts.room ≤ l.counts.room + l.extent-index;
}
