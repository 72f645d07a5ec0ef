-- A table of loans over all memory that a machine may have.
use Rattle.std.specs.Prelude.{ℕ, ◌+◌, ◌≤◌}
use Rattle.busdma_machine.specs.Runs.{run_of}
use Rattle.loan_table.specs.Table.{Table, AreIn}

-- each byte below an end is in the table
abbrev pub HasAll : ℕ → Table → Type 0
HasAll end t = (a k : ℕ) → a + k ≤ end → AreIn t.bytes (run_of a k)
