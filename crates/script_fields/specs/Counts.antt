-- The invariant of counts, and what one operation adds to them.
use Rattle.std.specs.Prelude.{◌≡◌, ℕ, ◌+◌, ◌≤◌, length, None}
use Rattle.busdma_base.specs.declared.scenarios.script.Op.{Op}
use Rattle.busdma_base.specs.Scenarios.Operations.{about, items_of, read_by, loaded_by}
use Rattle.scenario_format.specs.declared.counts.Counts.{Counts}
use Rattle.busdma_base.specs.Scenarios.Limits.{steps_limit, reads_limit, loaded_limit}

-- the counts after an operation whose own step was counted before
abbrev pub with_op : Counts → Op → Counts
with_op c o =
    record { steps = c.steps + length (items_of o); read = c.read + read_by o; loaded = c.loaded + loaded_by o }

-- the counts after n more bytes that are read
abbrev pub having_read : Counts → ℕ → Counts
having_read c n = record { steps = c.steps; read = c.read + n; loaded = c.loaded }

-- the counts keep the limits
pub record IsWithin (c : Counts) : Type 0 where
  pub steps : c.steps ≤ steps_limit
  pub read : c.read ≤ reads_limit
  pub loaded : c.loaded ≤ loaded_limit

-- an operation has no items, reads nothing and loads nothing
pub record IsQuiet (o : Op) : Type 0 where
  pub no_items : length (items_of o) ≡ 0
  pub reads_nothing : read_by o ≡ 0
  pub loads_nothing : (about o).loads ≡ None
