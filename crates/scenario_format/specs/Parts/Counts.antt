-- What is counted for the limits: the steps of a script, and the bytes that all scripts read and load.
use Rattle.std.specs.Prelude.{ℕ, ◌+◌, List, length, sum_by, Ok, if◌then◌else◌, nat_lt, ⊤}
use Rattle.busdma_base.specs.declared.scenarios.script.Op.{Op}
use Rattle.busdma_base.specs.declared.scenarios.script.Item.{Item}
use Rattle.busdma_base.specs.declared.scenarios.scenario.Driver.{Driver}
use Rattle.busdma_base.specs.Scenarios.Limits.{access_limit, steps_limit, reads_limit, buffer_limit, loaded_limit}
use Rattle.busdma_base.specs.Scenarios.Operations.{read_by, read_by_item, loaded_by}
use Rattle.busdma_base.specs.Scenarios.Script.{steps_of}
use Rattle.busdma_base.specs.Scenarios.Valid.{read_of, loaded_of}
use Rattle.scenario_format.specs.Json.DocumentPlaces.{DocumentPlace}
use Rattle.scenario_format.specs.Json.Read.{Read, ◌>>=◌, refuse}
use Rattle.scenario_format.specs.declared.refusal.RefusalKind.TheVariants.{Limit}
use Rattle.scenario_format.specs.declared.refusal.LimitName.TheVariants as limit
use Rattle.scenario_format.specs.declared.counts.Counts.{Counts}

-- the counts before the script of the driver that follows these
abbrev pub counts_after_drivers : List Driver → Counts
counts_after_drivers earlier = record { steps = 0; read = read_of earlier; loaded = loaded_of earlier }

-- the counts after these operations
abbrev pub with_ops : Counts → List Op → Counts
with_ops c ops =
    record {
      steps = c.steps + steps_of ops;
      read = c.read + sum_by read_by ops;
      loaded = c.loaded + sum_by loaded_by ops;
    }

-- the counts after these items
abbrev pub with_items : Counts → List Item → Counts
with_items c items =
    record { steps = c.steps + length items; read = c.read + sum_by read_by_item items; loaded = c.loaded }

-- the counts after n more steps
abbrev pub having_stepped : Counts → ℕ → Counts
having_stepped c n = record { steps = c.steps + n; read = c.read; loaded = c.loaded }

-- the counts after one more step
abbrev pub one_step_counted : Counts → Counts
one_step_counted c = having_stepped c 1

-- the counts after n more bytes that are loaded
abbrev pub having_loaded : Counts → ℕ → Counts
having_loaded c n = record { steps = c.steps; read = c.read; loaded = c.loaded + n }

-- n more steps of the script are refused if they pass the limit on a driver's steps
abbrev pub steps_judged : Counts → ℕ → DocumentPlace → Read ⊤
steps_judged c n place = if nat_lt steps_limit (c.steps + n) then refuse (Limit limit.Steps) place else Ok tt

-- an access of n bytes is refused if it passes the limit on one access
abbrev pub access_judged : ℕ → DocumentPlace → Read ⊤
access_judged n place = if nat_lt access_limit n then refuse (Limit limit.Access) place else Ok tt

-- a read of n bytes is refused if it passes the limit on one access or the limit on all reads
abbrev pub read_judged : Counts → ℕ → DocumentPlace → Read ⊤
read_judged c n place =
    access_judged n place >>= (λ _.
    if nat_lt reads_limit (c.read + n) then refuse (Limit limit.Reads) place else Ok tt)

-- a load of n bytes, which count as m for the limit on all loads, is refused if it passes the limit on one load or the
-- limit on all
abbrev pub load_counted : Counts → ℕ → ℕ → DocumentPlace → Read ⊤
load_counted c n m place =
    if nat_lt buffer_limit n then refuse (Limit limit.Buffer) place
    else (if nat_lt loaded_limit (c.loaded + m) then refuse (Limit limit.Loaded) place
    else Ok tt)
