-- The place of a run among runs that rise.
use Rattle.std.specs.Prelude.{ℕ, suc, if◌then◌else◌, nat_le, List, [], ◌∷◌}
use Rattle.busdma_rules.specs.Iommu.Space.{DeviceRun, run_end}

-- how many of the runs, from the first on, end before a page
abbrev pub run_place : ℕ → List DeviceRun → ℕ
run_place p [] = 0
run_place p (r ∷ rs) = if nat_le (run_end r) p then suc (run_place p rs) else 0
