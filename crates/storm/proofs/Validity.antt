-- A storm is a valid scenario.
use Rattle.std.proofs.Common.{◌≡◌, ℕ, ◌+◌, ◌*◌, ◌≤◌, true, false, List}
use Rattle.std.proofs.Common.{[], ◌++◌, sum_by, map, refl, arith}
use Rattle.std.specs.List.{AllByRecursion}
use Rattle.busdma_base.specs.declared.scenarios.scenario.Driver.{Driver}
use Rattle.busdma_machine.specs.Each.{EachAfter}
use Rattle.busdma_base.specs.Scenarios.PageRuns.{IsPageRun, all_in, is_taken}
use Rattle.busdma_machine.specs.Runs.{run_of}
use Rattle.busdma_base.specs.Scenarios.Operations.{loaded_by, read_by}
use Rattle.busdma_base.specs.Scenarios.Script.{IsScript, steps_of}
use Rattle.busdma_base.specs.Scenarios.Valid.{IsDriver, IsValid, loaded_of, read_of}
use Rattle.program_rules.specs.Storms.Generator.{drawn}
use Rattle.program_rules.specs.Storms.Scenario.{storm_rounds, storm_setup, pages}
use Rattle.program_rules.specs.Storms.Scenario.{frames, driver, driver_after, storm_scenario}
use Rattle.storm.proofs.EachOp.{each_loads_from, each_valid}
use Rattle.storm.proofs.Totals.{loaded_by_rounds, read_by_rounds, steps_of_rounds}

script_valid : (n x : ℕ) → n ≤ 256 → IsScript (storm_setup ++ storm_rounds n x)
script_valid n x few = record { each = each_valid n x; short = omega (arith, steps_of_rounds n x) }

-- a driver is valid after others if its pages are its own
driver_valid : (number n x : ℕ) → n ≤ 256 → (earlier : List Driver) →
    EachAfter (IsPageRun frames earlier) [] (pages number) → IsDriver frames earlier (driver_after number n x)
driver_valid number n x few earlier own =
    record { pages = own; script = script_valid n x few; bios = each_loads_from (pages number) n x }

-- the pages of a driver whose frames no earlier driver has
own_pages : (earlier : List Driver) (number : ℕ) → 4096 + 16 * number + 16 ≤ 4160 →
    all_in frames (4096 + 16 * number) 16 ≡ true →
    is_taken (record { va = record { 0 = 0x100000 }; frame = 4096 + 16 * number; count = 16 }) earlier ≡ false →
    EachAfter (IsPageRun frames earlier) [] (pages number)
own_pages earlier number low there untaken = (
  record {
    some = omega arith;
    aligned = refl;
    low = omega arith;
    there = there;
    untaken = untaken;
    own_frames = refl;
    own_pages = refl;
  },
  tt,
)

drivers_valid : (n seed : ℕ) → n ≤ 256 → EachAfter (IsDriver frames) [] (storm_scenario n seed).drivers
drivers_valid n seed few = (
  driver_valid 0 n _ few [] (own_pages [] 0 (omega arith) refl refl),
  (
    driver_valid 1 n _ few _ (own_pages _ 1 (omega arith) refl refl),
    (
      driver_valid 2 n _ few _ (own_pages _ 2 (omega arith) refl refl),
      (driver_valid 3 n _ few _ (own_pages _ 3 (omega arith) refl refl), tt),
    ),
  ),
)

loaded_at : (n seed number : ℕ) → sum_by loaded_by (driver n seed number).script ≤ 8192 * n
loaded_at n seed number = loaded_by_rounds n (drawn (2 * n * number) seed)

read_at : (n seed number : ℕ) → sum_by read_by (driver n seed number).script ≤ 64 * n
read_at n seed number = read_by_rounds n (drawn (2 * n * number) seed)

four_at_most : (f : Driver → ℕ) (g : ℕ → Driver) (b : ℕ) → ((i : ℕ) → f (g i) ≤ b) →
    sum_by f (map g (run_of 0 4)) ≤ 4 * b
four_at_most f g b each =
    let first : f (g 0) ≤ b = each 0 in
    let second : f (g 1) ≤ b = each 1 in
    let third : f (g 2) ≤ b = each 2 in
    let fourth : f (g 3) ≤ b = each 3 in
    omega arith

pub storm_valid : (n seed : ℕ) → n ≤ 256 → IsValid (storm_scenario n seed)
storm_valid n seed few =
    let loads : loaded_of (storm_scenario n seed).drivers ≤ 4 * (8192 * n) =
    four_at_most (λ d. sum_by loaded_by d.script) (driver n seed) (8192 * n) (loaded_at n seed) in
    let reads : read_of (storm_scenario n seed).drivers ≤ 4 * (64 * n) =
    four_at_most (λ d. sum_by read_by d.script) (driver n seed) (64 * n) (read_at n seed) in
    record {
      frames = (
        record { some = omega arith; numbered = omega arith; few = omega arith; apart = refl },
        (record { some = omega arith; numbered = omega arith; few = omega arith; apart = refl }, tt),
      );
      some_bpages = omega arith;
      few_bpages = omega arith;
      few_drivers = omega arith;
      drivers = drivers_valid n seed few;
      loaded = omega arith;
      read = omega arith;
      short_order = omega arith;
      order = tt;
    }

pub each_has_steps : (n seed : ℕ) →
    AllByRecursion (λ (d : Driver). steps_of d.script ≡ 3 + 7 * n) (storm_scenario n seed).drivers
each_has_steps n seed = (
  steps_of_rounds n (drawn (2 * n * 0) seed),
  (
    steps_of_rounds n (drawn (2 * n * 1) seed),
    (
      steps_of_rounds n (drawn (2 * n * 2) seed),
      (steps_of_rounds n (drawn (2 * n * 3) seed), tt),
    ),
  ),
)
