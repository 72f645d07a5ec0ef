-- How many steps a storm's script has, and how many bytes it loads and reads.
use Rattle.std.proofs.Common.{◌≡◌, ℕ, zero, suc, ◌+◌, ◌*◌, ◌≤◌, List}
use Rattle.std.proofs.Common.{[], ◌∷◌, ◌++◌, length, sum_by, refl, ap, arith}
use Rattle.std.proofs.Math.Nat.{mul-suc}
use Rattle.std.proofs.lemmas.List.{length-append}
use Rattle.std.proofs.lemmas.List.Sums.{sum_by-append}
use Rattle.std.specs.List.{flat_map}
use Rattle.busdma_base.specs.declared.scenarios.script.Op.{Op}
use Rattle.busdma_machine.specs.Runs.{run_of}
use Rattle.busdma_base.specs.Scenarios.Operations.{items_of, loaded_by, read_by}
use Rattle.busdma_base.specs.Scenarios.Script.{steps_of}
use Rattle.program_rules.specs.Storms.Scenario.{round_at, storm_rounds, storm_setup}
use Rattle.storm.proofs.SmallTransfers.{round_cases}

-- the sums over rounds
length_run : (a n : ℕ) → length (run_of a n) ≡ n
length_run a zero = refl
length_run a (suc n) = ap suc (length_run (a + 1) n)

sum_at_most : (f : Op → ℕ) (g : ℕ → List Op) (b : ℕ) → ((r : ℕ) → sum_by f (g r) ≤ b) → (rs : List ℕ) →
    sum_by f (flat_map g rs) ≤ b * length rs
sum_at_most f g b each [] = omega arith
sum_at_most f g b each (r ∷ rs) =
    let more : sum_by f (flat_map g rs) ≤ b * length rs = sum_at_most f g b each rs in
    let here : sum_by f (g r) ≤ b = each r in
    rw sum_by-append (omega (arith, mul-suc b (length rs)))

sum_is : (f : Op → ℕ) (g : ℕ → List Op) (b : ℕ) → ((r : ℕ) → sum_by f (g r) ≡ b) → (rs : List ℕ) →
    sum_by f (flat_map g rs) ≡ b * length rs
sum_is f g b each [] = omega arith
sum_is f g b each (r ∷ rs) =
    let more : sum_by f (flat_map g rs) ≡ b * length rs = sum_is f g b each rs in
    let here : sum_by f (g r) ≡ b = each r in
    rw sum_by-append (omega (arith, mul-suc b (length rs)))

length_is : (g : ℕ → List Op) (b : ℕ) → ((r : ℕ) → length (g r) ≡ b) → (rs : List ℕ) →
    length (flat_map g rs) ≡ b * length rs
length_is g b each [] = omega arith
length_is g b each (r ∷ rs) =
    let more : length (flat_map g rs) ≡ b * length rs = length_is g b each rs in
    let here : length (g r) ≡ b = each r in
    rw length-append (omega (arith, mul-suc b (length rs)))

-- how many bytes the rounds of a driver load
pub loaded_by_rounds : (n x : ℕ) → sum_by loaded_by (storm_setup ++ storm_rounds n x) ≤ 8192 * n
loaded_by_rounds n x =
    let each : sum_by loaded_by (storm_rounds n x) ≤ 8192 * length (run_of 0 n) =
    sum_at_most loaded_by (round_at x) 8192
    (λ r. round_cases (λ ops. sum_by loaded_by ops ≤ 8192) (λ t small. omega (arith, small.short))
    (λ t small. omega (arith, small.short)) _ _)
    (run_of 0 n) in
    omega (arith, length_run 0 n)

-- how many bytes the rounds of a driver read
pub read_by_rounds : (n x : ℕ) → sum_by read_by (storm_setup ++ storm_rounds n x) ≤ 64 * n
read_by_rounds n x =
    let each : sum_by read_by (storm_rounds n x) ≤ 64 * length (run_of 0 n) =
    sum_at_most read_by (round_at x) 64
    (λ r. round_cases (λ ops. sum_by read_by ops ≤ 64) (λ t small. omega (arith, small.few))
    (λ t small. omega (arith, small.few)) _ _)
    (run_of 0 n) in
    omega (arith, length_run 0 n)

-- a round has four operations and three items
pub steps_of_rounds : (n x : ℕ) → steps_of (storm_setup ++ storm_rounds n x) ≡ 3 + 7 * n
steps_of_rounds n x =
    let ops : length (storm_rounds n x) ≡ 4 * length (run_of 0 n) =
    length_is (round_at x) 4
    (λ r. round_cases (λ ops. length ops ≡ 4) (λ t small. refl) (λ t small. refl) _ _) (run_of 0 n) in
    let items : sum_by (λ o. length (items_of o)) (storm_rounds n x) ≡ 3 * length (run_of 0 n) =
    sum_is (λ o. length (items_of o)) (round_at x) 3
    (λ r. round_cases (λ ops. sum_by (λ o. length (items_of o)) ops ≡ 3) (λ t small. refl) (λ t small. refl) _ _)
    (run_of 0 n) in
    omega (arith, length_run 0 n)
