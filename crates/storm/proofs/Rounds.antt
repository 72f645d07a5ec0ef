-- The rounds of a driver, and the drivers of a storm, one after the other.
use Rattle.std.proofs.Common.{◌≡◌, ℕ, zero, suc, ◌+◌, ◌*◌, ◌-◌, ◌<◌, List, [], ◌∷◌, ◌++◌, map, ap, arith}
use Rattle.std.proofs.Common.{append_assoc}
use Rattle.std.specs.List.{flat_map}
use Rattle.busdma_base.specs.declared.scenarios.script.Op.{Op}
use Rattle.busdma_base.specs.declared.scenarios.scenario.Driver.{Driver}
use Rattle.busdma_machine.specs.Runs.{run_of}
use Rattle.program_rules.specs.Storms.Generator.{next, drawn}
use Rattle.program_rules.specs.Storms.Scenario.{round_at, round_after, driver, driver_after}

-- the numbers from i up to n are i and those from the next on
pub run_of_next : (i n : ℕ) → i < n → run_of i (n - i) ≡ i ∷ run_of (i + 1) (n - (i + 1))
run_of_next i n h =
    let e : n - i ≡ suc (n - (i + 1)) = omega arith in
    rw e

-- two more numbers are drawn in a round
pub drawn_more : (x last i : ℕ) → last ≡ drawn (2 * i) x → next (next last) ≡ drawn (2 * (i + 1)) x
drawn_more x last i h =
    let e : 2 * (i + 1) ≡ suc (suc (2 * i)) = omega arith in
    rw (e, h)

-- a round is appended
pub round_appended : (before after all : List Op) (x last i n : ℕ) → i < n → last ≡ drawn (2 * i) x →
    before ++ flat_map (round_at x) (run_of i (n - i)) ≡ all → after ≡ before ++ round_after last →
    after ++ flat_map (round_at x) (run_of (i + 1) (n - (i + 1))) ≡ all
round_appended before after all x last i n less is_last sofar appended =
    let more = rw (run_of_next i n less) at sofar in
    rw (appended, is_last, append_assoc) more

-- numbers that are drawn after others
pub drawn_add : (j k x : ℕ) → drawn j (drawn k x) ≡ drawn (j + k) x
drawn_add zero k x =
    let e : 0 + k ≡ k = omega arith in
    rw e
drawn_add (suc j) k x =
    let e : suc j + k ≡ suc (j + k) = omega arith in
    rw e (ap next (drawn_add j k x))

-- a driver draws two numbers in each round
pub drawn_by_driver : (n seed last i : ℕ) → last ≡ drawn (2 * n * i) seed →
    drawn (2 * n) last ≡ drawn (2 * n * (i + 1)) seed
drawn_by_driver n seed last i h =
    let e : 2 * n * (i + 1) ≡ 2 * n + 2 * n * i = grind arith in
    rw (e, h, drawn_add (2 * n) (2 * n * i) seed)

-- a driver is appended
pub driver_appended : (before after all : List Driver) (d : Driver) (n seed last i : ℕ) → i < 4 →
    last ≡ drawn (2 * n * i) seed → before ++ map (driver n seed) (run_of i (4 - i)) ≡ all →
    d ≡ driver_after i n last → after ≡ before ++ d ∷ [] →
    after ++ map (driver n seed) (run_of (i + 1) (4 - (i + 1))) ≡ all
driver_appended before after all d n seed last i less is_last sofar is_next appended =
    let more = rw (run_of_next i 4 less) at sofar in
    rw (appended, is_next, is_last, append_assoc) more
