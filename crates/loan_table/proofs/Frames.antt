-- Runs of bytes across frames.
use Rattle.std.proofs.Common.{◌≡◌, ℕ, zero, suc, ◌+◌, ◌-◌, ◌<◌, ◌≤◌, ◌/◌, ◌%◌, Bool, true, false, cond}
use Rattle.std.proofs.Common.{List, ◌++◌, refl, sym, ap, ◌∙◌, arith}
use Rattle.std.proofs.lemmas.Bool.Decides.{nat_tests}
use Rattle.busdma_machine.specs.Runs.{run_of}
use Rattle.loan_table.specs.Table.{extent_count, is_next, more_extents}

-- a byte and the next one
frame_ends : (a : ℕ) → is_next a (a + 1) ≡ true → (a + 1) / 4096 ≡ a / 4096
frame_ends a h = let some : 0 < (a + 1) % 4096 = grind arith in omega arith

frame_begins : (a : ℕ) → is_next a (a + 1) ≡ false → (a + 1) / 4096 ≡ a / 4096 + 1
frame_begins a h = let none : (a + 1) % 4096 ≡ 0 = grind (arith, nat_tests) in omega arith

-- how many extents begin in a run after its first byte: as many as frames
pub more_in_run : (a n : ℕ) → more_extents a (run_of (a + 1) n) ≡ (a + n) / 4096 - a / 4096
more_in_run a zero = omega arith
more_in_run a (suc n) =
    let later : more_extents (a + 1) (run_of (a + 1 + 1) n) ≡ (a + 1 + n) / 4096 - (a + 1) / 4096 =
    more_in_run (a + 1) n in
    by (is_next a (a + 1)) refl later
  where
    by : (b : Bool) → is_next a (a + 1) ≡ b →
        more_extents (a + 1) (run_of (a + 1 + 1) n) ≡ (a + 1 + n) / 4096 - (a + 1) / 4096 →
        cond b 0 1 + more_extents (a + 1) (run_of (a + 1 + 1) n) ≡ (a + suc n) / 4096 - a / 4096
    by true e later = let same = frame_ends a e in omega (arith, later, same)
    by false e later = let next = frame_begins a e in omega (arith, later, next)

pub more_of_run : (before a n : ℕ) → 0 < n →
    more_extents before (run_of a n) ≡ cond (is_next before a) 0 1 + ((a + n - 1) / 4096 - a / 4096)
more_of_run before a zero some = absurd (omega arith)
more_of_run before a (suc n) some =
    let last : a + suc n - 1 ≡ a + n = omega arith in
    ap (λ k. cond (is_next before a) 0 1 + k) (more_in_run a n)
    ∙ ap (λ k. cond (is_next before a) 0 1 + (k / 4096 - a / 4096)) (sym last)

-- extents that begin in a run, and after it
pub more_behind : (before a n : ℕ) (rest : List ℕ) → 0 < n →
    more_extents before (run_of a n ++ rest) ≡ more_extents before (run_of a n) + more_extents (a + n - 1) rest
more_behind before a zero rest some = absurd (omega arith)
more_behind before a (suc zero) rest some =
    let last : a + 1 - 1 ≡ a = omega arith in
    let here : more_extents (a + 1 - 1) rest ≡ more_extents a rest = ap (λ k. more_extents k rest) last in
    omega (arith, here)
more_behind before a (suc (suc n)) rest some =
    let last : a + 1 + suc n - 1 ≡ a + suc (suc n) - 1 = omega arith in
    let later = more_behind a (a + 1) (suc n) rest (omega arith) in
    let same = ap (λ k. more_extents k rest) last in
    omega (arith, later, same)

-- the first byte of a run begins an extent
pub count_from : (a n : ℕ) (rest : List ℕ) → 0 < n →
    more_extents a (run_of a n ++ rest) ≡ extent_count (run_of a n ++ rest)
count_from a zero rest some = absurd (omega arith)
count_from a (suc n) rest some =
    ap (λ b. cond b 0 1 + more_extents a (run_of (a + 1) n ++ rest))
    (let e : is_next a a ≡ false = grind (arith, nat_tests) in e)

-- a run of one frame, first or after other bytes
module _ (a n : ℕ) (rest : List ℕ) (some : 0 < n) (one : a % 4096 + n ≤ 4096) where
  pub extents_more : (before : ℕ) →
      more_extents before (run_of a n ++ rest) ≡ cond (is_next before a) 0 1 + more_extents (a + n - 1) rest
  extents_more before =
      let same : (a + n - 1) / 4096 - a / 4096 ≡ 0 = omega arith in
      more_behind before a n rest some
      ∙ ap (λ k. k + more_extents (a + n - 1) rest) (more_of_run before a n some)
      ∙ ap (λ k. cond (is_next before a) 0 1 + k + more_extents (a + n - 1) rest) same ∙ (omega arith)

  pub extents_first : extent_count (run_of a n ++ rest) ≡ 1 + more_extents (a + n - 1) rest
  extents_first =
      sym (count_from a n rest some) ∙ extents_more a
      ∙ ap (λ b. cond b 0 1 + more_extents (a + n - 1) rest)
      (let e : is_next a a ≡ false = grind (arith, nat_tests) in e)
