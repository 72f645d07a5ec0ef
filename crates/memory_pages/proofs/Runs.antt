-- Frames that follow one another.
use Rattle.std.proofs.Common.{◌≡◌, ℕ, suc, ◌+◌, ◌*◌, ◌/◌, ◌%◌, ◌<◌, ◌≤◌, Bool, true, false, cond, ◌||◌, List, []}
use Rattle.std.proofs.Common.{◌∷◌, length, get_or, refl, sym, ap, ◌∙◌, arith}
use Rattle.std.specs.Prelude.{nat_eq}
use Rattle.std.proofs.lemmas.Bool.Decides.{nat_tests}
use Rattle.busdma_machine.specs.Bounce.Door.{IsRow}
use Rattle.busdma_machine.specs.Bounce.MemoryRuns.{in_run, frames_from}

-- a row is determined by its first frame and its length
pub row_is : (xs : List ℕ) → IsRow xs → xs ≡ frames_from (length xs) (get_or xs 0 0)
row_is [] h = refl
row_is (f ∷ []) h = refl
row_is (f ∷ g ∷ fs) h =
    ap (λ ys. f ∷ ys) (row_is (g ∷ fs) h.1 ∙ ap (frames_from (suc (length fs))) h.0)

pub same_tests : (a b : Bool) → (a ≡ true → b ≡ true) → (b ≡ true → a ≡ true) → a ≡ b
same_tests true b f g = sym (f refl)
same_tests false true f g = g refl
same_tests false false f g = refl

-- what an `in_run` says
pub in_run_is : (base n a : ℕ) → base ≤ a → a < base + 4096 * n → in_run base n a ≡ true
in_run_is base n a lo hi = grind (arith, nat_tests)

pub in_run_lo : (base n a : ℕ) → in_run base n a ≡ true → base ≤ a
in_run_lo base n a h = grind (arith, nat_tests)

pub in_run_hi : (base n a : ℕ) → in_run base n a ≡ true → a < base + 4096 * n
in_run_hi base n a h = grind (arith, nat_tests)

-- the next number of a run is not yet in it
pub in_run_end : (base n a : ℕ) → base + 4096 * n ≤ a → in_run base n a ≡ false
in_run_end base n a h = grind (arith, nat_tests)

-- no number is in a run of none
pub in_run_none : (base a : ℕ) → in_run base 0 a ≡ false
in_run_none base a = grind (arith, nat_tests)

-- a page of an address
pub in_run_page : (base n a : ℕ) → (0 < n → base % 4096 ≡ 0) → in_run base n (4096 * (a / 4096)) ≡ in_run base n a
in_run_page base n a whole =
    same_tests (in_run base n (4096 * (a / 4096))) (in_run base n a)
    (λ h. let lo = in_run_lo base n (4096 * (a / 4096)) h in let hi = in_run_hi base n (4096 * (a / 4096)) h in
    let w : base % 4096 ≡ 0 = whole (omega arith) in
    in_run_is base n a (omega arith) (omega arith))
    (λ h. let lo = in_run_lo base n a h in let hi = in_run_hi base n a h in
    let w : base % 4096 ≡ 0 = whole (omega arith) in
    in_run_is base n (4096 * (a / 4096)) (omega arith) (omega arith))

-- one more number of a run
pub extend : {X : Type 0} (base i k v : ℕ) (new : X) (old : ℕ → X) (rest : X) → 4096 * k ≡ base + 4096 * i →
    new ≡ old k → cond (nat_eq v k) new (cond (in_run base i (4096 * v)) (old v) rest)
    ≡ cond (in_run base (i + 1) (4096 * v)) (old v) rest
extend base i k v new old rest e is = at (nat_eq v k) refl
  where
    at : (b : Bool) → nat_eq v k ≡ b → cond b new (cond (in_run base i (4096 * v)) (old v) rest)
        ≡ cond (in_run base (i + 1) (4096 * v)) (old v) rest
    at true h =
        let same : v ≡ k = grind (arith, nat_tests) in
        let within : in_run base (i + 1) (4096 * v) ≡ true =
        in_run_is base (i + 1) (4096 * v) (omega arith) (omega arith) in
        is ∙ ap old (sym same) ∙ sym (ap (λ b. cond b (old v) rest) within)
    at false h =
        let more : in_run base i (4096 * v) ≡ in_run base (i + 1) (4096 * v) =
        same_tests _ _ (λ t. grind (arith, nat_tests)) (λ t. grind (arith, nat_tests)) in
        ap (λ b. cond b (old v) rest) more

pub or_is : (a b : Bool) → (a || b) ≡ cond a true b
or_is true b = refl
or_is false b = refl
