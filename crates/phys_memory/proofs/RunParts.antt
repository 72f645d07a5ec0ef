-- Parts of lists, and of runs of addresses.
use Rattle.std.proofs.Common.{◌≡◌, ℕ, zero, suc, ◌+◌, ◌-◌, ◌*◌, ◌/◌, ◌≤◌, min, List, [], ◌∷◌, ◌++◌, length, map, take}
use Rattle.std.proofs.Common.{drop, refl, ap, ◌∙◌, arith}
use Rattle.std.specs.List.{AllByRecursion}
use Rattle.busdma_machine.specs.Runs.{run_of}

same_run : (a b m n : ℕ) → a ≡ b → m ≡ n → run_of a m ≡ run_of b n
same_run a b m n e f = ap (λ x. run_of x m) e ∙ ap (run_of b) f

-- the end and the start of a run of addresses
pub drop_run : (k a n : ℕ) → drop k (run_of a n) ≡ run_of (a + k) (n - k)
drop_run zero a n = same_run a (a + 0) n (n - 0) (omega arith) (omega arith)
drop_run (suc k) a zero = let e : 0 ≡ 0 - suc k = omega arith in ap (run_of (a + suc k)) e
drop_run (suc k) a (suc n) =
    drop_run k (a + 1) n ∙ same_run (a + 1 + k) (a + suc k) (n - k) (suc n - suc k) (omega arith) (omega arith)

pub take_run : (k a n : ℕ) → take k (run_of a n) ≡ run_of a (min k n)
take_run zero a n = let e : 0 ≡ min 0 n = omega arith in ap (run_of a) e
take_run (suc k) a zero = let e : 0 ≡ min (suc k) 0 = omega arith in ap (run_of a) e
take_run (suc k) a (suc n) =
    let e : suc (min k n) ≡ min (suc k) (suc n) = omega arith in
    ap (λ xs. a ∷ xs) (take_run k (a + 1) n) ∙ ap (run_of a) e

-- the first elements of two lists, and the others
pub take_append : {A : Type 0} (n : ℕ) (xs ys : List A) → take n (xs ++ ys) ≡ take n xs ++ take (n - length xs) ys
take_append n [] ys = nothing n ∙ (let e : n ≡ n - 0 = omega arith in ap (λ k. take n [] ++ take k ys) e)
  where
    nothing : (k : ℕ) → take n ys ≡ take k [] ++ take n ys
    nothing zero = refl
    nothing (suc k) = refl
take_append zero (x ∷ xs) ys = let e : 0 ≡ 0 - suc (length xs) = omega arith in ap (λ k. take k ys) e
take_append (suc n) (x ∷ xs) ys =
    let e : n - length xs ≡ suc n - suc (length xs) = omega arith in
    ap (λ zs. x ∷ zs) (take_append n xs ys ∙ ap (λ k. take n xs ++ take k ys) e)

pub drop_append : {A : Type 0} (n : ℕ) (xs ys : List A) → drop n (xs ++ ys) ≡ drop n xs ++ drop (n - length xs) ys
drop_append n [] ys = nothing n ∙ (let e : n ≡ n - 0 = omega arith in ap (λ k. drop n [] ++ drop k ys) e)
  where
    nothing : (k : ℕ) → drop n ys ≡ drop k [] ++ drop n ys
    nothing zero = refl
    nothing (suc k) = refl
drop_append zero (x ∷ xs) ys = let e : 0 ≡ 0 - suc (length xs) = omega arith in ap (λ k. x ∷ xs ++ drop k ys) e
drop_append (suc n) (x ∷ xs) ys =
    let e : n - length xs ≡ suc n - suc (length xs) = omega arith in
    drop_append n xs ys ∙ ap (λ k. drop n xs ++ drop k ys) e

-- a run is two runs: the second begins at the end of the first
pub run_append : (a m n : ℕ) → run_of a (m + n) ≡ run_of a m ++ run_of (a + m) n
run_append a zero n = same_run a (a + 0) (0 + n) n (omega arith) (omega arith)
run_append a (suc m) n =
    let e : suc m + n ≡ suc (m + n) = omega arith in
    let f : a + 1 + m ≡ a + suc m = omega arith in
    ap (run_of a) e ∙ ap (λ xs. a ∷ xs) (run_append (a + 1) m n ∙ ap (λ b. run_of (a + 1) m ++ run_of b n) f)

-- the addresses of a run in one frame
pub run_in_frame : (n a f : ℕ) → 4096 * f ≤ a → a + n ≤ 4096 * f + 4096 →
    AllByRecursion (λ b. b / 4096 ≡ f) (run_of a n)
run_in_frame zero a f h k = tt
run_in_frame (suc n) a f h k = (omega arith, run_in_frame n (a + 1) f (omega arith) (omega arith))

-- what holds of each element holds of each of a part
pub all_imply : {X : Type 0} (P Q : X → Type 0) → ((x : X) → P x → Q x) → (xs : List X) →
    AllByRecursion P xs → AllByRecursion Q xs
all_imply P Q f [] h = tt
all_imply P Q f (x ∷ xs) h = (f x h.0, all_imply P Q f xs h.1)

pub all_append : {X : Type 0} (P : X → Type 0) (xs ys : List X) → AllByRecursion P xs →
    AllByRecursion P ys → AllByRecursion P (xs ++ ys)
all_append P [] ys h k = k
all_append P (x ∷ xs) ys h k = (h.0, all_append P xs ys h.1 k)

pub all_drop : {X : Type 0} (P : X → Type 0) (n : ℕ) (xs : List X) → AllByRecursion P xs → AllByRecursion P (drop n xs)
all_drop P zero xs h = h
all_drop P (suc n) [] h = tt
all_drop P (suc n) (x ∷ xs) h = all_drop P n xs h.1

pub all_take : {X : Type 0} (P : X → Type 0) (n : ℕ) (xs : List X) → AllByRecursion P xs → AllByRecursion P (take n xs)
all_take P zero xs h = tt
all_take P (suc n) [] h = tt
all_take P (suc n) (x ∷ xs) h = (h.0, all_take P n xs h.1)

-- two functions that agree on these addresses read the same bytes
pub same_reads : (keys : List ℕ) (f g : ℕ → ℕ) → AllByRecursion (λ a. f a ≡ g a) keys → map f keys ≡ map g keys
same_reads [] f g h = refl
same_reads (a ∷ keys) f g h = let p = h.0 in let q = same_reads keys f g h.1 in λ i. p i ∷ q i
