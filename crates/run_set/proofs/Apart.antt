-- A number that is absent from a list is seen in its counts, and two lists stay apart.
use Rattle.std.proofs.Common.{◌≡◌, ◌≢◌, ℕ, zero, suc, ◌+◌, ◌≤◌, ◌<◌, Bool, true, false, leb, List, [], ◌∷◌}
use Rattle.std.proofs.Common.{refl, sym, ap, ◌∙◌, subst, inl, inr, ⊎_elim, arith}
use Rattle.std.proofs.lemmas.Bool.{le-leb, lt-leb, leb-true, leb-false}
use mathlib.Core.Logic.{dite}
use native.Mathlib.Decide.{ℕ_discrete}
use Rattle.run_set.specs.Counts.{held_to, NoneInCommon, IsBalanced}
use Rattle.run_set.specs.Numbers.{count_le, one_if, IsAbsent}
use Rattle.run_set.proofs.Counting.{count_monotone}

-- a number other than n is at most n exactly if it is below n
one_same : (e m : ℕ) → e ≢ suc m → one_if (leb e (suc m)) ≡ one_if (leb e m)
one_same e m other = by (leb e m) refl
  where
    by : (b : Bool) → leb e m ≡ b → one_if (leb e (suc m)) ≡ one_if (leb e m)
    by true p = let x : e ≤ m = leb-true e m p in ap one_if (le-leb e (suc m) (omega arith) ∙ sym p)
    by false p = let x : m < e = leb-false e m p in ap one_if (lt-leb e (suc m) (omega arith) ∙ sym p)

-- the count does not grow at a number that is absent
flat : (es : List ℕ) (m : ℕ) → IsAbsent es (suc m) → count_le es (suc m) ≡ count_le es m
flat [] m h = refl
flat (e ∷ es) m h =
    let r : count_le es (suc m) ≡ count_le es m = flat es m (λ k d p. h (suc k) d (omega arith)) in
    let o : one_if (leb e (suc m)) ≡ one_if (leb e m) = one_same e m (h 0 0 (omega arith)) in
    omega arith

flat_zero : (es : List ℕ) → IsAbsent es 0 → count_le es 0 ≡ 0
flat_zero [] h = refl
flat_zero (e ∷ es) h =
    let r : count_le es 0 ≡ 0 = flat_zero es (λ k d p. h (suc k) d (omega arith)) in
    let other : e ≢ 0 = h 0 0 (omega arith) in
    let o : one_if (leb e 0) ≡ 0 = ap one_if (lt-leb e 0 (omega arith)) in
    omega arith

-- a number at which the count does not grow is absent
absent : (es : List ℕ) (m : ℕ) → count_le es (suc m) ≤ count_le es m → IsAbsent es (suc m)
absent [] m h k d p = absurd (omega arith)
absent (e ∷ es) m h zero d p = λ same.
    let x : one_if (leb e (suc m)) ≡ 1 = ap one_if (le-leb e (suc m) (omega arith)) in
    let y : one_if (leb e m) ≡ 0 = ap one_if (lt-leb e m (omega arith)) in
    let more : count_le es m ≤ count_le es (suc m) = count_monotone es m (suc m) (omega arith) in
    omega arith
absent (e ∷ es) m h (suc k) d p =
    let o : one_if (leb e m) + 0 ≤ one_if (leb e (suc m)) + 0 = count_monotone (e ∷ []) m (suc m) (omega arith) in
    absent es m (omega arith) k d (omega arith)

absent_zero : (es : List ℕ) → count_le es 0 ≡ 0 → IsAbsent es 0
absent_zero [] h k d p = absurd (omega arith)
absent_zero (e ∷ es) h zero d p = λ same.
    let x : one_if (leb e 0) ≡ 1 = ap one_if (le-leb e 0 (omega arith)) in omega arith
absent_zero (e ∷ es) h (suc k) d p = absent_zero es (omega arith) k d (omega arith)

-- one number goes: what was absent stays so
absent_fewer : (old new : List ℕ) (at : ℕ) → ((m : ℕ) → count_le new m + one_if (leb at m) ≡ count_le old m) →
    (n : ℕ) → IsAbsent old n → IsAbsent new n
absent_fewer old new at taken zero h =
    absent_zero new (omega (arith, taken 0, flat_zero old h))
absent_fewer old new at taken (suc m) h =
    let o : one_if (leb at m) + 0 ≤ one_if (leb at (suc m)) + 0 = count_monotone (at ∷ []) m (suc m) (omega arith) in
    absent new m (omega (arith, taken m, taken (suc m), flat old m h))

-- one number comes: another that was absent stays so
absent_more : (old new : List ℕ) (at : ℕ) → ((m : ℕ) → count_le new m ≡ count_le old m + one_if (leb at m)) →
    (n : ℕ) → n ≢ at → IsAbsent old n → IsAbsent new n
absent_more old new at put zero other h =
    let o : one_if (leb at 0) ≡ 0 = ap one_if (lt-leb at 0 (omega arith)) in
    absent_zero new (omega (arith, put 0, flat_zero old h))
absent_more old new at put (suc m) other h =
    let o : one_if (leb at (suc m)) ≡ one_if (leb at m) = one_same at m (λ e. other (sym e)) in
    absent new m (omega (arith, put m, put (suc m), flat old m h))

pub apart_swapped : (xs ys : List ℕ) → NoneInCommon xs ys → NoneInCommon ys xs
apart_swapped xs ys apart n =
    ⊎_elim (λ (h : IsAbsent xs n). inr h) (λ (h : IsAbsent ys n). inl h) (apart n)

-- a number is taken out of the second list
pub apart_taken : (more less new : List ℕ) (at : ℕ) →
    ((m : ℕ) → count_le new m + one_if (leb at m) ≡ count_le less m) → NoneInCommon more less → NoneInCommon more new
apart_taken more less new at taken apart n =
    ⊎_elim (λ (h : IsAbsent more n). inl h) (λ (h : IsAbsent less n). inr (absent_fewer less new at taken n h))
    (apart n)

-- a number that is absent from the second list comes to the first
pub apart_put : (more less new : List ℕ) (at : ℕ) →
    ((m : ℕ) → count_le new m ≡ count_le more m + one_if (leb at m)) → IsAbsent less at → NoneInCommon more less →
    NoneInCommon new less
apart_put more less new at put free apart n =
    dite (ℕ_discrete n at) (λ same. inr (subst (IsAbsent less) (sym same) free))
    (λ other. ⊎_elim (λ (h : IsAbsent more n). inl (absent_more more new at put n other h))
    (λ (h : IsAbsent less n). inr h) (apart n))

-- no more starts are kept than runs hold numbers
pub few_starts : (starts ends : List ℕ) → IsBalanced starts ends → (n : ℕ) →
    count_le starts n ≤ held_to starts ends n
few_starts starts ends b zero =
    ⊎_elim (λ (h : IsAbsent starts 0). let x = flat_zero starts h in omega arith)
    (λ (h : IsAbsent ends 0). let x = flat_zero ends h in omega arith) (b.apart 0)
few_starts starts ends b (suc m) =
    let r : count_le starts m ≤ held_to starts ends m = few_starts starts ends b m in
    let enough : count_le ends m ≤ count_le starts m = b.enough m in
    ⊎_elim (λ (h : IsAbsent starts (suc m)). let x = flat starts m h in omega arith)
    (λ (h : IsAbsent ends (suc m)). let x = flat ends m h in omega arith) (b.apart (suc m))
