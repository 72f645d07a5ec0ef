-- Counts by starts and ends.
use Rattle.std.proofs.Common.{◌≡◌, ℕ, zero, suc, ◌+◌, ◌≤◌, ◌<◌, Bool, true, false, leb, ltb, List, [], ◌∷◌, ◌++◌}
use Rattle.std.proofs.Common.{length, take, drop, get_or, refl, sym, ap, ◌∙◌, arith}
use Rattle.std.proofs.lemmas.Bool.{le-leb, lt-leb, leb-true, leb-false, ltb-true, ltb-false}
use Rattle.std.proofs.lemmas.List.{take-append-drop}
use Rattle.std.specs.List.Sorted.{IsNonDecreasingBy}
use Rattle.run_set.specs.Counts.{count_of}
use Rattle.run_set.specs.Numbers.{count_le, one_if, Climbs}

pub climbs_from : (lo : ℕ) (es : List ℕ) → Climbs lo es → (k d : ℕ) → k < length es → lo ≤ get_or es k d
climbs_from lo [] h k d p = absurd (omega arith)
climbs_from lo (e ∷ es) h zero d p = h.0
climbs_from lo (e ∷ es) h (suc k) d p =
    let l : lo ≤ e = h.0 in
    let r : e ≤ get_or es k d = climbs_from e es h.1 k d (omega arith) in
    omega arith

pub climbs_nondecreasing : (lo : ℕ) (es : List ℕ) → Climbs lo es → IsNonDecreasingBy (λ x. x) es
climbs_nondecreasing lo [] h i j d p q = absurd (omega arith)
climbs_nondecreasing lo (e ∷ es) h zero zero d p q = omega arith
climbs_nondecreasing lo (e ∷ es) h zero (suc j) d p q = climbs_from e es h.1 j d (omega arith)
climbs_nondecreasing lo (e ∷ es) h (suc i) zero d p q = absurd (omega arith)
climbs_nondecreasing lo (e ∷ es) h (suc i) (suc j) d p q =
    climbs_nondecreasing e es h.1 i j d (omega arith) (omega arith)

pub climbs_lower : (lo x : ℕ) (es : List ℕ) → lo ≤ x → Climbs x es → Climbs lo es
climbs_lower lo x [] p h = tt
climbs_lower lo x (e ∷ es) p h = let q : x ≤ e = h.0 in (omega arith, h.1)

pub climbs_remove : (lo : ℕ) (es : List ℕ) (i : ℕ) → Climbs lo es → Climbs lo (take i es ++ drop (suc i) es)
climbs_remove lo [] zero h = tt
climbs_remove lo [] (suc i) h = tt
climbs_remove lo (e ∷ es) zero h = climbs_lower lo e es h.0 h.1
climbs_remove lo (e ∷ es) (suc i) h = (h.0, climbs_remove e es i h.1)

pub climbs_insert : (lo : ℕ) (es : List ℕ) (i v d : ℕ) → Climbs lo es → lo ≤ v →
    ((k : ℕ) → k < i → k < length es → get_or es k d ≤ v) →
    ((k : ℕ) → i ≤ k → k < length es → v ≤ get_or es k d) → Climbs lo (take i es ++ v ∷ drop i es)
climbs_insert lo [] zero v d h p f g = (p, tt)
climbs_insert lo [] (suc i) v d h p f g = (p, tt)
climbs_insert lo (e ∷ es) zero v d h p f g = (p, (g 0 (omega arith) (omega arith), h.1))
climbs_insert lo (e ∷ es) (suc i) v d h p f g = (
  h.0,
  climbs_insert e es i v d h.1 (f 0 (omega arith) (omega arith))
      (λ k a b. f (suc k) (omega arith) (omega arith)) (λ k a b. g (suc k) (omega arith) (omega arith)),
)

pub count_is : (es : List ℕ) (i n d : ℕ) → i ≤ length es → ((k : ℕ) → k < i → k < length es → get_or es k d ≤ n) →
    ((k : ℕ) → i ≤ k → k < length es → n < get_or es k d) → count_le es n ≡ i
count_is [] zero n d p f g = refl
count_is [] (suc i) n d p f g = absurd (omega arith)
count_is (e ∷ es) zero n d p f g =
    let r : count_le es n ≡ 0 =
    count_is es zero n d (omega arith) (λ k a b. absurd (omega arith))
    (λ k a b. g (suc k) (omega arith) (omega arith)) in
    let q : n < e = g 0 (omega arith) (omega arith) in
    ap (λ b. one_if b + count_le es n) (lt-leb e n q) ∙ (omega arith)
count_is (e ∷ es) (suc i) n d p f g =
    let r : count_le es n ≡ i =
    count_is es i n d (omega arith) (λ k a b. f (suc k) (omega arith) (omega arith))
    (λ k a b. g (suc k) (omega arith) (omega arith)) in
    let q : e ≤ n = f 0 (omega arith) (omega arith) in
    ap (λ b. one_if b + count_le es n) (le-leb e n q) ∙ (omega arith)

pub count_le-append : (xs ys : List ℕ) (n : ℕ) → count_le (xs ++ ys) n ≡ count_le xs n + count_le ys n
count_le-append [] ys n = omega arith
count_le-append (x ∷ xs) ys n =
    let r : count_le (xs ++ ys) n ≡ count_le xs n + count_le ys n = count_le-append xs ys n in
    omega arith

pub count_insert : (xs : List ℕ) (i x n : ℕ) →
    count_le (take i xs ++ x ∷ drop i xs) n ≡ count_le xs n + one_if (leb x n)
count_insert xs i x n =
    let a : count_le (take i xs ++ x ∷ drop i xs) n ≡ count_le (take i xs) n
    + (one_if (leb x n) + count_le (drop i xs) n) = count_le-append (take i xs) (x ∷ drop i xs) n in
    let b : count_le xs n ≡ count_le (take i xs) n + count_le (drop i xs) n =
    ap (λ ys. count_le ys n) (sym (take-append-drop i xs)) ∙ count_le-append (take i xs) (drop i xs) n in
    omega arith

pub count_remove : (xs : List ℕ) (i n d : ℕ) → i < length xs →
    count_le (take i xs ++ drop (suc i) xs) n + one_if (leb (get_or xs i d) n) ≡ count_le xs n
count_remove [] i n d p = absurd (omega arith)
count_remove (x ∷ xs) zero n d p = omega arith
count_remove (x ∷ xs) (suc i) n d p =
    let r : count_le (take i xs ++ drop (suc i) xs) n + one_if (leb (get_or xs i d) n) ≡ count_le xs n =
    count_remove xs i n d (omega arith) in
    omega arith

one_if_le : (a b : ℕ) (e : ℕ) (s t : Bool) → leb e a ≡ s → leb e b ≡ t → a ≤ b → one_if s ≤ one_if t
one_if_le a b e false t p q h = omega arith
one_if_le a b e true true p q h = omega arith
one_if_le a b e true false p q h =
    absurd (let x : e ≤ a = leb-true e a p in let y : b < e = leb-false e b q in omega arith)

pub count_monotone : (es : List ℕ) (a b : ℕ) → a ≤ b → count_le es a ≤ count_le es b
count_monotone [] a b h = omega arith
count_monotone (e ∷ es) a b h =
    let r : count_le es a ≤ count_le es b = count_monotone es a b h in
    let o : one_if (leb e a) ≤ one_if (leb e b) = one_if_le a b e (leb e a) (leb e b) refl refl h in
    omega arith

-- up to the next start no more runs hold a number
pub none_until_start : (starts ends : List ℕ) (at end c : ℕ) → Climbs 0 starts → c ≤ length starts →
    c ≡ count_le starts at → ((k d : ℕ) → k < c → get_or starts k d ≤ at)
    → (m : ℕ) → at ≤ m → m < get_or starts c end → count_of starts ends m ≤ count_of starts ends at
none_until_start starts ends at end c h small is below m p q =
    let same : count_le starts m ≡ c =
    count_is starts c m end small (λ k a b. let x : get_or starts k end ≤ at = below k end a in omega arith)
    (λ k a b. let y : get_or starts c end ≤ get_or starts k end =
    climbs_nondecreasing 0 starts h c k end a b in omega arith) in
    let more : count_le ends at ≤ count_le ends m = count_monotone ends at m p in
    omega arith

pub next_is_above : (es : List ℕ) (c at end : ℕ) → at < end →
    (c < length es → at < get_or es c end) → at < get_or es c end
next_is_above [] c at end p h = p
next_is_above (e ∷ es) zero at end p h = h (omega arith)
next_is_above (e ∷ es) (suc c) at end p h = next_is_above es c at end p (λ q. h (omega arith))

none_there : (f : ℕ → Bool) (start at next : ℕ) → ((n : ℕ) → start ≤ n → n < at → f n ≡ false) →
    ((n : ℕ) → at ≤ n → n < next → f n ≡ false) → (n : ℕ) (b : Bool) →
    ltb n at ≡ b → start ≤ n → n < next → f n ≡ false
none_there f start at next before from n true e p q = before n p (ltb-true n at e)
none_there f start at next before from n false e p q = from n (ltb-false n at e) q

pub none_next : (f : ℕ → Bool) (start at next : ℕ) → ((n : ℕ) → start ≤ n → n < at → f n ≡ false) →
    ((n : ℕ) → at ≤ n → n < next → f n ≡ false) → (n : ℕ) → start ≤ n → n < next → f n ≡ false
none_next f start at next before from n p q = none_there f start at next before from n (ltb n at) refl p q

-- a number at a place that is at most n, and those before it, are counted
pub count_past : (lo : ℕ) (es : List ℕ) (k n d : ℕ) → Climbs lo es →
    k < length es → get_or es k d ≤ n → k < count_le es n
count_past lo [] k n d h p q = absurd (omega arith)
count_past lo (e ∷ es) zero n d h p q = let x : one_if (leb e n) ≡ 1 = ap one_if (le-leb e n q) in omega arith
count_past lo (e ∷ es) (suc k) n d h p q =
    let r : k < count_le es n = count_past e es k n d h.1 (omega arith) q in
    let l : e ≤ get_or es k d = climbs_from e es h.1 k d (omega arith) in
    let x : one_if (leb e n) ≡ 1 = ap one_if (le-leb e n (omega arith)) in
    omega arith

-- up to the number at a place no more are counted
pub count_until : (lo : ℕ) (es : List ℕ) (c at n end : ℕ) → Climbs lo es → c ≤ length es →
    ((k d : ℕ) → k < c → get_or es k d ≤ at) → at ≤ n → n < get_or es c end → count_le es n ≡ c
count_until lo es c at n end h small below p q =
    count_is es c n end small (λ k a b. let x : get_or es k end ≤ at = below k end a in omega arith)
    (λ k a b. let y : get_or es c end ≤ get_or es k end = climbs_nondecreasing lo es h c k end a b in omega arith)

pub is_inside : (es : List ℕ) (c end : ℕ) → get_or es c end < end → c < length es
is_inside [] c end p = absurd (omega arith)
is_inside (e ∷ es) zero end p = omega arith
is_inside (e ∷ es) (suc c) end p = let r : c < length es = is_inside es c end p in omega arith
