-- Numbers on two stacks.
use Rattle.std.proofs.Common.{◌≡◌, ℕ, zero, suc, ◌+◌, ◌-◌, ◌≤◌, ◌<◌, Bool, true, false, leb, ltb, ◌≢◌, List, [], ◌∷◌}
use Rattle.std.proofs.Common.{◌++◌}
use Rattle.std.proofs.Common.{length, take, drop, reverse, get_or, refl, sym, ap, subst, ◌∙◌, arith}
use Rattle.std.proofs.lemmas.Bool.{leb-true, leb-false, ltb-true, ltb-false}
use Rattle.std.proofs.lemmas.List.{append_assoc, drop-drop, length-drop, take-append-drop, length-append}
use Rattle.std.proofs.lemmas.List.{length-reverse, reverse-append}
use Rattle.std.proofs.lemmas.List.{reverse-reverse, get_or-append_right, get_or-reverse, get_or_default, get_or_past}
use Rattle.std.proofs.lemmas.List.{take_at, drop_at}
use Rattle.std.proofs.Math.ListN.{get_or-append}
use Rattle.run_set.specs.Numbers.{count_le, one_if, stacked, Climbs, IsAbsent}
use Rattle.run_set.proofs.Counting.{climbs_from, climbs_insert, climbs_lower, climbs_nondecreasing, climbs_remove}
use Rattle.run_set.proofs.Counting.{count_is, count_le-append, count_remove}

pub length_stacked : (a b : List ℕ) → length (stacked a b) ≡ length a + length b
length_stacked a b = length-append a (reverse b) ∙ ap (λ k. length a + k) (length-reverse b)

-- the top of one stack goes to the other
pub poured : (to from : List ℕ) (n : ℕ) → stacked (to ++ n ∷ []) from ≡ stacked to (from ++ n ∷ [])
poured to from n = append_assoc to (n ∷ []) (reverse from) ∙ ap (λ xs. to ++ xs) (sym (reverse-append from (n ∷ [])))

-- two stacks by the other's end
turned : (a b : List ℕ) → reverse (stacked b a) ≡ stacked a b
turned a b = reverse-append b (reverse a) ∙ ap (λ xs. xs ++ reverse b) (reverse-reverse a)

pub back : (a b new old : List ℕ) → stacked old new ≡ stacked b a → stacked new old ≡ stacked a b
back a b new old e = sym (turned new old) ∙ ap reverse e ∙ turned a b

-- a number comes to the place
pub put_there : (at n : ℕ) (a b old : List ℕ) → stacked a b ≡ old → length a ≡ at →
    stacked (a ++ n ∷ []) b ≡ take at old ++ n ∷ drop at old
put_there at n a b old e p =
    append_assoc a (n ∷ []) (reverse b)
    ∙ ap (λ xs. xs ++ n ∷ reverse b) (sym (ap (take at) (sym e) ∙ take_at a (reverse b) at p))
    ∙ ap (λ xs. take at old ++ n ∷ xs) (sym (ap (drop at) (sym e) ∙ drop_at a (reverse b) at p))

-- the first numbers after the place go
turned_part : (count : ℕ) (b : List ℕ) → count ≤ length b → drop count (reverse b) ≡ reverse (take (length b - count) b)
turned_part count b p =
    let k : ℕ = length b - count in
    let parts = ap reverse (sym (take-append-drop k b)) ∙ reverse-append (take k b) (drop k b) in
    let long : length (reverse (drop k b)) ≡ count = omega (arith, p, length-reverse (drop k b), length-drop k b) in
    ap (drop count) parts ∙ drop_at (reverse (drop k b)) (reverse (take k b)) count long

pub taken_out : (at count : ℕ) (a b old : List ℕ) → stacked a b ≡ old → length a ≡ at → count ≤ length b →
    stacked a (take (length b - count) b) ≡ take at old ++ drop (at + count) old
taken_out at count a b old e p q =
    let front : take at old ≡ a = ap (take at) (sym e) ∙ take_at a (reverse b) at p in
    let behind : drop at old ≡ reverse b = ap (drop at) (sym e) ∙ drop_at a (reverse b) at p in
    ap (λ xs. a ++ xs) (sym (turned_part count b q) ∙ ap (drop count) (sym behind) ∙ drop-drop count at old)
    ∙ ap (λ xs. xs ++ drop (at + count) old) (sym front)

-- two parts come to the place, and the first numbers after it go
pub put_both : (at count : ℕ) (a b old first second : List ℕ) → stacked a b ≡ old → length a ≡ at → count ≤ length b →
    stacked ((a ++ first) ++ second) (take (length b - count) b)
    ≡ take at old ++ (first ++ (second ++ drop (at + count) old))
put_both at count a b old first second e p q =
    let left : List ℕ = reverse (take (length b - count) b) in
    let front : take at old ≡ a = ap (take at) (sym e) ∙ take_at a (reverse b) at p in
    let behind : drop at old ≡ reverse b = ap (drop at) (sym e) ∙ drop_at a (reverse b) at p in
    append_assoc (a ++ first) second left ∙ append_assoc a first (second ++ left)
    ∙ ap (λ xs. a ++ (first ++ (second ++ xs)))
    (sym (turned_part count b q) ∙ ap (drop count) (sym behind) ∙ drop-drop count at old)
    ∙ ap (λ xs. xs ++ (first ++ (second ++ drop (at + count) old))) (sym front)

-- the top of one of two stacks goes
climbs_between : (lo n : ℕ) (a b : List ℕ) → Climbs lo (a ++ n ∷ b) → Climbs lo (a ++ b)
climbs_between lo n [] b h = climbs_lower lo n b h.0 h.1
climbs_between lo n (x ∷ a) b h = (h.0, climbs_between x n a b h.1)

module _ (a b : List ℕ) (n : ℕ) where
  top_behind : stacked a (b ++ n ∷ []) ≡ a ++ n ∷ reverse b
  top_behind = ap (λ xs. a ++ xs) (reverse-append b (n ∷ []))

  pub climbs_popped : Climbs 0 (stacked a (b ++ n ∷ [])) → Climbs 0 (stacked a b)
  climbs_popped h = climbs_between 0 n a (reverse b) (subst (Climbs 0) top_behind h)

  pub count_popped : (m : ℕ) → count_le (stacked a b) m + one_if (leb n m) ≡ count_le (stacked a (b ++ n ∷ [])) m
  count_popped m =
      let all : count_le (stacked a (b ++ n ∷ [])) m ≡ count_le (a ++ n ∷ reverse b) m =
      ap (λ xs. count_le xs m) top_behind in
      omega (arith, all, count_le-append a (n ∷ reverse b) m, count_le-append a (reverse b) m)

-- the number at a place
pub number_before : (a b : List ℕ) (at d : ℕ) → at < length a → get_or a at d ≡ get_or (stacked a b) at d
number_before a b at d p = sym (get_or-append a (reverse b) d at p)

pub number_behind : (a b : List ℕ) (at d : ℕ) → length a ≤ at → at - length a < length b →
    get_or b (length b - 1 - (at - length a)) d ≡ get_or (stacked a b) at d
number_behind a b at d p q =
    sym (get_or-append_right a (reverse b) (length a) at d refl p ∙ get_or-reverse b (at - length a) d q)

pub number_past : (a b : List ℕ) (at d : ℕ) → length a + length b ≤ at → d ≡ get_or (stacked a b) at d
number_past a b at d p = sym (get_or_past (stacked a b) at d (omega (arith, length_stacked a b)))

one_small : (b : Bool) → one_if b ≤ 1
one_small true = omega arith
one_small false = omega arith

pub count_small : (es : List ℕ) (n : ℕ) → count_le es n ≤ length es
count_small [] n = omega arith
count_small (e ∷ es) n = omega (arith, one_small (leb e n), count_small es n)

least : (lo : ℕ) (es : List ℕ) (n : ℕ) → Climbs lo es → 0 < count_le es n → lo ≤ n
least lo es n h p = by (leb lo n) refl
  where
    by : (b : Bool) → leb lo n ≡ b → lo ≤ n
    by true e = leb-true lo n e
    by false e =
        let below : n < lo = leb-false lo n e in
        let none : count_le es n ≡ 0 =
        count_is es 0 n 0 (omega arith) (λ k a b. absurd (omega arith))
        (λ k a b. let x : lo ≤ get_or es k 0 = climbs_from lo es h k 0 b in omega arith) in
        absurd (omega arith)

-- the numbers that are counted come first
pub counted_below : (lo : ℕ) (es : List ℕ) (n k d : ℕ) → Climbs lo es → k < count_le es n → get_or es k d ≤ n
counted_below lo [] n k d h p = absurd (omega arith)
counted_below lo (e ∷ es) n zero d h p = least e (e ∷ es) n (omega arith, h.1) p
counted_below lo (e ∷ es) n (suc k) d h p =
    counted_below e es n k d h.1 (omega (arith, one_small (leb e n)))

not_counted : (b : Bool) (e n k : ℕ) → leb e n ≡ b → one_if (leb e n) + k ≤ 0 → n < e
not_counted false e n k x p = leb-false e n x
not_counted true e n k x p = let one : one_if (leb e n) ≡ 1 = ap one_if x in absurd (omega arith)

later_above : (b : Bool) (e n k x : ℕ) (es : List ℕ) → leb e n ≡ b → one_if (leb e n) + count_le es n ≤ suc k → e ≤ x →
    (count_le es n ≤ k → n < x) → n < x
later_above false e n k x es is p from later = let below : n < e = leb-false e n is in omega arith
later_above true e n k x es is p from later = let one : one_if (leb e n) ≡ 1 = ap one_if is in later (omega arith)

pub counted_above : (lo : ℕ) (es : List ℕ) (n k d : ℕ) → Climbs lo es → count_le es n ≤ k → k < length es →
    n < get_or es k d
counted_above lo [] n k d h p q = absurd (omega arith)
counted_above lo (e ∷ es) n zero d h p q = not_counted (leb e n) e n (count_le es n) refl p
counted_above lo (e ∷ es) n (suc k) d h p q =
    later_above (leb e n) e n k (get_or es k d) es refl p (climbs_from e es h.1 k d (omega arith))
    (λ x. counted_above e es n k d h.1 x (omega arith))

pub climbs_out : (lo : ℕ) (es : List ℕ) (i : ℕ) → Climbs lo es → Climbs lo (take i es ++ drop (i + 1) es)
climbs_out lo es i h =
    let e : suc i ≡ i + 1 = omega arith in
    subst (λ k. Climbs lo (take i es ++ drop k es)) e (climbs_remove lo es i h)

pub count_out : (xs : List ℕ) (i n d : ℕ) → i < length xs →
    count_le (take i xs ++ drop (i + 1) xs) n + one_if (leb (get_or xs i d) n) ≡ count_le xs n
count_out xs i n d p =
    let e : suc i ≡ i + 1 = omega arith in
    subst (λ k. count_le (take i xs ++ drop k xs) n + one_if (leb (get_or xs i d) n) ≡ count_le xs n) e
    (count_remove xs i n d p)

-- a number comes after the numbers that are at most as great
pub climbs_put : (es : List ℕ) (n at : ℕ) → Climbs 0 es → count_le es n ≡ at → Climbs 0 (take at es ++ n ∷ drop at es)
climbs_put es n at h e =
    climbs_insert 0 es at n 0 h (omega arith)
    (λ k a b. counted_below 0 es n k 0 h (omega (arith, a, e)))
    (λ k a b. let x : n < get_or es k 0 = counted_above 0 es n k 0 h (omega (arith, a, e)) b in omega arith)

-- if a number is at most n, the numbers before it are too
pub low_until : (es : List ℕ) → Climbs 0 es → (i n e : ℕ) → i < length es → get_or es i e ≤ n →
    (k d : ℕ) → k ≤ i → get_or es k d ≤ n
low_until es h i n e p q k d r =
    let least : get_or es k d ≤ get_or es i d = climbs_nondecreasing 0 es h k i d r p in
    omega (arith, get_or_default es i d e p)

-- if a number is more than n, the numbers after it are too
pub high_from : (es : List ℕ) → Climbs 0 es → (i n e : ℕ) → n < get_or es i e →
    (k d : ℕ) → i ≤ k → k < length es → n < get_or es k d
high_from es h i n e q k d r p =
    let least : get_or es i d ≤ get_or es k d = climbs_nondecreasing 0 es h i k d r p in
    omega (arith, get_or_default es i d e (omega arith))

-- so many numbers are counted, where the last of them is at most n and the next one is more
pub is_counted : (es : List ℕ) (i n : ℕ) → Climbs 0 es → i ≤ length es → (0 < i → get_or es (i - 1) 0 ≤ n) →
    (i < length es → n < get_or es i 0) → count_le es n ≡ i
is_counted es i n h small low high =
    count_is es i n 0 small
    (λ k a b. low_until es h (i - 1) n 0 (omega arith) (low (omega arith)) k 0 (omega arith))
    (λ k a b. high_from es h i n 0 (high (omega arith)) k 0 a b)

-- the number of a stack at a depth
pub top_there : (b : List ℕ) (k d : ℕ) → k < length b → get_or b (length b - 1 - k) d ≡ get_or (reverse b) k d
top_there b k d p = sym (get_or-reverse b k d p)

pub top_past : (b : List ℕ) (k d : ℕ) → length b ≤ k → d ≡ get_or (reverse b) k d
top_past b k d p = sym (get_or_past (reverse b) k d (omega (arith, length-reverse b)))

top_of : (a b : List ℕ) (k m : ℕ) → k < length b → get_or (stacked a b) (length a + k) 0 ≡ get_or (reverse b) k m
top_of a b k m p =
    let on : length a + k - length a ≡ k = omega arith in
    get_or-append_right a (reverse b) (length a) (length a + k) 0 refl (omega arith)
    ∙ ap (λ i. get_or (reverse b) i 0) on ∙ get_or_default (reverse b) k 0 m (omega (arith, length-reverse b, p))

-- how many numbers of two stacks are counted, by the numbers about their place
module _ (a b : List ℕ) (n m : ℕ) (h : Climbs 0 (stacked a b)) where
  next_above : (k : ℕ) → n < get_or (reverse b) k m → length a + k < length (stacked a b) →
      n < get_or (stacked a b) (length a + k) 0
  next_above k q p =
      let there : k < length b = omega (arith, p, length_stacked a b) in omega (arith, q, top_of a b k m there)

  last_of : (xs : List ℕ) → 0 < length xs → get_or (xs ++ reverse b) (length xs - 1) 0 ≡ get_or (reverse xs) 0 0
  last_of xs p =
      let on : length xs - 1 ≡ length xs - 1 - 0 = omega arith in
      get_or-append xs (reverse b) 0 (length xs - 1) (omega arith)
      ∙ ap (λ i. get_or xs i 0) on ∙ top_there xs 0 0 p

  pub counted_here : get_or (reverse a) 0 0 ≤ n → n < get_or (reverse b) 0 m → count_le (stacked a b) n ≡ length a
  counted_here p q =
      let on : length a ≡ length a + 0 = omega arith in
      is_counted (stacked a b) (length a) n h (omega (arith, length_stacked a b))
      (λ some. omega (arith, p, last_of a some))
      (λ some. subst (λ i. n < get_or (stacked a b) i 0) (sym on) (next_above 0 q (omega (arith, some))))

  pub counted_on : (k : ℕ) → get_or (reverse b) k m ≤ n → n < get_or (reverse b) (k + 1) m →
      count_le (stacked a b) n ≡ length a + (k + 1)
  counted_on k p q = by (ltb k (length b)) refl
    where
      by : (t : Bool) → ltb k (length b) ≡ t → count_le (stacked a b) n ≡ length a + (k + 1)
      by true e =
          let there : k < length b = ltb-true k (length b) e in
          let last : length a + (k + 1) - 1 ≡ length a + k = omega arith in
          is_counted (stacked a b) (length a + (k + 1)) n h (omega (arith, there, length_stacked a b))
          (λ some. omega (arith, p, ap (λ i. get_or (stacked a b) i 0) last, top_of a b k m there))
          (λ some. next_above (k + 1) q some)
      by false e =
          let past : length b ≤ k = ltb-false k (length b) e in
          absurd (omega (arith, p, q, top_past b k m past, top_past b (k + 1) m (omega (arith, past))))

-- no number is n if the last one that is counted is another
pub is_absent : (es : List ℕ) (n c : ℕ) → Climbs 0 es → count_le es n ≡ c → (0 < c → get_or es (c - 1) 0 ≢ n) →
    IsAbsent es n
is_absent es n c h counted other k d p same = by (ltb k c) refl
  where
    by : (b : Bool) → ltb k c ≡ b → ⊥
    by true e =
        let before : k < c = ltb-true k c e in
        let last : get_or es (c - 1) 0 ≤ n = counted_below 0 es n (c - 1) 0 h (omega (arith, before, counted)) in
        let own : get_or es k d ≤ get_or es (c - 1) 0 =
        low_until es h (c - 1) (get_or es (c - 1) 0) 0 (omega (arith, before, counted, count_small es n)) (omega arith)
        k d
        (omega (arith, before)) in
        other (omega (arith, before)) (omega (arith, last, own, same))
    by false e =
        let behind : c ≤ k = ltb-false k c e in
        let above : n < get_or es k d = counted_above 0 es n k d h (omega (arith, behind, counted)) p in
        absurd (omega (arith, above, same))
