-- Members of a set by its edges.
use Rattle.std.proofs.Common.{◌≡◌, ℕ, zero, suc, ◌+◌, ◌-◌, ◌≤◌, ◌<◌, Bool, true, false, not, if◌then◌else◌, leb, ltb}
use Rattle.std.proofs.Common.{eqb, ◌%◌, ◌&&◌, List, [], ◌∷◌, ◌++◌, length, take, drop, get_or, refl, sym, ap, subst}
use Rattle.std.proofs.Common.{◌∙◌, add-zero, arith}
use Rattle.std.proofs.lemmas.Bool.{le-leb, lt-leb, leb-true, leb-false, ltb-true, ltb-false, le-ltb}
use Rattle.std.proofs.lemmas.List.{take-append-drop, drop-drop, length-take-le, get_or-drop, take_all, length-drop}
use Rattle.std.specs.List.Sorted.{IsNonDecreasingBy}
use mathlib.Core.Bool.{beq}
use Rattle.run_set.specs.Edges.{member, differ, Rises, odd, is_inside_run, edge_if}
use Rattle.run_set.specs.Numbers.{count_le, one_if, Climbs}
use Rattle.run_set.proofs.Counting.{climbs_lower}

pub rises-le : (lo hi : ℕ) (es : List ℕ) → Rises lo hi es → lo ≤ hi
rises-le lo hi [] h = h
rises-le lo hi (e ∷ es) h = let r : e + 1 ≤ hi = rises-le (e + 1) hi es h.1 in let l : lo ≤ e = h.0 in omega arith

pub rises-append : (a b c : ℕ) (xs ys : List ℕ) → Rises a b xs → Rises b c ys → Rises a c (xs ++ ys)
rises-append a b c [] [] h k = let x : a ≤ b = h in let y : b ≤ c = k in omega arith
rises-append a b c [] (y ∷ ys) h k = let x : a ≤ b = h in let z : b ≤ y = k.0 in (omega arith, k.1)
rises-append a b c (x ∷ xs) ys h k = (h.0, rises-append (x + 1) b c xs ys h.1 k)

pub rises_edge : (lo e : ℕ) (wanted : Bool) → lo ≤ e → Rises lo (e + 1) (edge_if wanted e)
rises_edge lo e true p = (p, omega arith)
rises_edge lo e false p = omega arith

rises_from : (lo hi : ℕ) (es : List ℕ) → Rises lo hi es → (k d : ℕ) → k < length es → lo ≤ get_or es k d
rises_from lo hi [] h k d p = absurd (omega arith)
rises_from lo hi (e ∷ es) h zero d p = h.0
rises_from lo hi (e ∷ es) h (suc k) d p =
    let l : lo ≤ e = h.0 in
    let r : e + 1 ≤ get_or es k d = rises_from (e + 1) hi es h.1 k d (omega arith) in
    omega arith

pub rises_nondecreasing : (lo hi : ℕ) (es : List ℕ) → Rises lo hi es → IsNonDecreasingBy (λ x. x) es
rises_nondecreasing lo hi [] h i j d p q = absurd (omega arith)
rises_nondecreasing lo hi (e ∷ es) h zero zero d p q = omega arith
rises_nondecreasing lo hi (e ∷ es) h zero (suc j) d p q =
    let r : e + 1 ≤ get_or es j d = rises_from (e + 1) hi es h.1 j d (omega arith) in
    omega arith
rises_nondecreasing lo hi (e ∷ es) h (suc i) zero d p q = absurd (omega arith)
rises_nondecreasing lo hi (e ∷ es) h (suc i) (suc j) d p q =
    rises_nondecreasing (e + 1) hi es h.1 i j d (omega arith) (omega arith)

pub rises_take : (es : List ℕ) (i lo hi n : ℕ) → lo ≤ n → Rises lo hi es →
    ((k : ℕ) → k < i → k < length es → get_or es k 0 < n) → Rises lo n (take i es)
rises_take [] zero lo hi n p h f = p
rises_take [] (suc i) lo hi n p h f = p
rises_take (e ∷ es) zero lo hi n p h f = p
rises_take (e ∷ es) (suc i) lo hi n p h f =
    let q : e < n = f 0 (omega arith) (omega arith) in
    (h.0, rises_take es i (e + 1) hi n (omega arith) h.1 (λ k a b. f (suc k) (omega arith) (omega arith)))

pub rises_drop : (es : List ℕ) (i lo hi n : ℕ) → n ≤ hi → Rises lo hi es →
    ((k : ℕ) → i ≤ k → k < length es → n ≤ get_or es k 0) → Rises n hi (drop i es)
rises_drop [] zero lo hi n p h f = p
rises_drop [] (suc i) lo hi n p h f = p
rises_drop (e ∷ es) zero lo hi n p h f = (f 0 (omega arith) (omega arith), h.1)
rises_drop (e ∷ es) (suc i) lo hi n p h f =
    rises_drop es i (e + 1) hi n p h.1 (λ k a b. f (suc k) (omega arith) (omega arith))

-- edges that are at most n, and those above it
pub to_below : (es : List ℕ) (c n hi : ℕ) → Rises 0 hi es → ((k d : ℕ) → k < c → get_or es k d ≤ n) →
    Rises 0 (n + 1) (take c es)
to_below es c n hi h f =
    rises_take es c 0 hi (n + 1) (omega arith) h
    (λ k a b. let x : get_or es k 0 ≤ n = f k 0 a in omega arith)

pub to_above : (es : List ℕ) (c n hi : ℕ) → n < hi → Rises 0 hi es →
    ((k d : ℕ) → c ≤ k → k < length es → n < get_or es k d) → Rises (n + 1) hi (drop c es)
to_above es c n hi p h f =
    rises_drop es c 0 hi (n + 1) (omega arith) h
    (λ k a b. let x : n < get_or es k 0 = f k 0 a b in omega arith)

-- edges in three parts: i edges below a run, the edges of the run, and the edges from the j-th on
pub record Parts (es : List ℕ) (i j s e hi : ℕ) : Type 0 where
  pub ordered : i ≤ j
  pub small : j - i ≤ length (drop i es)
  pub before : Rises 0 s (take i es)
  pub inside : Rises s (e + 1) (take (j - i) (drop i es))
  pub behind : Rises (e + 1) hi (drop (j - i) (drop i es))

module _ (es : List ℕ) (i j s e hi : ℕ) (le : s < e) (below_hi : e < hi) (h : Rises 0 hi es)
    (before : (k d : ℕ) → k < i → get_or es k d < s)
    (from : (k d : ℕ) → i ≤ k → k < length es → s ≤ get_or es k d)
    (to : (k d : ℕ) → k < j → get_or es k d ≤ e)
    (behind : (k d : ℕ) → j ≤ k → k < length es → e < get_or es k d)
    (small : i ≤ length es) (large : j ≤ length es) where
  ahead : (k : ℕ) → get_or (drop i es) k 0 ≡ get_or es (i + k) 0
  ahead k = get_or-drop i es k 0

  ordered : i ≤ j
  ordered = by (leb i j) refl
    where
      by : (b : Bool) → leb i j ≡ b → i ≤ j
      by true q = leb-true i j q
      by false q =
          let p : j < i = leb-false i j q in
          let x : e < get_or es j 0 = behind j 0 (omega arith) (omega arith) in
          let y : get_or es j 0 < s = before j 0 p in
          absurd (omega arith)

  part_before : Rises 0 s (take i es)
  part_before = rises_take es i 0 hi s (omega arith) h (λ k a b. before k 0 a)

  part_from : Rises s hi (drop i es)
  part_from = rises_drop es i 0 hi s (omega arith) h (λ k a b. from k 0 a b)

  part_inside : Rises s (e + 1) (take (j - i) (drop i es))
  part_inside =
      rises_take (drop i es) (j - i) s hi (e + 1) (omega arith) part_from
      (λ k a b. let x : get_or es (i + k) 0 ≤ e = to (i + k) 0 (omega arith) in
      let y : get_or (drop i es) k 0 ≡ get_or es (i + k) 0 = ahead k in omega arith)

  part_behind : Rises (e + 1) hi (drop (j - i) (drop i es))
  part_behind =
      rises_drop (drop i es) (j - i) s hi (e + 1) (omega arith) part_from
      (λ k a b. let x : e < get_or es (i + k) 0 =
      behind (i + k) 0 (omega (arith, ordered)) (omega (arith, length-drop i es)) in
      let y : get_or (drop i es) k 0 ≡ get_or es (i + k) 0 = ahead k in omega arith)

  pub in_parts : Parts es i j s e hi
  in_parts = record {
    ordered = ordered;
    small = omega (arith, length-drop i es);
    before = part_before;
    inside = part_inside;
    behind = part_behind;
  }

differ-assoc : (a b c : Bool) → differ a (differ b c) ≡ differ (differ a b) c
differ-assoc false b c = refl
differ-assoc true false c = refl
differ-assoc true true false = refl
differ-assoc true true true = refl

pub member-append : (xs ys : List ℕ) (n : ℕ) → member (xs ++ ys) n ≡ differ (member xs n) (member ys n)
member-append [] ys n = refl
member-append (x ∷ xs) ys n =
    ap (differ (leb x n)) (member-append xs ys n) ∙ differ-assoc (leb x n) (member xs n) (member ys n)

pub member_above : (lo hi n : ℕ) (es : List ℕ) → Rises lo hi es → n < lo → member es n ≡ false
member_above lo hi n [] h p = refl
member_above lo hi n (e ∷ es) h p =
    let l : lo ≤ e = h.0 in
    let q : n < e = omega arith in
    let t : leb e n ≡ false = lt-leb e n q in
    ap (λ b. differ b (member es n)) t ∙ member_above (e + 1) hi n es h.1 (omega arith)

pub member_below : (lo hi n : ℕ) (es : List ℕ) → Rises lo hi es → hi ≤ n + 1 → member es n ≡ odd (length es)
member_below lo hi n [] h p = refl
member_below lo hi n (e ∷ es) h p =
    let l : e + 1 ≤ hi = rises-le (e + 1) hi es h.1 in
    let q : e ≤ n = omega arith in
    let t : leb e n ≡ true = le-leb e n q in
    ap (λ b. differ b (member es n)) t ∙ ap not (member_below (e + 1) hi n es h.1 p)

edge_above : (e n : ℕ) (w : Bool) → n < e → member (edge_if w e) n ≡ false
edge_above e n true p = ap (λ b. differ b false) (lt-leb e n p)
edge_above e n false p = refl

edge_below : (e n : ℕ) (w : Bool) → e ≤ n → member (edge_if w e) n ≡ w
edge_below e n true p = ap (λ b. differ b false) (le-leb e n p)
edge_below e n false p = refl

inside_run : (before is_in : Bool) → differ before (differ (differ before is_in) false) ≡ is_in
inside_run false false = refl
inside_run false true = refl
inside_run true false = refl
inside_run true true = refl

behind_run : (before is_in odds rest : Bool) →
    differ before (differ (differ before is_in) (differ (differ (differ before odds) is_in) rest))
    ≡ differ before (differ odds rest)
behind_run false false false rest = refl
behind_run false false true rest = refl
behind_run false true false false = refl
behind_run false true false true = refl
behind_run false true true rest = refl
behind_run true false false false = refl
behind_run true false false true = refl
behind_run true false true false = refl
behind_run true false true true = refl
behind_run true true false rest = refl
behind_run true true true false = refl
behind_run true true true true = refl

member-four : (a b c d : List ℕ) (n : ℕ) (x y z w : Bool) → member a n ≡ x → member b n ≡ y → member c n ≡ z →
    member d n ≡ w → member (a ++ (b ++ (c ++ d))) n ≡ differ x (differ y (differ z w))
member-four a b c d n x y z w p q r s = rw (member-append a, member-append b, member-append c, p, q, r, s)

member-three : (a b c : List ℕ) (n : ℕ) (x y z : Bool) → member a n ≡ x → member b n ≡ y → member c n ≡ z →
    member (a ++ (b ++ c)) n ≡ differ x (differ y z)
member-three a b c n x y z p q r = rw (member-append a, member-append b, p, q, r)

-- edges in three parts: the edges before the run, the edges of the run, and the edges after it
module _ (s e hi : ℕ) (before inside behind : List ℕ) (is_in : Bool) (p : s < e) (r : Rises 0 s before)
    (m : Rises s (e + 1) inside) (b : Rises (e + 1) hi behind) where
  abbrev odds : Bool
  odds = odd (length before)

  abbrev first : List ℕ
  first = edge_if (differ odds is_in) s

  abbrev last : List ℕ
  last = edge_if (differ (differ odds (odd (length inside))) is_in) e

  pub rises_set : Rises 0 hi (before ++ (first ++ (last ++ behind)))
  rises_set =
      rises-append 0 s hi before _ r
      (rises-append s (s + 1) hi first _ (rises_edge s s _ (omega arith))
      (rises-append (s + 1) (e + 1) hi last behind (rises_edge (s + 1) e _ (omega arith)) b))

  set_before : (n : ℕ) → n < s → member (before ++ (first ++ (last ++ behind))) n
      ≡ member (before ++ (inside ++ behind)) n
  set_before n q =
      member-four before first last behind n _ _ _ _ refl (edge_above s n _ q) (edge_above e n _ (omega arith))
      (member_above (e + 1) hi n behind b (omega arith))
      ∙ sym (member-three before inside behind n _ _ _ refl (member_above s (e + 1) n inside m q)
      (member_above (e + 1) hi n behind b (omega arith)))

  set_in : (n : ℕ) → s ≤ n → n < e → member (before ++ (first ++ (last ++ behind))) n ≡ is_in
  set_in n q t =
      member-four before first last behind n _ _ _ _ (member_below 0 s n before r (omega arith)) (edge_below s n _ q)
      (edge_above e n _ t) (member_above (e + 1) hi n behind b (omega arith))
      ∙ inside_run odds is_in

  set_behind : (n : ℕ) → e ≤ n → member (before ++ (first ++ (last ++ behind))) n
      ≡ member (before ++ (inside ++ behind)) n
  set_behind n q =
      member-four before first last behind n _ _ _ _ (member_below 0 s n before r (omega arith))
      (edge_below s n _ (omega arith)) (edge_below e n _ q) refl
      ∙ behind_run odds is_in (odd (length inside)) (member behind n)
      ∙ sym (member-three before inside behind n _ _ _ (member_below 0 s n before r (omega arith))
      (member_below s (e + 1) n inside m (omega arith)) refl)

  by_run : (n : ℕ) (t u : Bool) → leb s n ≡ t → ltb n e ≡ u →
      member (before ++ (first ++ (last ++ behind))) n
      ≡ (if t && u then is_in else member (before ++ (inside ++ behind)) n)
  by_run n false u x y = set_before n (leb-false s n x)
  by_run n true true x y = set_in n (leb-true s n x) (ltb-true n e y)
  by_run n true false x y = set_behind n (ltb-false n e y)

  pub members_set : (n : ℕ) → member (before ++ (first ++ (last ++ behind))) n
      ≡ (if is_inside_run s e n then is_in else member (before ++ (inside ++ behind)) n)
  members_set n = by_run n (leb s n) (ltb n e) refl refl

-- the edges after a change
abbrev pub edges_set : ℕ → ℕ → ℕ → ℕ → Bool → List ℕ → List ℕ
edges_set s e i k is_in es =
    take i es ++ (edge_if (differ (odd i) is_in) s
    ++ (edge_if (differ (differ (odd i) (odd k)) is_in) e ++ drop (i + k) es))

three_parts : (i k : ℕ) (es : List ℕ) → take i es ++ (take k (drop i es) ++ drop k (drop i es)) ≡ es
three_parts i k es = ap (λ xs. take i es ++ xs) (take-append-drop k (drop i es)) ∙ take-append-drop i es

module _ (s e hi i k : ℕ) (is_in : Bool) (es : List ℕ) (p : s < e) (is : i ≤ length es) (ks : k ≤ length (drop i es))
    (r : Rises 0 s (take i es)) (m : Rises s (e + 1) (take k (drop i es)))
    (b : Rises (e + 1) hi (drop k (drop i es))) where
  abbrev spliced : ℕ → ℕ → List ℕ → List ℕ
  spliced x y rest =
      take i es ++ (edge_if (differ (odd x) is_in) s ++ (edge_if (differ (differ (odd x) (odd y)) is_in) e ++ rest))

  same : spliced (length (take i es)) (length (take k (drop i es))) (drop k (drop i es)) ≡ edges_set s e i k is_in es
  same =
      ap (λ x. spliced x (length (take k (drop i es))) (drop k (drop i es))) (length-take-le i es is)
      ∙ ap (λ y. spliced i y (drop k (drop i es))) (length-take-le k (drop i es) ks)
      ∙ ap (spliced i k) (drop-drop k i es)

  pub rises_edges_set : Rises 0 hi (edges_set s e i k is_in es)
  rises_edges_set =
      subst (Rises 0 hi) same (rises_set s e hi (take i es) (take k (drop i es)) (drop k (drop i es)) is_in p r m b)

  pub members_edges_set : (n : ℕ) → member (edges_set s e i k is_in es) n
      ≡ (if is_inside_run s e n then is_in else member es n)
  members_edges_set n =
      ap (λ xs. member xs n) (sym same) ∙ members_set s e hi (take i es) (take k (drop i es))
      (drop k (drop i es)) is_in p r m b n
      ∙ ap (λ xs. if is_inside_run s e n then is_in else member xs n) (three_parts i k es)

  pub finite_edges_set : Rises 0 hi es → e ≤ hi → odd (length es) ≡ false →
      odd (length (edges_set s e i k is_in es)) ≡ false
  finite_edges_set h l f =
      sym (member_below 0 hi hi (edges_set s e i k is_in es) rises_edges_set (omega arith)) ∙ members_edges_set hi
      ∙ outside (leb s hi) (ltb hi e) (le-ltb hi e l) ∙ member_below 0 hi hi es h (omega arith) ∙ f
    where
      outside : (t u : Bool) → u ≡ false → (if t && u then is_in else member es hi) ≡ member es hi
      outside false u x = refl
      outside true u x = ap (λ b. if b then is_in else member es hi) x

module _ (c start end hi : ℕ) (es : List ℕ) (small : c ≤ length es) (p : Rises 0 (start + 1) (take c es))
    (q : Rises (start + 1) hi (drop c es)) where
  above_start : (rest : List ℕ) → Rises (start + 1) hi rest → (n : ℕ) → n < get_or rest 0 end → member rest n ≡ false
  above_start [] h n u = refl
  above_start (f ∷ fs) h n u = member_above f hi n (f ∷ fs) (omega arith, h.1) u

  split : (n : ℕ) → start ≤ n → member es n ≡ differ (odd c) (member (drop c es) n)
  split n t =
      ap (λ xs. member xs n) (sym (take-append-drop c es)) ∙ member-append (take c es) (drop c es) n
      ∙ ap (λ b. differ b (member (drop c es) n)) (member_below 0 (start + 1) n (take c es) p (omega arith)
      ∙ ap odd (length-take-le c es small))

  differ-false : (b : Bool) → differ b false ≡ b
  differ-false false = refl
  differ-false true = refl

  differ-true : (b : Bool) → differ b true ≡ not b
  differ-true false = refl
  differ-true true = refl

  pub at_start : member es start ≡ odd c
  at_start =
      split start (omega arith) ∙ ap (differ (odd c)) (member_above (start + 1) hi start (drop c es) q (omega arith))
      ∙ differ-false (odd c)

  first_edge : get_or (drop c es) 0 end ≡ get_or es c end
  first_edge = get_or-drop c es 0 end ∙ ap (λ k. get_or es k end) (add-zero c)

  pub until_turn : (n : ℕ) → start ≤ n → n < get_or es c end → member es n ≡ odd c
  until_turn n t u =
      split n t ∙ ap (differ (odd c)) (above_start (drop c es) q n (subst (λ f. n < f) (sym first_edge) u))
      ∙ differ-false (odd c)

  turns : (rest : List ℕ) → Rises (start + 1) hi rest → get_or rest 0 end < end → (start < get_or rest 0 end)
      × (member rest (get_or rest 0 end) ≡ true)
  turns [] h u = absurd (omega arith)
  turns (f ∷ fs) h u =
      let l : start + 1 ≤ f = h.0 in (
        omega arith,
        ap (λ b. differ b (member fs f)) (le-leb f f (omega arith))
            ∙ ap not (member_above (f + 1) hi f fs h.1 (omega arith)),
      )

  pub at_turn : get_or es c end < end → (start < get_or es c end) × (member es (get_or es c end) ≡ not (odd c))
  at_turn u =
      let found = turns (drop c es) q (subst (λ f. f < end) (sym first_edge) u) in
      let above : start < get_or es c end = subst (λ f. start < f) first_edge found.0 in
      let is : member (drop c es) (get_or es c end) ≡ true =
      subst (λ f. member (drop c es) f ≡ true) first_edge found.1 in
      (above, split (get_or es c end) (omega arith) ∙ ap (differ (odd c)) is ∙ differ-true (odd c))

flip : (a b : ℕ) → a < 2 → b < 2 → a + b ≡ 1 → eqb a 1 ≡ not (eqb b 1)
flip zero zero p q r = absurd (omega arith)
flip zero (suc zero) p q r = refl
flip (suc zero) zero p q r = refl
flip (suc a) (suc b) p q r = absurd (omega arith)
flip zero (suc (suc b)) p q r = absurd (omega arith)
flip (suc (suc a)) zero p q r = absurd (omega arith)

pub parity : (n : ℕ) → eqb (n % 2) 1 ≡ odd n
parity zero = refl
parity (suc n) = flip (suc n % 2) (n % 2) (omega arith) (omega arith) (omega arith) ∙ ap not (parity n)

pub same_answer : (a b : Bool) → beq a b ≡ true → a ≡ b
same_answer false false e = refl
same_answer false true e = absurd (cc)
same_answer true false e = absurd (cc)
same_answer true true e = refl

pub other_answer : (a b : Bool) → beq a b ≡ false → not a ≡ b
other_answer false false e = absurd (cc)
other_answer false true e = refl
other_answer true false e = refl
other_answer true true e = absurd (cc)

pub not_not : (a : Bool) → not (not a) ≡ a
not_not false = refl
not_not true = refl

pub tail_is : (i : ℕ) (xs : List ℕ) → take (length xs - i) (drop i xs) ≡ drop i xs
tail_is i xs = take_all (length xs - i) (drop i xs) (omega (arith, length-drop i xs))

pub rises_climbs : (lo hi : ℕ) (es : List ℕ) → Rises lo hi es → Climbs lo es
rises_climbs lo hi [] h = tt
rises_climbs lo hi (e ∷ es) h = (h.0, climbs_lower e (e + 1) es (omega arith) (rises_climbs (e + 1) hi es h.1))

odd_one_if : (b : Bool) (n : ℕ) → odd (one_if b + n) ≡ differ b (odd n)
odd_one_if true n = ap odd (let x : 1 + n ≡ suc n = omega arith in x)
odd_one_if false n = ap odd (let x : 0 + n ≡ n = omega arith in x)

pub member-count_le : (es : List ℕ) (n : ℕ) → member es n ≡ odd (count_le es n)
member-count_le [] n = refl
member-count_le (e ∷ es) n = ap (differ (leb e n)) (member-count_le es n) ∙ sym (odd_one_if (leb e n) (count_le es n))
