-- Who lends a byte.
use Rattle.std.proofs.Common.{◌≡◌, ◌≢◌, ℕ, zero, suc, ◌+◌, ◌<◌, ◌≤◌, Bool, true, false, cond, not, ◌&&◌, ◌||◌, ◌==◌}
use Rattle.std.proofs.Common.{List, [], ◌∷◌, slice_get, Option, Some, None, unwrap_or, refl, sym, ap, ◌∙◌, eq-eqb}
use Rattle.std.proofs.Common.{arith}
use Rattle.std.proofs.lemmas.Bool.{ne_eqb, lt-ltb}
use Rattle.std.proofs.lemmas.List.Sums.{sum_by-cons}
use Rattle.std.proofs.lemmas.Map.Views.{exact_unsigned_eq}
use Rattle.std.specs.Prelude.{T, count_by}
use Rattle.std.specs.List.{list_any}
use Rattle.std.specs.declared.cmp.Ordering.{Ordering}
use Rattle.std.specs.declared.cmp.Ordering.TheVariants.{Less, Equal, Greater}
use Rattle.std.specs.Ordering.{nat_cmp, eq_by_cmp, is_lt, MatchOrdering}
use Rattle.std.specs.Cmp.{unsigned_tied, ranks}
use Rattle.std.specs.FinMap.{get, entries, entries_sorted, get-entries}
use Rattle.std.specs.FinMap.Entries.{find, is_sorted, below_all}
use Rattle.busdma_rules.specs.declared.position.Position.{Position}
use Rattle.busdma_rules.specs.Lending.Loans.{Loan, Loans, loan_of, no_loan, is_at, lends, lent, lent_elsewhere}
use Rattle.busdma_rules.specs.Lending.Loans.{stands_twice}
use Rattle.ideal_wire.specs.Centre.{IsAt}
use Rattle.ideal_wire.proofs.Laid.Positions.{found_one}

or_true : (a b : Bool) → b ≡ true → (a || b) ≡ true
or_true true b h = refl
or_true false b h = h

both : (a b : Bool) → a ≡ true → b ≡ true → (a && b) ≡ true
both a b h k = ap (λ x. x && b) h ∙ k

parts : (a b : Bool) → (a && b) ≡ true → (a ≡ true) × (b ≡ true)
parts true b h = (refl, h)
parts false b h = absurd (cc)

T_parts : (a b : Bool) → T (a && b) → T a × T b
T_parts true b h = (tt, h)
T_parts false b h = absurd h

pub any_at : {X : Type 0} (test : X → Bool) (xs : List X) (i : ℕ) (x : X) →
    slice_get xs i ≡ Some x → test x ≡ true → list_any test xs ≡ true
any_at test [] i x h k = absurd (cc)
any_at test (y ∷ xs) zero x h k = ap (λ b. b || list_any test xs) (ap test (found_one (Some y) y x refl h) ∙ k)
any_at test (y ∷ xs) (suc i) x h k = or_true (test y) _ (any_at test xs i x h k)

pub record Passing {X : Type 0} (test : X → Bool) (xs : List X) : Type 0 where
  pub place : ℕ
  pub item : X
  pub found : slice_get xs place ≡ Some item
  pub passes : test item ≡ true

pub any_found : {X : Type 0} (test : X → Bool) (xs : List X) → list_any test xs ≡ true → Passing test xs
any_found test [] h = absurd (cc)
any_found test (y ∷ xs) h = by (test y) refl (any_found test xs) h
  where
    by : (b : Bool) → test y ≡ b → (list_any test xs ≡ true → Passing test xs) →
        (b || list_any test xs) ≡ true → Passing test (y ∷ xs)
    by true e rest h = record { place = 0; item = y; found = refl; passes = e }
    by false e rest h = let r =
        rest h in record { place = suc r.place; item = r.item; found = r.found; passes = r.passes }

-- ---- loans among their entries
pub find_any : {X : Type 0} (test : ℕ × X → Bool) (es : List (ℕ × X)) (m : ℕ) (loan : X) →
    find nat_cmp m es ≡ Some loan → test (m, loan) ≡ true → list_any test es ≡ true
find_any test [] m loan h k = absurd (cc)
find_any test (e ∷ es) m loan h k = by (eq_by_cmp nat_cmp m e.0) refl (λ q. find_any test es m loan q k) h
  where
    by : (b : Bool) → eq_by_cmp nat_cmp m e.0 ≡ b → (find nat_cmp m es ≡ Some loan → list_any test es ≡ true) →
        cond b (Some e.1) (find nat_cmp m es) ≡ Some loan → (test e || list_any test es) ≡ true
    by true t rest h =
        let key : m ≡ e.0 = exact_unsigned_eq m e.0 (sym (unsigned_tied m e.0) ∙ t) in
        let value : loan ≡ e.1 = found_one (Some e.1) loan e.1 h refl in
        ap (λ b. b || list_any test es) (sym (λ i. test (key i, value i)) ∙ k)
    by false t rest h = or_true (test e) _ (rest h)

pub record Entry {X : Type 0} (test : ℕ × X → Bool) (es : List (ℕ × X)) : Type 0 where
  pub key : ℕ
  pub value : X
  pub found : find nat_cmp key es ≡ Some value
  pub passes : test (key, value) ≡ true

rises : (o : Ordering) (A B C : Type 0) → MatchOrdering o A B C → T (is_lt o) → A
rises Less A B C h t = h
rises Equal A B C h t = absurd t
rises Greater A B C h t = absurd t

above : {X : Type 0} (x : ℕ) (es : List (ℕ × X)) (m : ℕ) (loan : X) →
    T (below_all nat_cmp x es) → find nat_cmp m es ≡ Some loan → x < m
above x [] m loan h k = absurd (cc)
above x (e ∷ es) m loan h k = by (eq_by_cmp nat_cmp m e.0) refl (above x es m loan (T_parts _ _ h).1) k
  where
    by : (b : Bool) → eq_by_cmp nat_cmp m e.0 ≡ b → (find nat_cmp m es ≡ Some loan → x < m) →
        cond b (Some e.1) (find nat_cmp m es) ≡ Some loan → x < m
    by true t rest k =
        let key : m ≡ e.0 = exact_unsigned_eq m e.0 (sym (unsigned_tied m e.0) ∙ t) in
        let lt : x < e.0 = rises (nat_cmp x e.0) _ _ _ (ranks x e.0) (T_parts _ _ h).0 in
        omega (arith, key, lt)
    by false t rest k = rest k

pub any_entry : {X : Type 0} (test : ℕ × X → Bool) (es : List (ℕ × X)) →
    T (is_sorted nat_cmp es) → list_any test es ≡ true → Entry test es
any_entry test [] s h = absurd (cc)
any_entry test (e ∷ es) s h = by (test e) refl (any_entry test es (T_parts _ _ s).1) h
  where
    by : (b : Bool) → test e ≡ b → (list_any test es ≡ true → Entry test es) →
        (b || list_any test es) ≡ true → Entry test (e ∷ es)
    by true t rest h = record {
      key = e.0;
      value = e.1;
      found = ap (λ b. cond b (Some e.1) (find nat_cmp e.0 es)) (unsigned_tied e.0 e.0 ∙ eq-eqb e.0 e.0 refl);
      passes = t;
    }
    by false t rest h =
        let r = rest h in
        let lt : e.0 < r.key = above e.0 es r.key r.value (T_parts _ _ s).0 r.found in
        let ne : r.key ≢ e.0 = (λ q. absurd (omega (arith, q, lt))) in
        record {
          key = r.key;
          value = r.value;
          found = ap (λ b. cond b (Some e.1) (find nat_cmp r.key es)) (unsigned_tied r.key e.0 ∙ ne_eqb r.key e.0 ne)
              ∙ r.found;
          passes = r.passes;
        }

-- an entry is found by its key
pub entry_found : {X : Type 0} (es : List (ℕ × X)) → T (is_sorted nat_cmp es) → (i : ℕ) (e : ℕ × X) →
    slice_get es i ≡ Some e → find nat_cmp e.0 es ≡ Some e.1
entry_found [] s i e h = absurd (cc)
entry_found (y ∷ es) s zero e h =
    ap (λ b. cond b (Some y.1) (find nat_cmp e.0 es))
    (unsigned_tied e.0 y.0 ∙ eq-eqb e.0 y.0 (ap (λ (q : ℕ × _). q.0) (sym (found_one (Some y) y e refl h))))
    ∙ ap (λ (q : ℕ × _). Some q.1) (found_one (Some y) y e refl h)
entry_found (y ∷ es) s (suc i) e h =
    let there : find nat_cmp e.0 es ≡ Some e.1 = entry_found es (T_parts _ _ s).1 i e h in
    by there (above y.0 es e.0 e.1 (T_parts _ _ s).0 there)
  where
    by : find nat_cmp e.0 es ≡ Some e.1 → y.0 < e.0 → find nat_cmp e.0 (y ∷ es) ≡ Some e.1
    by there lt =
        ap (λ b. cond b (Some y.1) (find nat_cmp e.0 es))
        (unsigned_tied e.0 y.0 ∙ ne_eqb e.0 y.0 (λ q. absurd (omega (arith, q, lt))))
        ∙ there

-- a map with a position is loaded
pub loaded_at : (loans : Loans) (m i : ℕ) (p : Position) → IsAt loans m i p → get loans m ≡ Some (loan_of loans m)
loaded_at loans m i p h = by (get loans m) refl h
  where
    by : (o : Option Loan) → get loans m ≡ o →
        slice_get (unwrap_or o no_loan).positions i ≡ Some p → o ≡ Some (unwrap_or o no_loan)
    by None e h = absurd (cc)
    by (Some loan) e h = refl

lends_at : (way : Position → Bool) (a : ℕ) (loan : Loan) (i : ℕ) (p : Position) → slice_get loan.positions i ≡ Some p →
    p.pa ≡ a → way p ≡ true → lends way a loan ≡ true
lends_at way a loan i p h e k =
    any_at (λ q. is_at a q && way q) loan.positions i p h (both (p.pa == a) (way p) (eq-eqb p.pa a e) k)

-- a byte is lent if a position lends it
pub lent_by : (way : Position → Bool) (a : ℕ) (loans : Loans) (m i : ℕ) (p : Position) → IsAt loans m i p →
    p.pa ≡ a → way p ≡ true → lent way a loans ≡ true
lent_by way a loans m i p h e k =
    find_any (λ x. lends way a x.1) (entries loans) m (loan_of loans m)
    (sym (get-entries loans m) ∙ loaded_at loans m i p h)
    (lends_at way a (loan_of loans m) i p h e k)

-- a byte is lent elsewhere if a position of another map lends it
pub lent_by_another : (way : Position → Bool) (a : ℕ) (loans : Loans) (m n i : ℕ) (p : Position) → n ≢ m →
    IsAt loans n i p → p.pa ≡ a → way p ≡ true → lent_elsewhere way m a loans ≡ true
lent_by_another way a loans m n i p ne h e k =
    find_any (λ x. not (x.0 == m) && lends way a x.1) (entries loans) n (loan_of loans n)
    (sym (get-entries loans n) ∙ loaded_at loans n i p h)
    (both _ _ (ap not (ne_eqb n m ne)) (lends_at way a (loan_of loans n) i p h e k))

pub record Lender (way : Position → Bool) (a : ℕ) (loans : Loans) : Type 0 where
  pub by_map : ℕ
  pub place : ℕ
  pub position : Position
  pub at : IsAt loans by_map place position
  pub same : position.pa ≡ a
  pub lends : way position ≡ true

-- a byte that is lent is so by a position
pub lender_of : (way : Position → Bool) (a : ℕ) (loans : Loans) → lent way a loans ≡ true → Lender way a loans
lender_of way a loans h =
    let e = any_entry (λ x. lends way a x.1) (entries loans) (entries_sorted loans) h in
    let q = any_found (λ p. is_at a p && way p) e.value.positions e.passes in
    let found : loan_of loans e.key ≡ e.value = ap (λ o. unwrap_or o no_loan) (get-entries loans e.key ∙ e.found) in
    let two = parts (q.item.pa == a) (way q.item) q.passes in
    record {
      by_map = e.key;
      place = q.place;
      position = q.item;
      at = ap (λ (l : Loan). slice_get l.positions q.place) found ∙ q.found;
      same = exact_unsigned_eq q.item.pa a two.0;
      lends = two.1;
    }

-- ---- a byte that is there twice
counted : {X : Type 0} (test : X → Bool) (y : X) (xs : List X) (b : Bool) → test y ≡ b →
    count_by test (y ∷ xs) ≡ cond b 1 0 + count_by test xs
counted test y xs b e = sum_by-cons (λ x. cond (test x) 1 0) y xs ∙ ap (λ c. cond c 1 0 + count_by test xs) e

pub counted_one : {X : Type 0} (test : X → Bool) (xs : List X) (i : ℕ) (x : X) →
    slice_get xs i ≡ Some x → test x ≡ true → 1 ≤ count_by test xs
counted_one test [] i x h k = absurd (cc)
counted_one test (y ∷ xs) zero x h k = let c =
    counted test y xs true (ap test (found_one (Some y) y x refl h) ∙ k) in omega (arith, c)
counted_one test (y ∷ xs) (suc i) x h k = let c = counted test y xs (test y) refl in let r =
    counted_one test xs i x h k in omega (arith, c, r)

pub counted_two : {X : Type 0} (test : X → Bool) (xs : List X) (i j : ℕ) (x y : X) → slice_get xs i ≡ Some x →
    slice_get xs j ≡ Some y → test x ≡ true → test y ≡ true → i ≢ j → 2 ≤ count_by test xs
counted_two test [] i j x y h k p q ne = absurd (cc)
counted_two test (z ∷ xs) zero zero x y h k p q ne = absurd (ne refl)
counted_two test (z ∷ xs) zero (suc j) x y h k p q ne =
    let c = counted test z xs true (ap test (found_one (Some z) z x refl h) ∙ p) in let r =
    counted_one test xs j y k q in omega (arith, c, r)
counted_two test (z ∷ xs) (suc i) zero x y h k p q ne =
    let c = counted test z xs true (ap test (found_one (Some z) z y refl k) ∙ q) in let r =
    counted_one test xs i x h p in omega (arith, c, r)
counted_two test (z ∷ xs) (suc i) (suc j) x y h k p q ne =
    let c = counted test z xs (test z) refl in let r =
    counted_two test xs i j x y h k p q (λ e. ne (ap suc e)) in omega (arith, c, r)

pub standing_twice : (a : ℕ) (loan : Loan) (i j : ℕ) (p q : Position) → slice_get loan.positions i ≡ Some p →
    slice_get loan.positions j ≡ Some q → p.pa ≡ a → q.pa ≡ a → i ≢ j → stands_twice a loan ≡ true
standing_twice a loan i j p q h k e f ne =
    lt-ltb 1 (count_by (is_at a) loan.positions)
    (counted_two (is_at a) loan.positions i j p q h k (eq-eqb p.pa a e) (eq-eqb q.pa a f) ne)
