-- Sums over the maps of a driver: how often a byte is lent.
use Rattle.std.proofs.Common.{◌≡◌, ℕ, ◌+◌, ◌<◌, ◌&&◌, ◌||◌, not, ◌==◌, Bool, true, false, cond, T}
use Rattle.std.proofs.Common.{List, [], ◌∷◌, Option, Some, None, unwrap_or, nat_lt, refl, sym, ap, ◌∙◌, subst, arith}
use Rattle.std.proofs.lemmas.Bool.Decides.{nat_tests}
use Rattle.std.specs.List.{list_any, sum_by}
use Rattle.std.proofs.lemmas.List.Sums.{sum_by-cons}
use Rattle.std.specs.declared.cmp.Ordering.{Ordering}
use Rattle.std.specs.declared.cmp.Ordering.TheVariants.{Less, Equal, Greater}
use Rattle.std.specs.Ordering.{nat_cmp, eq_by_cmp, is_eq, is_lt}
use Rattle.std.specs.Cmp.{nat_cmp_total, unsigned_tied, eq_by_cmp_equiv, nat_eq_equiv}
use Rattle.std.specs.FinMap.Entries.{find, where_key, below_all, is_sorted, find-where_key, is_sorted-where_key}
use Rattle.std.specs.FinMap.{get, insert, remove, entries, entries_sorted, from_sorted, entries-from_sorted}
use Rattle.std.specs.FinMap.{get-from_sorted, get-entries, get-insert, get-remove}
use Rattle.std.specs.FinMap.{same_map, nat_cmp-IsAntisymmetric}
use Rattle.busdma_rules.specs.declared.position.Position.{Position}
use Rattle.busdma_rules.specs.Lending.Loans.{Loan, Loans, loan_of, no_loan, in_any_way, is_at, lends, lent}
use Rattle.busdma_rules.specs.Lending.Loans.{lent_elsewhere, to_read, to_write}
use Rattle.loan_table.specs.Counted.{counted_places, lent_places}
use Rattle.busdma_rules.proofs.Lending.Marking.{loan_of-insert}

-- a test of a list holds if and only if a sum over the list is not 0
either : (a b : ℕ) → (nat_lt 0 a || nat_lt 0 b) ≡ nat_lt 0 (a + b)
either a b = grind (arith, nat_tests)

pub any_sum : {X : Type 0} (q : X → Bool) (f : X → ℕ) → ((x : X) → q x ≡ nat_lt 0 (f x)) → (xs : List X) →
    list_any q xs ≡ nat_lt 0 (sum_by f xs)
any_sum q f same [] = refl
any_sum q f same (x ∷ xs) = ap (λ b. b || list_any q xs) (same x) ∙ ap (λ b. nat_lt 0 (f x) || b) (any_sum q f same xs)
    ∙ either (f x) (sum_by f xs) ∙ ap (nat_lt 0) (sym (sum_by-cons f x xs))

one : (b : Bool) → b ≡ nat_lt 0 (cond b 1 0)
one true = refl
one false = refl

pub lends_places : (way : Position → Bool) (a : ℕ) (loan : Loan) → lends way a loan ≡ nat_lt 0
    (counted_places way a loan.positions)
lends_places way a loan = any_sum (λ p. is_at a p && way p) (λ p. cond (is_at a p && way p) 1 0)
    (λ p. one (is_at a p && way p)) loan.positions

-- the keys other than a given one
abbrev others : ℕ → ℕ → Bool
others m x = not (eq_by_cmp nat_cmp m x)

module _ (f : Loan → ℕ) (none : f no_loan ≡ 0) where
  abbrev total : List (ℕ × Loan) → ℕ
  total es = sum_by (λ e. f e.1) es

  all_others : (m : ℕ) (es : List (ℕ × Loan)) → T (below_all nat_cmp m es) →
      total (where_key nat_cmp (others m) es) ≡ total es
  all_others m [] h = refl
  all_others m (e ∷ es) h = by (nat_cmp m e.0) h (all_others m es)
    where
      by : (r : Ordering) → T (is_lt r && below_all nat_cmp m es) →
          (T (below_all nat_cmp m es) → total (where_key nat_cmp (others m) es) ≡ total es) →
          total (cond (not (is_eq r)) (e ∷ where_key nat_cmp (others m) es) (where_key nat_cmp (others m) es))
          ≡ total (e ∷ es)
      by Less k later = sum_by-cons (λ e. f e.1) e (where_key nat_cmp (others m) es)
          ∙ ap (λ n. f e.1 + n) (later k) ∙ sym (sum_by-cons (λ e. f e.1) e es)
      by Equal k later = absurd k
      by Greater k later = absurd k

  second : (a b : Bool) → T (a && b) → T b
  second true b h = h
  second false b h = absurd h

  first : (a b : Bool) → T (a && b) → T a
  first true b h = tt
  first false b h = absurd h

  taken : (m : ℕ) (es : List (ℕ × Loan)) → T (is_sorted nat_cmp es) →
      total (where_key nat_cmp (others m) es) + f (unwrap_or (find nat_cmp m es) no_loan) ≡ total es
  taken m [] h = omega (arith, none)
  taken m (e ∷ es) h = by (nat_cmp m e.0) refl (taken m es (second _ _ h))
      (λ same. all_others m es (subst (λ k. T (below_all nat_cmp k es)) (sym same) (first _ _ h)))
    where
      by : (r : Ordering) → nat_cmp m e.0 ≡ r →
          total (where_key nat_cmp (others m) es) + f (unwrap_or (find nat_cmp m es) no_loan) ≡ total es →
          (m ≡ e.0 → total (where_key nat_cmp (others m) es) ≡ total es) →
          total (cond (not (is_eq r)) (e ∷ where_key nat_cmp (others m) es) (where_key nat_cmp (others m) es))
          + f (unwrap_or (cond (is_eq r) (Some e.1) (find nat_cmp m es)) no_loan) ≡ total (e ∷ es)
      by Less p later here =
          omega (
            arith,
            later,
            sum_by-cons (λ x. f x.1) e (where_key nat_cmp (others m) es),
            sum_by-cons (λ x. f x.1)
                e es,
          )
      by Greater p later here =
          omega (
            arith,
            later,
            sum_by-cons (λ x. f x.1) e (where_key nat_cmp (others m) es),
            sum_by-cons (λ x. f x.1)
                e es,
          )
      by Equal p later here = let same : total (where_key nat_cmp (others m) es) ≡ total es =
          here (nat_cmp-IsAntisymmetric m e.0 p) in
          omega (arith, same, sum_by-cons (λ x. f x.1) e es)

turned : {A : Type 0} (b : Bool) (x y : A) → cond (not b) x y ≡ cond b y x
turned true x y = refl
turned false x y = refl

entries-remove : (loans : Loans) (m : ℕ) → entries (remove loans m) ≡ where_key nat_cmp (others m) (entries loans)
entries-remove loans m =
    let es = where_key nat_cmp (others m) (entries loans) in
    let sorted : T (is_sorted nat_cmp es) = is_sorted-where_key nat_cmp (others m) (entries loans)
    (entries_sorted loans) in
    ap entries (same_map nat_cmp_total nat_cmp-IsAntisymmetric (remove loans m) (from_sorted es) (λ q.
    get-remove nat_cmp_total loans m q
    ∙ ap (λ b. cond b None (get loans q)) ((eq_by_cmp_equiv nat_cmp_total).symm q m)
    ∙ sym (turned (eq_by_cmp nat_cmp m q) (get loans q) None)
    ∙ ap (λ o. cond (others m q) o None) (get-entries loans q)
    ∙ sym (find-where_key nat_cmp (others m) q (λ x e. ap (others m) (sym (nat_cmp-IsAntisymmetric q x e)))
    (entries loans))
    ∙ sym (get-from_sorted nat_cmp es q sorted)))
    ∙ entries-from_sorted nat_cmp es sorted

module _ (way : Position → Bool) (a : ℕ) (loans : Loans) (m : ℕ) where
  pub places-remove : lent_places way a (remove loans m) + counted_places way a (loan_of loans m).positions
      ≡ lent_places way a loans
  places-remove =
      ap (λ es. sum_by (λ (e : ℕ × Loan). counted_places way a e.1.positions) es
      + counted_places way a (loan_of loans m).positions)
      (entries-remove loans m)
      ∙ ap (λ o. sum_by (λ (e : ℕ × Loan). counted_places way a e.1.positions)
      (where_key nat_cmp (others m) (entries loans))
      + counted_places way a (unwrap_or o no_loan).positions) (get-entries loans m)
      ∙ taken (λ l. counted_places way a l.positions) refl m (entries loans) (entries_sorted loans)

  back : (new : Loan) → remove (insert loans m new) m ≡ remove loans m
  back new = same_map nat_cmp_total nat_cmp-IsAntisymmetric _ _ (λ q.
      get-remove nat_cmp_total (insert loans m new) m q
      ∙ ap (cond (eq_by_cmp nat_cmp q m) None) (get-insert nat_cmp_total loans m new q)
      ∙ by (eq_by_cmp nat_cmp q m) (get loans q) ∙ sym (get-remove nat_cmp_total loans m q))
    where
      by : (b : Bool) (o : Option Loan) → cond b None (cond b (Some new) o) ≡ cond b None o
      by true o = refl
      by false o = refl

  here : (new : Loan) → loan_of (insert loans m new) m ≡ new
  here new = loan_of-insert loans m new m
      ∙ ap (λ b. cond b new (loan_of loans m)) (unsigned_tied m m ∙ nat_eq_equiv.refl m)

pub places-insert : (way : Position → Bool) (a : ℕ) (loans : Loans) (m : ℕ) (new : Loan) →
    lent_places way a (insert loans m new) + counted_places way a (loan_of loans m).positions
    ≡ lent_places way a loans + counted_places way a new.positions
places-insert way a loans m new =
    let put : lent_places way a (remove loans m) + counted_places way a new.positions ≡ lent_places way a
    (insert loans m new) =
    ap (λ ls. lent_places way a ls + counted_places way a new.positions) (sym (back way a loans m new))
    ∙ ap (λ l. lent_places way a (remove (insert loans m new) m) + counted_places way a l.positions)
    (sym (here way a loans m new))
    ∙ places-remove way a (insert loans m new) m in
    omega (arith, put, places-remove way a loans m)

-- a byte is lent exactly if it is counted, and lent elsewhere exactly if it is counted more often than here
pub lent_counted : (way : Position → Bool) (a : ℕ) (loans : Loans) → lent way a loans ≡ nat_lt 0
    (lent_places way a loans)
lent_counted way a loans = any_sum (λ e. lends way a e.1) (λ e. counted_places way a e.1.positions)
    (λ e. lends_places way a e.1) (entries loans)

pub is_lent : (way : Position → Bool) (a : ℕ) (loans : Loans) (n : ℕ) → n ≡ lent_places way a loans → 0 < n →
    lent way a loans ≡ true
is_lent way a loans n e some = lent_counted way a loans ∙ ap (nat_lt 0) (sym e) ∙ more n some
  where
    more : (n : ℕ) → 0 < n → nat_lt 0 n ≡ true
    more n h = grind (arith, nat_tests)

pub not_lent : (way : Position → Bool) (a : ℕ) (loans : Loans) (n : ℕ) → n ≡ lent_places way a loans → n ≡ 0 →
    lent way a loans ≡ false
not_lent way a loans n e none = lent_counted way a loans ∙ ap (nat_lt 0) (sym e ∙ none)

any_where : (q : Loan → Bool) (m : ℕ) (es : List (ℕ × Loan)) →
    list_any (λ e. not (e.0 == m) && q e.1) es ≡ list_any (λ e. q e.1) (where_key nat_cmp (others m) es)
any_where q m [] = refl
any_where q m (e ∷ es) =
    ap (λ b. (not b && q e.1) || list_any (λ x. not (x.0 == m) && q x.1) es)
    (sym ((eq_by_cmp_equiv nat_cmp_total).symm m e.0 ∙ unsigned_tied e.0 m))
    ∙ by (eq_by_cmp nat_cmp m e.0) (any_where q m es)
  where
    by : (b : Bool) → list_any (λ x. not (x.0 == m) && q x.1) es ≡ list_any (λ x. q x.1)
        (where_key nat_cmp (others m) es) →
        ((not b && q e.1) || list_any (λ x. not (x.0 == m) && q x.1) es)
        ≡ list_any (λ x. q x.1) (cond (not b) (e ∷ where_key nat_cmp (others m) es) (where_key nat_cmp (others m) es))
    by true rest = rest
    by false rest = ap (λ b. q e.1 || b) rest

less : (a b c : ℕ) → a + b ≡ c → nat_lt 0 a ≡ nat_lt b c
less a b c e = grind (arith, nat_tests)

pub elsewhere_counted : (way : Position → Bool) (a : ℕ) (loans : Loans) (m : ℕ) →
    lent_elsewhere way m a loans ≡ nat_lt (counted_places way a (loan_of loans m).positions) (lent_places way a loans)
elsewhere_counted way a loans m =
    any_where (lends way a) m (entries loans)
    ∙ ap (list_any (λ e. lends way a e.1)) (sym (entries-remove loans m))
    ∙ lent_counted way a (remove loans m)
    ∙ less _ _ _ (places-remove way a loans m)

-- one of a list passes a test if and only if one passes one of its two parts
any_or : {X : Type 0} (q r s : X → Bool) → ((x : X) → q x ≡ (r x || s x)) → (xs : List X) →
    list_any q xs ≡ (list_any r xs || list_any s xs)
any_or q r s same [] = refl
any_or q r s same (x ∷ xs) =
    ap (λ b. b || list_any q xs) (same x) ∙ ap (λ b. (r x || s x) || b) (any_or q r s same xs)
    ∙ mixed (r x) (s x) (list_any r xs) (list_any s xs)
  where
    mixed : (a b c d : Bool) → ((a || b) || (c || d)) ≡ ((a || c) || (b || d))
    mixed true b c d = refl
    mixed false true true d = refl
    mixed false true false d = refl
    mixed false false c d = refl

and_or : (a b c : Bool) → (a && (b || c)) ≡ ((a && b) || (a && c))
and_or true b c = refl
and_or false b c = refl

-- a byte is lent in any way exactly if it is lent to read or to write
lends_any : (a : ℕ) (loan : Loan) → lends in_any_way a loan ≡ (lends to_read a loan || lends to_write a loan)
lends_any a loan =
    any_or (λ p. is_at a p && in_any_way p) (λ p. is_at a p && to_read p) (λ p. is_at a p && to_write p)
    (λ p. and_or (is_at a p) p.to_read p.to_write) loan.positions

pub lent_any : (a : ℕ) (loans : Loans) → lent in_any_way a loans ≡ (lent to_read a loans || lent to_write a loans)
lent_any a loans =
    any_or (λ e. lends in_any_way a e.1) (λ e. lends to_read a e.1) (λ e. lends to_write a e.1)
    (λ e. lends_any a e.1) (entries loans)

pub elsewhere_any : (m a : ℕ) (loans : Loans) → lent_elsewhere in_any_way m a loans
    ≡ (lent_elsewhere to_read m a loans || lent_elsewhere to_write m a loans)
elsewhere_any m a loans =
    any_or (λ e. not (e.0 == m) && lends in_any_way a e.1) (λ e. not (e.0 == m) && lends to_read a e.1)
    (λ e. not (e.0 == m) && lends to_write a e.1)
    (λ e. ap (λ b. not (e.0 == m) && b) (lends_any a e.1)
    ∙ and_or (not (e.0 == m)) (lends to_read a e.1) (lends to_write a e.1)) (entries loans)
