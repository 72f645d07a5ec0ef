-- What is found in a map with each of its values made into another thing, and how it changes.
use Rattle.std.proofs.Common.{◌≡◌, ℕ, Bool, true, false, ◌&&◌, ◌||◌, cond, List, [], ◌∷◌, Option, Some, None, refl}
use Rattle.std.specs.Prelude.{T}
use Rattle.std.specs.List.{list_any}
use Rattle.std.proofs.Common.{ap, sym, ◌∙◌, subst, arith, length}
use Rattle.std.specs.Ordering.{nat_cmp, eq_by_cmp, is_lt}
use Rattle.std.specs.Cmp.{nat_cmp_total}
use Rattle.std.specs.Option.{option_map}
use Rattle.std.specs.FinMap.{FinMap, get, insert, remove, empty, entries, entries_sorted, find, is_sorted}
use Rattle.std.specs.FinMap.{get-insert, get-remove, get-empty, get-entries, get-from_sorted, entries-from_sorted}
use Rattle.std.specs.FinMap.{same_map, nat_cmp-IsAntisymmetric, len-entries, len-empty}
use Rattle.std.specs.FinMap.Entries.{below_all}
use Rattle.lane_state.specs.MapValues.{entry_values, map_values}

module _ {X Y : Type 0} (f : X → Y) where
  below-values : (x : ℕ) (es : List (ℕ × X)) → below_all nat_cmp x (entry_values f es) ≡ below_all nat_cmp x es
  below-values x [] = refl
  below-values x (e ∷ es) = ap (λ b. is_lt (nat_cmp x e.0) && b) (below-values x es)

  sorted-values : (es : List (ℕ × X)) → is_sorted nat_cmp (entry_values f es) ≡ is_sorted nat_cmp es
  sorted-values [] = refl
  sorted-values (e ∷ es) = λ i. below-values e.0 es i && sorted-values es i

  found-values : (q : ℕ) (es : List (ℕ × X)) → find nat_cmp q (entry_values f es) ≡ option_map f (find nat_cmp q es)
  found-values q [] = refl
  found-values q (e ∷ es) = by (found-values q es) (eq_by_cmp nat_cmp q e.0)
    where
      by : find nat_cmp q (entry_values f es) ≡ option_map f (find nat_cmp q es) → (b : Bool) →
          cond b (Some (f e.1)) (find nat_cmp q (entry_values f es))
          ≡ option_map f (cond b (Some e.1) (find nat_cmp q es))
      by rest true = refl
      by rest false = rest

  is-sorted : (m : FinMap nat_cmp X) → T (is_sorted nat_cmp (entry_values f (entries m)))
  is-sorted m = subst T (sym (sorted-values (entries m))) (entries_sorted m)

  pub entries-map_values : (m : FinMap nat_cmp X) → entries (map_values f m) ≡ entry_values f (entries m)
  unfolding map_values
  entries-map_values m = entries-from_sorted nat_cmp (entry_values f (entries m)) (is-sorted m)

  pub get-map_values : (m : FinMap nat_cmp X) (k : ℕ) → get (map_values f m) k ≡ option_map f (get m k)
  unfolding map_values
  get-map_values m k =
      get-from_sorted nat_cmp (entry_values f (entries m)) k (is-sorted m)
      ∙ found-values k (entries m) ∙ ap (option_map f) (sym (get-entries m k))

  made : (b : Bool) (x y : Option X) → option_map f (cond b x y) ≡ cond b (option_map f x) (option_map f y)
  made true x y = refl
  made false x y = refl

  pub map_values-insert : (m : FinMap nat_cmp X) (k : ℕ) (v : X) →
      map_values f (insert m k v) ≡ insert (map_values f m) k (f v)
  map_values-insert m k v = same_map nat_cmp_total nat_cmp-IsAntisymmetric _ _ (λ q.
      get-map_values (insert m k v) q ∙ ap (option_map f) (get-insert nat_cmp_total m k v q)
      ∙ made (eq_by_cmp nat_cmp q k) (Some v) (get m q)
      ∙ ap (cond (eq_by_cmp nat_cmp q k) (Some (f v))) (sym (get-map_values m q))
      ∙ sym (get-insert nat_cmp_total (map_values f m) k (f v) q))

  pub map_values-remove : (m : FinMap nat_cmp X) (k : ℕ) → map_values f (remove m k) ≡ remove (map_values f m) k
  map_values-remove m k = same_map nat_cmp_total nat_cmp-IsAntisymmetric _ _ (λ q.
      get-map_values (remove m k) q ∙ ap (option_map f) (get-remove nat_cmp_total m k q)
      ∙ made (eq_by_cmp nat_cmp q k) None (get m q)
      ∙ ap (cond (eq_by_cmp nat_cmp q k) None) (sym (get-map_values m q))
      ∙ sym (get-remove nat_cmp_total (map_values f m) k q))

  pub map_values-empty : map_values f empty ≡ empty
  map_values-empty = same_map nat_cmp_total nat_cmp-IsAntisymmetric _ _ (λ q.
      get-map_values empty q ∙ ap (option_map f) (get-empty nat_cmp q) ∙ sym (get-empty nat_cmp q))

nothing_left : {A : Type 0} (es : List A) → length es ≡ 0 → es ≡ []
nothing_left [] e = refl
nothing_left (x ∷ es) e = absurd (omega arith)

pub entries-empty : {X : Type 0} → entries (empty {X = X} {R = nat_cmp}) ≡ []
entries-empty {X} =
    nothing_left (entries (empty {X = X} {R = nat_cmp}))
    (sym (len-entries (empty {X = X} {R = nat_cmp})) ∙ len-empty nat_cmp X)

module _ {X Y : Type 0} (f : X → Y) where
  pub image-some : (m : FinMap nat_cmp X) (k : ℕ) (x : X) → get m k ≡ Some x → get (map_values f m) k ≡ Some (f x)
  image-some m k x found = get-map_values f m k ∙ ap (option_map f) found

  pub image-none : (m : FinMap nat_cmp X) (k : ℕ) → get m k ≡ None → get (map_values f m) k ≡ None
  image-none m k none = get-map_values f m k ∙ ap (option_map f) none

  any-values : (test : ℕ × Y → Bool) (es : List (ℕ × X)) →
      list_any test (entry_values f es) ≡ list_any (λ e. test (e.0, f e.1)) es
  any-values test [] = refl
  any-values test (e ∷ es) = ap (λ b. test (e.0, f e.1) || b) (any-values test es)

  -- some entry passes a test
  pub any-map_values : (test : ℕ × Y → Bool) (m : FinMap nat_cmp X) →
      list_any test (entries (map_values f m)) ≡ list_any (λ e. test (e.0, f e.1)) (entries m)
  any-map_values test m = ap (list_any test) (entries-map_values f m) ∙ any-values test (entries m)
