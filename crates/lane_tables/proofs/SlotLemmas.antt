-- What a table of values by script place finds, and how a put and a take change it.
use Rattle.std.proofs.Common.{T, ◌≡◌, ◌≢◌, ◌⊎◌, ℕ, zero, suc, ◌+◌, ◌-◌, ◌<◌, Bool, true, false, cond, ◌&&◌, List, []}
use Rattle.std.proofs.Common.{◌∷◌}
use Rattle.std.proofs.Common.{length, get_or, set, replicate, Option, Some, None, IsSome, refl, sym, ap, subst, ◌∙◌}
use Rattle.std.proofs.Common.{inl, inr, zero-add, arith, count_by, is_some, ◌++◌, ◌^◌, length-append}
use Rattle.std.proofs.lemmas.Bool.{cases_eq, lt-ltb}
use Rattle.std.proofs.lemmas.Bool.Decides.{nat_tests}
use Rattle.std.proofs.lemmas.List.{get_or-set_same, get_or-set_other, get_or_past, length-set}
use Rattle.std.proofs.lemmas.List.Sums.{sum_by-set}
use Rattle.std.proofs.Math.ListN.{get_or-map}
use Rattle.std.specs.Ordering.{nat_cmp, is_lt, eq_by_cmp}
use Rattle.std.specs.Cmp.{nat_cmp_total}
use Rattle.std.specs.FinMap.{FinMap, find, is_sorted, empty, get, get-empty, insert, remove, get-from_sorted}
use Rattle.std.specs.FinMap.{get-insert, get-remove, same_map, nat_cmp-IsAntisymmetric}
use Rattle.std.specs.FinMap.Entries.{below_all}
use Rattle.busdma_machine.proofs.Accounts.EditedSums.{count_by-append}
use Rattle.slab.specs.Slab.{Slab, get as under, ContainsKey, Updates, entries_from, slab_len, with_value}
use Rattle.lane_tables.specs.Lends.{with_value as table_with}
use Rattle.lane_tables.specs.Slots.{value_under, slots, by_place, IsKept}

both : (a b : Bool) → T a → T b → T (a && b)
both true b p q = q
both false b p q = absurd p

-- a smaller number compares as less
earlier : (x y : ℕ) → x < y → T (is_lt (nat_cmp x y))
earlier x y h = rw (lt-ltb x y h) tt

same_key : (x : ℕ) → eq_by_cmp nat_cmp x x ≡ true
same_key x = grind (arith, nat_tests)

other_key : (x y : ℕ) → x ≢ y → eq_by_cmp nat_cmp x y ≡ false
other_key x y h = grind (arith, nat_tests)

-- no place has a key
nothing_at : (n place : ℕ) → get_or {A = Option ℕ} (replicate n None) place None ≡ None
nothing_at zero place = refl
nothing_at (suc n) zero = refl
nothing_at (suc n) (suc place) = nothing_at n place

-- one more place has no key
nothing_more : (keys : List (Option ℕ)) (place : ℕ) →
    get_or {A = Option ℕ} (keys ++ None ∷ []) place None ≡ get_or keys place None
nothing_more [] zero = refl
nothing_more [] (suc place) = refl
nothing_more (k ∷ keys) zero = refl
nothing_more (k ∷ keys) (suc place) = nothing_more keys place

module _ {X : Type 0} where
  -- the entries of later places come after those of earlier places
  later_entries : (x first : ℕ) (values : List (Option X)) → x < first →
      T (below_all nat_cmp x (entries_from first values))
  later_entries x first [] h = tt
  later_entries x first (None ∷ rest) h = later_entries x (first + 1) rest (omega arith)
  later_entries x first (Some v ∷ rest) h =
      both _ _ (earlier x first h) (later_entries x (first + 1) rest (omega arith))

  pub sorted_entries : (first : ℕ) (values : List (Option X)) → T (is_sorted nat_cmp (entries_from first values))
  sorted_entries first [] = tt
  sorted_entries first (None ∷ rest) = sorted_entries (first + 1) rest
  sorted_entries first (Some v ∷ rest) =
      both _ _ (later_entries first (first + 1) rest (omega arith)) (sorted_entries (first + 1) rest)

  -- a place before all is not found
  none_before : (q first : ℕ) (values : List (Option X)) → q < first →
      find nat_cmp q (entries_from first values) ≡ None
  none_before q first [] h = refl
  none_before q first (None ∷ rest) h = none_before q (first + 1) rest (omega arith)
  none_before q first (Some v ∷ rest) h =
      rw (other_key q first (omega arith)) (none_before q (first + 1) rest (omega arith))

  -- a place is found with the value that it has
  find-entries_from : (first at : ℕ) (values : List (Option X)) →
      find nat_cmp (first + at) (entries_from first values) ≡ get_or values at None
  find-entries_from first at [] = refl
  find-entries_from first zero (None ∷ rest) = none_before (first + 0) (first + 1) rest (omega arith)
  find-entries_from first zero (Some v ∷ rest) =
      let here : first + 0 ≡ first = omega arith in
      rw (here, same_key first) refl
  find-entries_from first (suc at) (None ∷ rest) =
      let shift : first + suc at ≡ first + 1 + at = omega arith in
      rw shift (find-entries_from (first + 1) at rest)
  find-entries_from first (suc at) (Some v ∷ rest) =
      let shift : first + suc at ≡ first + 1 + at = omega arith in
      let later : find nat_cmp (first + suc at) (entries_from (first + 1) rest) ≡ get_or rest at None =
      rw shift (find-entries_from (first + 1) at rest) in
      rw (other_key (first + suc at) first (omega arith)) later

  -- if no slot has a value, nothing is under any key
  nothing_under : (slots : List (Option X)) (key : ℕ) → count_by is_some slots ≡ 0 → get_or slots key None ≡ None
  nothing_under [] key none = refl
  nothing_under (None ∷ rest) zero none = refl
  nothing_under (None ∷ rest) (suc key) none = nothing_under rest key none
  nothing_under (Some v ∷ rest) key none =
      absurd (omega (arith, none, count_by-append is_some (Some v ∷ []) rest))

  -- so a table of a slab without a value has no entry
  pub no_entries : (first : ℕ) (keys : List (Option ℕ)) (slab : Slab X) → slab_len slab ≡ 0 →
      entries_from first (slots keys slab) ≡ []
  no_entries first [] slab none = refl
  no_entries first (None ∷ keys) slab none = no_entries (first + 1) keys slab none
  no_entries first (Some key ∷ keys) slab none =
      rw (nothing_under slab.slots key none) (no_entries (first + 1) keys slab none)

  -- the table has at a place the value under the key that is kept for the place
  pub get-by_place : (keys : List (Option ℕ)) (slab : Slab X) (place : ℕ) →
      get (by_place keys slab) place ≡ value_under slab (get_or keys place None)
  get-by_place keys slab place =
      let found = find-entries_from 0 place (slots keys slab) in
      get-from_sorted nat_cmp _ place (sorted_entries 0 (slots keys slab))
      ∙ rw zero-add at found
      ∙ get_or-map (value_under slab) keys place None

  -- so it finds what is under the key, if the view is known by another name
  pub found_at : (keys : List (Option ℕ)) (slab : Slab X) (seen : FinMap nat_cmp X) (place : ℕ) (key : Option ℕ) →
      by_place keys slab ≡ seen → key ≡ get_or keys place None → get seen place ≡ value_under slab key
  found_at keys slab seen place key is stands =
      ap (λ m. get m place) (sym is) ∙ get-by_place keys slab place ∙ ap (value_under slab) (sym stands)

  -- with no key at any place the table is empty
  pub by_place-none : (n : ℕ) (slab : Slab X) → by_place (replicate n None) slab ≡ empty
  by_place-none n slab =
      same_map nat_cmp_total nat_cmp-IsAntisymmetric _ _ (λ q. get-by_place (replicate n None) slab q
      ∙ ap (value_under slab) (nothing_at n q) ∙ sym (get-empty nat_cmp q))

  -- if all keys but one keep what they had, so do all places but those with that key
  value_kept : (old new : Slab X) (key : ℕ) → ((other : ℕ) → other ≢ key → under new other ≡ under old other) →
      (at : Option ℕ) → at ≢ Some key → value_under new at ≡ value_under old at
  value_kept old new key others None apart = refl
  value_kept old new key others (Some other) apart = others other (λ e. apart (ap Some e))

  -- one more place without a key changes nothing
  pub by_place-more : (keys : List (Option ℕ)) (slab : Slab X) → by_place (keys ++ None ∷ []) slab ≡ by_place keys slab
  by_place-more keys slab =
      same_map nat_cmp_total nat_cmp-IsAntisymmetric _ _ (λ q. get-by_place (keys ++ None ∷ []) slab q
      ∙ ap (value_under slab) (nothing_more keys q) ∙ sym (get-by_place keys slab q))

  pub IsKept-more : (keys : List (Option ℕ)) (slab : Slab X) → IsKept keys slab → length keys + 1 < 2 ^ 32 →
      IsKept (keys ++ None ∷ []) slab
  IsKept-more keys slab kept few = record {
    present = λ place key stands. kept.present place key (sym (nothing_more keys place) ∙ stands);
    once = λ place other key stands also. kept.once place other key (sym (nothing_more keys place) ∙ stands)
        (sym (nothing_more keys other) ∙ also);
    few = omega (arith, few, length-append keys (None ∷ []));
  }

  is_there : (o : Option X) (v : X) → o ≡ Some v → IsSome o
  is_there o v e = rw e refl

  not_there : (o : Option X) → o ≡ None → IsSome o → ⊥
  not_there None e h = absurd (cc)
  not_there (Some v) e h = absurd (cc)

-- a place with a key is below the length
pub place_below : (keys : List (Option ℕ)) (place key : ℕ) → get_or keys place None ≡ Some key → place < length keys
place_below keys place key stands = grind (arith, get_or_past)

-- a key that is kept for a place after a write was written there, or was kept there before
written : (keys : List (Option ℕ)) (place : ℕ) (key : Option ℕ) (at found : ℕ) → place < length keys →
    get_or (set keys place key) at None ≡ Some found →
    ((at ≡ place) × (key ≡ Some found)) ⊎ ((at ≢ place) × (get_or keys at None ≡ Some found))
written keys place key at found within stands =
    elim (cases_eq at place) [
      | inl here ↦ inl (
        here,
        sym (get_or-set_same keys place key None within)
            ∙ ap (λ p. get_or (set keys place key) p None) (sym here) ∙ stands,
      )
      | inr away ↦ inr (away, sym (get_or-set_other keys place at key None away) ∙ stands)
    ]

-- a new value under a new key, which is written at a place
module _ {X : Type 0} (keys : List (Option ℕ)) (old new : Slab X) (place key : ℕ) (value : X)
    (within : place < length keys) (kept : IsKept keys old) (was_vacant : under old key ≡ None)
    (updates : Updates old new key (Some value)) where
  not_new : (other : ℕ) → get_or keys other None ≢ Some key
  not_new other stands = not_there _ was_vacant (kept.present other key stands)

  put_at : (q : ℕ) → (q ≡ place) ⊎ (q ≡ place → ⊥) →
      value_under new (get_or (set keys place (Some key)) q None)
      ≡ cond (eq_by_cmp nat_cmp q place) (Some value) (value_under old (get_or keys q None))
  put_at q (inl same) = rw (same, same_key place, get_or-set_same keys place (Some key) None within) updates.changed
  put_at q (inr differs) =
      rw (other_key q place differs, get_or-set_other keys place q (Some key) None differs)
      (value_kept old new key updates.others _ (not_new q))

  pub by_place-put : by_place (set keys place (Some key)) new ≡ insert (by_place keys old) place value
  by_place-put =
      same_map nat_cmp_total nat_cmp-IsAntisymmetric _ _ (λ q. get-by_place (set keys place (Some key)) new q
      ∙ put_at q (cases_eq q place) ∙ sym (get-insert nat_cmp_total (by_place keys old) place value q
      ∙ ap (cond (eq_by_cmp nat_cmp q place) (Some value)) (get-by_place keys old q)))

  put_present : (at found : ℕ) → get_or (set keys place (Some key)) at None ≡ Some found → ContainsKey new found
  put_present at found stands = elim (written keys place (Some key) at found within stands) [
    | inl here ↦ is_there _ value (cc (updates.changed, here.1))
    | inr away ↦ subst (λ (o : Option X). IsSome o)
        (sym (updates.others found (λ e. not_new at (away.1 ∙ ap Some e)))) (kept.present at found away.1)
  ]

  put_once : (at other found : ℕ) → get_or (set keys place (Some key)) at None ≡ Some found →
      get_or (set keys place (Some key)) other None ≡ Some found → at ≡ other
  put_once at other found stands also = elim (written keys place (Some key) at found within stands) [
    | inl here ↦ elim (written keys place (Some key) other found within also) [
      | inl there ↦ cc (here.0, there.0)
      | inr there ↦ absurd (not_new other (there.1 ∙ sym here.1))
    ]
    | inr away ↦ elim (written keys place (Some key) other found within also) [
      | inl there ↦ absurd (not_new at (away.1 ∙ sym there.1))
      | inr there ↦ kept.once at other found away.1 there.1
    ]
  ]

  pub IsKept-put : IsKept (set keys place (Some key)) new
  IsKept-put = record { present = put_present; once = put_once; few = rw length-set kept.few }

-- the value at a place is removed, and the place emptied
module _ {X : Type 0} (keys : List (Option ℕ)) (old new : Slab X) (place key : ℕ)
    (stands : get_or keys place None ≡ Some key) (kept : IsKept keys old) (updates : Updates old new key None) where
  within : place < length keys
  within = place_below keys place key stands

  not_taken : (other : ℕ) → other ≢ place → get_or keys other None ≢ Some key
  not_taken other differs also = differs (kept.once other place key also stands)

  take_at : (q : ℕ) → (q ≡ place) ⊎ (q ≡ place → ⊥) →
      value_under new (get_or (set keys place None) q None)
      ≡ cond (eq_by_cmp nat_cmp q place) None (value_under old (get_or keys q None))
  take_at q (inl same) = rw (same, same_key place, get_or-set_same keys place None None within) refl
  take_at q (inr differs) =
      rw (other_key q place differs, get_or-set_other keys place q None None differs)
      (value_kept old new key updates.others _ (not_taken q differs))

  pub by_place-take : by_place (set keys place None) new ≡ remove (by_place keys old) place
  by_place-take = same_map nat_cmp_total nat_cmp-IsAntisymmetric _ _ (λ q. get-by_place (set keys place None) new q
      ∙ take_at q (cases_eq q place) ∙ sym (get-remove nat_cmp_total (by_place keys old) place q
      ∙ ap (cond (eq_by_cmp nat_cmp q place) None) (get-by_place keys old q)))

  take_present : (at found : ℕ) → get_or (set keys place None) at None ≡ Some found → ContainsKey new found
  take_present at found also = elim (written keys place None at found within also) [
    | inl here ↦ absurd (cc here.1)
    | inr away ↦ subst (λ (o : Option X). IsSome o)
        (sym (updates.others found (λ e. not_taken at away.0 (away.1 ∙ ap Some e)))) (kept.present at found away.1)
  ]

  take_once : (at other found : ℕ) → get_or (set keys place None) at None ≡ Some found →
      get_or (set keys place None) other None ≡ Some found → at ≡ other
  take_once at other found first second = elim (written keys place None at found within first) [
    | inl here ↦ absurd (cc here.1)
    | inr away ↦ elim (written keys place None other found within second) [
      | inl there ↦ absurd (cc there.1)
      | inr there ↦ kept.once at other found away.1 there.1
    ]
  ]

  pub IsKept-take : IsKept (set keys place None) new
  IsKept-take = record { present = take_present; once = take_once; few = rw length-set kept.few }

-- the value at a place is written over
module _ {X : Type 0} (keys : List (Option ℕ)) (slab : Slab X) (place key : ℕ) (value : X)
    (stands : get_or keys place None ≡ Some key) (kept : IsKept keys slab) where
  has_slot : key < length slab.slots
  has_slot = let there = kept.present place key stands in grind (arith, get_or_past)

  write_at : (q : ℕ) → (q ≡ place) ⊎ (q ≡ place → ⊥) →
      value_under (with_value slab key value) (get_or keys q None)
      ≡ cond (eq_by_cmp nat_cmp q place) (Some value) (value_under slab (get_or keys q None))
  write_at q (inl same) = rw (same, same_key place, stands) (get_or-set_same slab.slots key (Some value) None has_slot)
  write_at q (inr differs) =
      rw (other_key q place differs)
      (value_kept slab (with_value slab key value) key
      (λ other apart. get_or-set_other slab.slots key other (Some value) None apart) _
      (λ also. differs (kept.once q place key also stands)))

  pub by_place-write : by_place keys (with_value slab key value) ≡ insert (by_place keys slab) place value
  by_place-write =
      same_map nat_cmp_total nat_cmp-IsAntisymmetric _ _ (λ q. get-by_place keys (with_value slab key value) q
      ∙ write_at q (cases_eq q place) ∙ sym (get-insert nat_cmp_total (by_place keys slab) place value q
      ∙ ap (cond (eq_by_cmp nat_cmp q place) (Some value)) (get-by_place keys slab q)))

  write_present : (at found : ℕ) → get_or keys at None ≡ Some found → ContainsKey (with_value slab key value) found
  write_present at found also = elim (cases_eq found key) [
    | inl same ↦ is_there _ value
        (rw same (get_or-set_same slab.slots key (Some value) None has_slot))
    | inr away ↦ subst (λ (o : Option X). IsSome o)
        (sym (get_or-set_other slab.slots key found (Some value) None away)) (kept.present at found also)
  ]

  pub IsKept-write : IsKept keys (with_value slab key value)
  IsKept-write = record { present = write_present; once = kept.once; few = kept.few }

  -- as many values are there as before
  pub write_len : slab_len (with_value slab key value) ≡ slab_len slab
  write_len =
      let there : is_some (get_or slab.slots key None) ≡ true = kept.present place key stands in
      let counted = sum_by-set (λ o. cond (is_some o) 1 0) slab.slots key (Some value) None has_slot in
      omega (arith, rw there at counted)

  pub viewed-write : record {
    map = by_place keys (with_value slab key value);
    places = length keys;
    spare = slab.capacity - slab_len (with_value slab key value);
  }
      ≡ table_with (record {
        map = by_place keys slab;
        places = length keys;
        spare = slab.capacity - slab_len slab;
      }) place value
  viewed-write = rw (by_place-write, write_len) refl
