-- Finite maps from numbers, and the look-ups that they are made of.
use Rattle.std.proofs.Common.{◌≡◌, ℕ, true, false, cond, List, [], ◌∷◌, refl, ap, sym, ◌∙◌, ◌⊎◌, inl, inr, ◌≢◌}
use Rattle.std.specs.Prelude.{Some, None, is_some, nat_eq}
use Rattle.std.specs.Ordering.{nat_cmp}
use Rattle.std.specs.Cmp.{nat_cmp_total, nat_eq_equiv, unsigned_tied}
use Rattle.std.specs.Map.{lookup}
use Rattle.std.specs.FinMap.{FinMap, get, insert, remove, find, from_entries, get-from_entries, get-insert, get-remove}
use Rattle.std.specs.FinMap.{same_map, nat_cmp-IsAntisymmetric}
use Rattle.std.proofs.lemmas.Bool.Decides.{eqb_tells}

eqb_sym : (a b : ℕ) → nat_eq a b ≡ nat_eq b a
eqb_sym a b = nat_eq_equiv.symm a b

module _ {X : Type 0} where
  find_lookup : (q : ℕ) (es : List (ℕ × X)) → find nat_cmp q es ≡ lookup (nat_eq q) es
  find_lookup q [] = refl
  find_lookup q (e ∷ es) = ap (λ b. cond b (Some e.1) (find nat_cmp q es)) (unsigned_tied q e.0)
      ∙ ap (cond (nat_eq q e.0) (Some e.1)) (find_lookup q es)

  -- what a map made of entries has is what a look-up in them finds
  pub get_made : (es : List (ℕ × X)) (q : ℕ) → get (from_entries {R = nat_cmp} es) q ≡ lookup (nat_eq q) es
  get_made es q = get-from_entries nat_cmp_total es q ∙ find_lookup q es

  pub get_inserted : (m : FinMap nat_cmp X) (k : ℕ) (v : X) (q : ℕ) →
      get (insert m k v) q ≡ cond (nat_eq q k) (Some v) (get m q)
  get_inserted m k v q = get-insert nat_cmp_total m k v q ∙ ap (λ b. cond b (Some v) (get m q)) (unsigned_tied q k)

  pub get_removed : (m : FinMap nat_cmp X) (k q : ℕ) → get (remove m k) q ≡ cond (nat_eq q k) None (get m q)
  get_removed m k q = get-remove nat_cmp_total m k q ∙ ap (λ b. cond b None (get m q)) (unsigned_tied q k)

  -- maps with the same value at each key are equal
  pub same_numbered : (m n : FinMap nat_cmp X) → ((q : ℕ) → get m q ≡ get n q) → m ≡ n
  same_numbered m n same = same_map nat_cmp_total nat_cmp-IsAntisymmetric m n same

  pub is_some-inserted : (m : FinMap nat_cmp X) (k : ℕ) (v : X) (q : ℕ) →
      is_some (get (insert m k v) q) ≡ cond (nat_eq q k) true (is_some (get m q))
  is_some-inserted m k v q = ap is_some (get_inserted m k v q)
      ∙ elim (nat_eq q k) as (λ b. is_some (cond b (Some v) (get m q))
      ≡ cond b true (is_some (get m q))) [ true ↦ refl | false ↦ refl ]

  -- what a map has after an insertion is what was inserted, or was there
  pub got_inserted : (m : FinMap nat_cmp X) (k : ℕ) (v : X) (q : ℕ) (x : X) → get (insert m k v) q ≡ Some x →
      ((q ≡ k) × (v ≡ x)) ⊎ (get m q ≡ Some x)
  got_inserted m k v q x h =
      let e = sym (get_inserted m k v q) ∙ h in
      elim (eqb_tells q k) [
        | inl t ↦ let f : Some v ≡ Some x = rw t.0 at e in inl (t.1, (cc))
        | inr t ↦ inr (rw t.0 at e)
      ]

  -- what a map has after a removal was there, at another key
  pub got_removed : (m : FinMap nat_cmp X) (k q : ℕ) (x : X) →
      get (remove m k) q ≡ Some x → (q ≢ k) × (get m q ≡ Some x)
  got_removed m k q x h =
      let e = sym (get_removed m k q) ∙ h in
      elim (eqb_tells q k) [
        | inl t ↦ let f : None ≡ Some x = rw t.0 at e in absurd (cc)
        | inr t ↦ (t.1, rw t.0 at e)
      ]

  -- a map after a change of its entries, by their look-ups
  pub made_inserted : (es fs : List (ℕ × X)) (k : ℕ) (v : X) →
      ((q : ℕ) → lookup (nat_eq q) fs ≡ cond (nat_eq k q) (Some v) (lookup (nat_eq q) es)) →
      from_entries {R = nat_cmp} fs ≡ insert (from_entries es) k v
  made_inserted es fs k v h =
      same_numbered _ _ (λ q. get_made fs q ∙ h q ∙ ap (λ b. cond b (Some v) (lookup (nat_eq q) es)) (eqb_sym k q)
      ∙ ap (cond (nat_eq q k) (Some v)) (sym (get_made es q)) ∙ sym (get_inserted (from_entries es) k v q))

  pub made_removed : (es fs : List (ℕ × X)) (k : ℕ) →
      ((q : ℕ) → lookup (nat_eq q) fs ≡ cond (nat_eq k q) None (lookup (nat_eq q) es)) →
      from_entries {R = nat_cmp} fs ≡ remove (from_entries es) k
  made_removed es fs k h =
      same_numbered _ _ (λ q. get_made fs q ∙ h q ∙ ap (λ b. cond b None (lookup (nat_eq q) es)) (eqb_sym k q)
      ∙ ap (cond (nat_eq q k) None) (sym (get_made es q)) ∙ sym (get_removed (from_entries es) k q))

  pub made_same : (es fs : List (ℕ × X)) → ((q : ℕ) → lookup (nat_eq q) fs ≡ lookup (nat_eq q) es) →
      from_entries {R = nat_cmp} fs ≡ from_entries es
  made_same es fs h = same_numbered _ _ (λ q. get_made fs q ∙ h q ∙ sym (get_made es q))
