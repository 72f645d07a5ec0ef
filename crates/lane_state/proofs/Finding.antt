-- What is found among entries in order.
use Rattle.std.proofs.Common.{◌≡◌, ◌≢◌, ℕ, ◌&&◌, Bool, true, false, cond, List, [], ◌∷◌, Some, None, refl, ap, ◌∙◌}
use Rattle.std.proofs.Common.{eq-eqb}
use Rattle.std.proofs.lemmas.Bool.{ne_eqb}
use Rattle.std.specs.Prelude.{T}
use Rattle.std.specs.Cmp.{unsigned_tied}
use Rattle.std.specs.declared.cmp.Ordering.{Ordering}
use Rattle.std.specs.declared.cmp.Ordering.TheVariants.{Less, Equal, Greater}
use Rattle.std.specs.Ordering.{nat_cmp, is_eq, is_lt}
use Rattle.std.specs.FinMap.Entries.{find, below_all}

pub T_parts : (a b : Bool) → T (a && b) → T a × T b
T_parts true b h = (tt, h)
T_parts false b h = absurd h

module _ {X : Type 0} where
  -- no entry has a key that is below all
  pub none-below : (x : ℕ) (es : List (ℕ × X)) → T (below_all nat_cmp x es) → find nat_cmp x es ≡ None
  none-below x [] h = refl
  none-below x (e ∷ es) h =
      let two = T_parts (is_lt (nat_cmp x e.0)) (below_all nat_cmp x es) h in
      by (nat_cmp x e.0) two.0 (none-below x es two.1)
    where
      by : (o : Ordering) → T (is_lt o) → find nat_cmp x es ≡ None →
          cond (is_eq o) (Some e.1) (find nat_cmp x es) ≡ None
      by Less t rest = rest
      by Equal t rest = absurd t
      by Greater t rest = absurd t

  -- the first entry is found by its key, and the others by other keys
  pub find-first : (e : ℕ × X) (es : List (ℕ × X)) → find nat_cmp e.0 (e ∷ es) ≡ Some e.1
  find-first e es =
      ap (λ b. cond b (Some e.1) (find nat_cmp e.0 es)) (unsigned_tied e.0 e.0 ∙ eq-eqb e.0 e.0 refl)

  pub find-later : (n : ℕ) (e : ℕ × X) (es : List (ℕ × X)) → n ≢ e.0 → find nat_cmp n (e ∷ es) ≡ find nat_cmp n es
  find-later n e es ne =
      ap (λ b. cond b (Some e.1) (find nat_cmp n es)) (unsigned_tied n e.0 ∙ ne_eqb n e.0 ne)
