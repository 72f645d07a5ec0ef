-- What the values of a map weigh together, after a change.
use Rattle.std.proofs.Common.{◌≡◌, ℕ, ◌+◌, ◌≤◌, ◌==◌, Bool, true, false, cond, List, [], ◌∷◌, Some, None, refl, ap}
use Rattle.std.proofs.Common.{length}
use Rattle.std.proofs.Common.{sym, ◌∙◌, arith}
use Rattle.std.proofs.lemmas.List.Sums.{sum_by-cons}
use Rattle.std.specs.declared.cmp.Ordering.{Ordering}
use Rattle.std.specs.declared.cmp.Ordering.TheVariants.{Less, Equal, Greater}
use Rattle.std.specs.Ordering.{nat_cmp, is_eq}
use Rattle.std.specs.Cmp.{nat_cmp_total}
use Rattle.std.specs.List.{sum_by}
use Rattle.std.proofs.lemmas.Bool.{eq-eqb}
use Rattle.std.specs.FinMap.Entries.{by_order}
use Rattle.std.specs.FinMap.{FinMap, get, insert, remove, entries, find, put, get-entries, entries-insert, same_map}
use Rattle.std.specs.FinMap.{empty, len-entries, len-empty}
use Rattle.std.specs.FinMap.{nat_cmp-IsAntisymmetric}
use Rattle.ideal_lane.proofs.Lookups.{get_put, get_cut, put_same}

nothing-left : {A : Type 0} (es : List A) → length es ≡ 0 → es ≡ []
nothing-left [] e = refl
nothing-left (x ∷ es) e = absurd (omega arith)

module _ {X : Type 0} (w : X → ℕ) where
  abbrev weight_of : ℕ × X → ℕ
  weight_of e = w e.1

  abbrev pub weigh : FinMap nat_cmp X → ℕ
  weigh m = sum_by weight_of (entries m)

  put-new : (k : ℕ) (v : X) (es : List (ℕ × X)) → find nat_cmp k es ≡ None →
      sum_by weight_of (put nat_cmp k v es) ≡ sum_by weight_of es + w v
  put-new k v [] none =
      let one : sum_by weight_of (put nat_cmp k v []) ≡ w v + sum_by weight_of [] =
      sum_by-cons weight_of (k, v) [] in omega (arith, one)
  put-new k v (e ∷ es) none = by (put-new k v es) (nat_cmp k e.0) refl none
    where
      by : (find nat_cmp k es ≡ None → sum_by weight_of (put nat_cmp k v es) ≡ sum_by weight_of es + w v) →
          (o : Ordering) → nat_cmp k e.0 ≡ o →
          cond (is_eq o) (Some e.1) (find nat_cmp k es) ≡ None →
          sum_by weight_of (by_order o ((k, v) ∷ e ∷ es) ((e.0, v) ∷ es) (e ∷ put nat_cmp k v es))
          ≡ sum_by weight_of (e ∷ es) + w v
      by rest Less t h =
          let all : sum_by weight_of (by_order Less ((k, v) ∷ e ∷ es) ((e.0, v) ∷ es) (e ∷ put nat_cmp k v es))
          ≡ w v + sum_by weight_of (e ∷ es) =
          sum_by-cons weight_of (k, v) (e ∷ es) in
          omega (arith, all)
      by rest Equal t h = absurd (cc)
      by rest Greater t h =
          let all : sum_by weight_of (by_order Greater ((k, v) ∷ e ∷ es) ((e.0, v) ∷ es) (e ∷ put nat_cmp k v es))
          ≡ weight_of e + sum_by weight_of (put nat_cmp k v es) =
          sum_by-cons weight_of e (put nat_cmp k v es) in
          omega (arith, all, rest h, sum_by-cons weight_of e es)

  -- a value is put where there was none
  pub weigh-new : (m : FinMap nat_cmp X) (k : ℕ) (v : X) → get m k ≡ None → weigh (insert m k v) ≡ weigh m + w v
  weigh-new m k v none =
      ap (sum_by weight_of) (entries-insert nat_cmp_total m k v)
      ∙ put-new k v (entries m) (sym (get-entries m k) ∙ none)

  gone : (m : FinMap nat_cmp X) (k : ℕ) → get (remove m k) k ≡ None
  gone m k = get_cut m k k ∙ by (k == k) refl
    where
      by : (b : Bool) → (k == k) ≡ b → cond b None (get m k) ≡ None
      by true t = refl
      by false t = absurd (let u : (k == k) ≡ true = eq-eqb k k refl in cc)

  over : {Y : Type 0} (b : Bool) (x y z : Y) → cond b x (cond b y z) ≡ cond b x z
  over true x y z = refl
  over false x y z = refl

  put-again : (m : FinMap nat_cmp X) (k : ℕ) (v : X) → insert (remove m k) k v ≡ insert m k v
  put-again m k v =
      same_map nat_cmp_total nat_cmp-IsAntisymmetric (insert (remove m k) k v) (insert m k v)
      (λ q. get_put (remove m k) k v q ∙ (ap (cond (q == k) (Some v)) (get_cut m k q)
      ∙ (over (q == k) (Some v) None (get m q) ∙ sym (get_put m k v q))))

  put-back : (m : FinMap nat_cmp X) (k : ℕ) (x : X) → get m k ≡ Some x → insert m k x ≡ m
  put-back m k x found =
      same_map nat_cmp_total nat_cmp-IsAntisymmetric (insert m k x) m (λ q. get_put m k x q
      ∙ put_same (get m) k q (Some x) (sym found))

  without : (m : FinMap nat_cmp X) (k : ℕ) (x : X) → get m k ≡ Some x → weigh m ≡ weigh (remove m k) + w x
  without m k x found =
      ap weigh (sym (put-again m k x ∙ put-back m k x found)) ∙ weigh-new (remove m k) k x (gone m k)

  -- a value is put in place of another
  pub weigh-put : (m : FinMap nat_cmp X) (k : ℕ) (x v : X) → get m k ≡ Some x →
      weigh (insert m k v) + w x ≡ weigh m + w v
  weigh-put m k x v found =
      let new : weigh (insert m k v) ≡ weigh (remove m k) + w v =
      ap weigh (sym (put-again m k v)) ∙ weigh-new (remove m k) k v (gone m k) in
      omega (arith, new, without m k x found)

  -- a value is gone
  pub weigh-cut : (m : FinMap nat_cmp X) (k : ℕ) (x : X) → get m k ≡ Some x → weigh (remove m k) ≤ weigh m
  weigh-cut m k x found = omega (arith, without m k x found)

  -- an empty map weighs nothing
  pub weigh-empty : weigh empty ≡ 0
  weigh-empty = ap (sum_by weight_of) none
    where
      none : entries (empty {X = X} {R = nat_cmp}) ≡ []
      none =
          nothing-left (entries (empty {X = X} {R = nat_cmp}))
          (sym (len-entries (empty {X = X} {R = nat_cmp})) ∙ len-empty nat_cmp X)
