-- The views of a table when one of them changes.
use Rattle.std.proofs.Common.{◌≡◌, ◌≢◌, ℕ, zero, suc, ◌<◌, ◌≤◌, true, false, List, [], ◌∷◌, length, get_or, set, All}
use Rattle.std.proofs.Common.{refl, sym, ap, ◌∙◌, subst, ⊎_elim, arith, true≢false, if◌then◌else◌}
use mathlib.Core.Option.{some, some-ne-none}
use mathlib.Core.List.{IsPrefix}
use lib.ListN.{get_elem?}
use Rattle.atomic_table.specs.Table.{rest}
use Rattle.atomic_table.proofs.Lists.{at_set}
use Rattle.std.proofs.lemmas.Bool.{cases_Bool, cases_lt, lt-ltb, le-ltb}
use Rattle.std.proofs.lemmas.List.Elements.{All-cons}
use Rattle.turnstile.specs.TurnHistory.{calls_of, longer}
use Rattle.turnstile.specs.View.{ended_with}
use Rattle.turnstile.specs.Rule.{Fits}
use Rattle.turnstile.specs.declared.view.Start.{Start}
use Rattle.turnstile.specs.declared.view.View.{View}
use Rattle.turnstile.proofs.Logs.{prefix_self, prefix_then, prefix_shorter}

pub false≢true : false ≢ true
false≢true e = true≢false (sym e)

pub set_at : {A : Type 0} (l : List A) (i : ℕ) (a w : A) → get_elem? l i ≡ some a → get_elem? (set l i w) i ≡ some w
set_at [] i a w e = absurd (some-ne-none a (sym e))
set_at (x ∷ xs) zero a w e = refl
set_at (x ∷ xs) (suc i) a w e = set_at xs i a w e

pub set_swap : {A : Type 0} (l : List A) (i j : ℕ) (a b : A) → i ≢ j → set (set l i a) j b ≡ set (set l j b) i a
set_swap [] i j a b other = refl
set_swap (x ∷ xs) zero zero a b other = absurd (other refl)
set_swap (x ∷ xs) zero (suc j) a b other = refl
set_swap (x ∷ xs) (suc i) zero a b other = refl
set_swap (x ∷ xs) (suc i) (suc j) a b other = ap (λ l. x ∷ l) (set_swap xs i j a b (λ e. other (ap suc e)))

-- of two beginnings of one history the longer begins with both
pub longer_begins : {E : Type 0} (xs ys zs : List (ℕ × E)) → IsPrefix xs zs → IsPrefix ys zs →
    IsPrefix xs (longer xs ys) × IsPrefix ys (longer xs ys) × IsPrefix (longer xs ys) zs
longer_begins xs ys zs p q = ⊎_elim
    (λ (l : length xs < length ys). subst (λ t. IsPrefix xs (if t then ys else xs) × IsPrefix ys (if t then ys else xs)
    × IsPrefix (if t then ys else xs) zs) (sym (lt-ltb (length xs) (length ys) l))
    (prefix_shorter xs ys zs p q (omega arith), prefix_self ys, q))
    (λ (l : length ys ≤ length xs). subst (λ t. IsPrefix xs (if t then ys else xs) × IsPrefix ys (if t then ys else xs)
    × IsPrefix (if t then ys else xs) zs) (sym (le-ltb (length xs) (length ys) l))
    (prefix_self xs, prefix_shorter ys xs zs q p l, p))
    (cases_lt (length xs) (length ys))

pub All_with_name : {E F : Type 0} (P : ℕ × List E → Type 0) (w : View E F) →
    (w.named ≡ true → P (w.name, w.own)) → All P w.ended → All P (ended_with w)
All_with_name P w one rest = ⊎_elim
    (λ (e : w.named ≡ true). subst (λ t. All P (if t then (w.name, w.own) ∷ w.ended else w.ended)) (sym e)
    (All-cons P (w.name, w.own) w.ended (one e) rest))
    (λ (e : w.named ≡ false). subst (λ t. All P (if t then (w.name, w.own) ∷ w.ended else w.ended)) (sym e) rest)
    (cases_Bool w.named)

module _ {E F : Type 0} where
  abbrev pub OneTicket : List (View E F) → Type 0
  OneTicket vs = (i j : ℕ) (v w : View E F) → get_elem? vs i ≡ some v → get_elem? vs j ≡ some w → v.waits ≡ true →
      w.waits ≡ true → v.ticket ≡ w.ticket → i ≡ j

  abbrev pub OneName : List (View E F) → Type 0
  OneName vs = (i j : ℕ) (v w : View E F) → get_elem? vs i ≡ some v → get_elem? vs j ≡ some w → v.named ≡ true →
      w.named ≡ true → v.name ≡ w.name → i ≡ j

  abbrev pub Over : List (View E F) → Type 0
  Over vs = (i j : ℕ) (v w : View E F) → get_elem? vs i ≡ some v → get_elem? vs j ≡ some w →
      v.named ≡ true → All (λ x. x.0 ≢ v.name) w.ended

  abbrev pub Alike : View E F → View E F → Type 0
  Alike c d = (c.named ≡ d.named) × (c.name ≡ d.name) × (c.ended ≡ d.ended)

  -- each view of the second list has one of the first in its place that has its names
  abbrev pub Back : List (View E F) → List (View E F) → Type 0
  Back vs us =
      (j : ℕ) (d : View E F) → get_elem? us j ≡ some d → (c : View E F) × (get_elem? vs j ≡ some c) × Alike d c

  pub back_set : (vs : List (View E F)) (id : ℕ) (v w : View E F) →
      get_elem? vs id ≡ some v → Alike w v → Back vs (set vs id w)
  back_set vs id v w at same j d e =
      ⊎_elim (λ (t : (j ≡ id) × (w ≡ d)). (
        v,
        subst (λ i. get_elem? vs i ≡ some v) (sym t.0) at,
        subst (λ x. Alike x v) t.1 same,
      ))
      (λ (t : (j ≢ id) × (get_elem? vs j ≡ some d)). (d, t.1, (refl, refl, refl))) (at_set vs id j w d e)

  pub one_name_back : (vs us : List (View E F)) → Back vs us → OneName vs → OneName us
  one_name_back vs us back one i j v w p q nv nw e = let c = back i v p in let d = back j w q in
      one i j c.0 d.0 c.1 d.1 (sym c.2.0 ∙ nv) (sym d.2.0 ∙ nw) (sym c.2.1 ∙ (e ∙ d.2.1))

  pub over_back : (vs us : List (View E F)) → Back vs us → Over vs → Over us
  over_back vs us back over i j v w p q nv = let c = back i v p in let d = back j w q in
      subst (λ (z : ℕ × List (ℕ × List E)). All (λ x. x.0 ≢ z.0) z.1) (λ k. (sym c.2.1 k, sym d.2.2 k))
      (over i j c.0 d.0 c.1 d.1 (sym c.2.0 ∙ nv))

  pub each_set : (P : View E F → Type 0) (vs : List (View E F)) (me : ℕ) (w : View E F) → P w →
      ((j : ℕ) (d : View E F) → j ≢ me → get_elem? vs j ≡ some d → P d) → (j : ℕ) (d : View E F) →
      get_elem? (set vs me w) j ≡ some d → P d
  each_set P vs me w mine others j d e =
      ⊎_elim (λ (t : (j ≡ me) × (w ≡ d)). subst P t.1 mine)
      (λ (t : (j ≢ me) × (get_elem? vs j ≡ some d)). others j d t.0 t.1) (at_set vs me j w d e)

  -- the one view that changes has a ticket that no other has
  pub one_ticket_set : (vs : List (View E F)) (me : ℕ) (w : View E F) → OneTicket vs →
      ((j : ℕ) (d : View E F) → j ≢ me → get_elem? vs j ≡ some d → w.waits ≡ true → d.waits ≡ true →
      w.ticket ≢ d.ticket) → OneTicket (set vs me w)
  one_ticket_set vs me w one apart i j c d p q wc wd e = ⊎_elim
      (λ (t : (i ≡ me) × (w ≡ c)). ⊎_elim
      (λ (u : (j ≡ me) × (w ≡ d)). t.0 ∙ sym u.0)
      (λ (u : (j ≢ me) × (get_elem? vs j ≡ some d)). absurd
      (apart j d u.0 u.1 (ap (λ (x : View E F). x.waits) t.1 ∙ wc) wd (ap (λ (x : View E F). x.ticket) t.1 ∙ e)))
      (at_set vs me j w d q))
      (λ (t : (i ≢ me) × (get_elem? vs i ≡ some c)). ⊎_elim
      (λ (u : (j ≡ me) × (w ≡ d)). absurd (apart i c t.0 t.1 (ap (λ (x : View E F). x.waits) u.1
      ∙ wd) wc (ap (λ (x : View E F). x.ticket) u.1 ∙ sym e)))
      (λ (u : (j ≢ me) × (get_elem? vs j ≡ some d)). one i j c d t.1 u.1 wc wd e)
      (at_set vs me j w d q))
      (at_set vs me i w c p)

  -- the one view that changes has a name that no other has
  pub one_name_set : (vs : List (View E F)) (me : ℕ) (w : View E F) → OneName vs →
      ((j : ℕ) (d : View E F) → j ≢ me → get_elem? vs j ≡ some d → w.named ≡ true → d.named ≡ true → w.name ≢ d.name) →
      OneName (set vs me w)
  one_name_set vs me w one apart i j c d p q wc wd e = ⊎_elim
      (λ (t : (i ≡ me) × (w ≡ c)). ⊎_elim
      (λ (u : (j ≡ me) × (w ≡ d)). t.0 ∙ sym u.0)
      (λ (u : (j ≢ me) × (get_elem? vs j ≡ some d)). absurd
      (apart j d u.0 u.1 (ap (λ (x : View E F). x.named) t.1 ∙ wc) wd (ap (λ (x : View E F). x.name) t.1 ∙ e)))
      (at_set vs me j w d q))
      (λ (t : (i ≢ me) × (get_elem? vs i ≡ some c)). ⊎_elim
      (λ (u : (j ≡ me) × (w ≡ d)). absurd (apart i c t.0 t.1 (ap (λ (x : View E F). x.named) u.1
      ∙ wd) wc (ap (λ (x : View E F). x.name) u.1 ∙ sym e)))
      (λ (u : (j ≢ me) × (get_elem? vs j ≡ some d)). one i j c d t.1 u.1 wc wd e)
      (at_set vs me j w d q))
      (at_set vs me i w c p)

  abbrev pub Unlike : View E F → View E F → Type 0
  Unlike c d = c.named ≡ true → All (λ x. x.0 ≢ c.name) d.ended

  pub over_set : (vs : List (View E F)) (me : ℕ) (w : View E F) → Over vs → Unlike w w →
      ((j : ℕ) (d : View E F) → j ≢ me → get_elem? vs j ≡ some d → Unlike w d × Unlike d w) → Over (set vs me w)
  over_set vs me w over same apart i j c d p q = ⊎_elim
      (λ (t : (i ≡ me) × (w ≡ c)). ⊎_elim
      (λ (u : (j ≡ me) × (w ≡ d)). subst (λ (z : View E F × View E F). Unlike z.0 z.1) (λ k. (t.1 k, u.1 k)) same)
      (λ (u : (j ≢ me) × (get_elem? vs j ≡ some d)). subst (λ z. Unlike z d) t.1 (apart j d u.0 u.1).0)
      (at_set vs me j w d q))
      (λ (t : (i ≢ me) × (get_elem? vs i ≡ some c)). ⊎_elim
      (λ (u : (j ≡ me) × (w ≡ d)). subst (λ z. Unlike c z) u.1 (apart i c t.0 t.1).1)
      (λ (u : (j ≢ me) × (get_elem? vs j ≡ some d)). over i j c d t.1 u.1)
      (at_set vs me j w d q))
      (at_set vs me i w c p)

  module _ (b : Start E F) where
    -- a view goes on to fit
    pub refit : (log log' : List (ℕ × E)) (t s t' s' : ℕ) (m m' : List ℕ) (d : View E F) → Fits b log t s m d →
        IsPrefix log log' → (d.waits ≡ true → (s' ≤ d.ticket) × (d.ticket < t')) →
        (d.whole ≡ true → (d.ticket ≡ s') × (d.front ≡ log'))
        → ((n : ℕ) → get_or m n 0 ≢ 0 → get_or m' n 0 ≢ 0) → length m ≤ length m' →
        (d.named ≡ true → calls_of d.name log' ≡ d.own) →
        All (λ x. calls_of x.0 log' ≡ x.1) d.ended → Fits b log' t' s' m' d
    refit log log' t s t' s' m m' d f more waits whole marked wide named ended = record {
      started = f.started;
      front = prefix_then d.front log log' f.front more;
      waits = waits;
      whole = λ e. let k = whole e in ((f.whole e).0, k.0, k.1);
      turn = f.turn;
      named = λ e. let k = f.named e in let l = k.1 in (marked d.name k.0, omega arith, k.2, named e);
      unnamed = f.unnamed;
      ended = λ k z l. let p = f.ended k z l in (marked _ p.0, p.1, ended k z l);
      taken = λ k z l. marked _ (f.taken k z l);
      below = f.below;
    }

    -- a view goes on to fit if no turn came
    pub refit_same : (log : List (ℕ × E)) (t s t' s' : ℕ) (m m' : List ℕ) (d : View E F) → Fits b log t s m d →
        (d.waits ≡ true → (s' ≤ d.ticket) × (d.ticket < t')) → (d.whole ≡ true → d.ticket ≡ s')
        → ((n : ℕ) → get_or m n 0 ≢ 0 → get_or m' n 0 ≢ 0) → length m ≤ length m' → Fits b log t' s' m' d
    refit_same log t s t' s' m m' d f waits whole marked wide =
        refit log log t s t' s' m m' d f (prefix_self log) waits (λ e. (whole e, (f.whole e).2)) marked wide
        (λ e. (f.named e).3) (λ k z l. (f.ended k z l).2)
