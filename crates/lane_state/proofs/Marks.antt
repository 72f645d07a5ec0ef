-- What is found among marks after some of them were set.
use Rattle.std.proofs.Common.{◌≡◌, ℕ, Bool, true, false, cond, ◌==◌, ◌||◌, List, [], ◌∷◌, Some, IsSome, is_some, refl}
use Rattle.std.proofs.Common.{sym, ap, ◌∙◌}
use Rattle.std.specs.List.{list_any}
use Rattle.std.specs.Ordering.{nat_cmp}
use Rattle.std.specs.Cmp.{nat_cmp_total, unsigned_tied}
use Rattle.std.specs.FinMap.{FinMap, get, insert, get-insert, contains_key}
use Rattle.std.proofs.lemmas.Map.Views.{exact_unsigned_eq}
use Rattle.loan_table.specs.Table.{AreIn, set_all}

pub get-put : {X : Type 0} (m : FinMap nat_cmp X) (k : ℕ) (v : X) (q : ℕ) →
    get (insert m k v) q ≡ cond (q == k) (Some v) (get m q)
get-put m k v q = get-insert nat_cmp_total m k v q ∙ ap (λ b. cond b (Some v) (get m q)) (unsigned_tied q k)

either : {X : Type 0} (a b : Bool) (x y : X) → cond b x (cond a x y) ≡ cond (a || b) x y
either true true x y = refl
either true false x y = refl
either false true x y = refl
either false false x y = refl

pub get-set_all : (m : FinMap nat_cmp Bool) (keys : List ℕ) (v : Bool) (q : ℕ) →
    get (set_all m keys v) q ≡ cond (list_any (λ k. q == k) keys) (Some v) (get m q)
get-set_all m [] v q = refl
get-set_all m (k ∷ keys) v q =
    get-set_all (insert m k v) keys v q ∙ ap (cond (list_any (λ a. q == a) keys) (Some v)) (get-put m k v q)
    ∙ either (q == k) (list_any (λ a. q == a) keys) (Some v) (get m q)

there : {X : Type 0} (m : FinMap nat_cmp X) (q k : ℕ) (b : Bool) → (q == k) ≡ b → IsSome (get m k) → (v : X) →
    is_some (cond b (Some v) (get m q)) ≡ is_some (get m q)
there m q k true e h v = sym (ap (λ a. is_some (get m a)) (exact_unsigned_eq q k e) ∙ h)
there m q k false e h v = refl

-- an entry that is put in the place of another adds none
pub has_inserted : {X : Type 0} (m : FinMap nat_cmp X) (k : ℕ) (v : X) → IsSome (get m k) → (q : ℕ) →
    contains_key (insert m k v) q ≡ contains_key m q
has_inserted m k v h q = ap is_some (get-put m k v q) ∙ there m q k (q == k) refl h v

-- bytes that are there are so with one more mark
pub kept_in : (m : FinMap nat_cmp Bool) (k : ℕ) (v : Bool) (keys : List ℕ) → AreIn m keys → AreIn (insert m k v) keys
kept_in m k v [] h = tt
kept_in m k v (q ∷ keys) h = (ap is_some (get-put m k v q) ∙ some (q == k), kept_in m k v keys h.1)
  where
    some : (b : Bool) → is_some (cond b (Some v) (get m q)) ≡ true
    some true = refl
    some false = h.0

-- marking bytes that are there adds none
pub has_set_all : (m : FinMap nat_cmp Bool) (keys : List ℕ) (v : Bool) → AreIn m keys → (q : ℕ) →
    contains_key (set_all m keys v) q ≡ contains_key m q
has_set_all m [] v h q = refl
has_set_all m (k ∷ keys) v h q =
    has_set_all (insert m k v) keys v (kept_in m k v keys h.1) q ∙ has_inserted m k v h.0 q
