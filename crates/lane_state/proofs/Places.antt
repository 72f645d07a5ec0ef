-- Values that are put into a map, put back or taken out.
use Rattle.std.proofs.Common.{◌≡◌, ℕ, Bool, true, false, cond, Option, Some, None, refl, sym, ap, ◌∙◌}
use Rattle.std.specs.Ordering.{nat_cmp, eq_by_cmp}
use Rattle.std.specs.Cmp.{nat_cmp_total, eq_by_cmp_equiv}
use Rattle.std.specs.FinMap.{FinMap, get, insert, remove, get-insert, get-remove, same_map}
use Rattle.std.proofs.lemmas.Map.Lookups.{exact_unsigned}
use Rattle.ideal_lane.proofs.Lookups.{get_put, put_same}

over : {X : Type 0} (b : Bool) (x z : Option X) → cond b x (cond b None z) ≡ cond b x z
over true x z = refl
over false x z = refl

-- what was taken out and put back changed
pub reput : {X : Type 0} (m : FinMap nat_cmp X) (k : ℕ) (v : X) → insert (remove m k) k v ≡ insert m k v
reput m k v = same_map nat_cmp_total exact_unsigned (insert (remove m k) k v) (insert m k v) (λ q.
    get-insert nat_cmp_total (remove m k) k v q
    ∙ ap (cond (eq_by_cmp nat_cmp q k) (Some v)) (get-remove nat_cmp_total m k q)
    ∙ over (eq_by_cmp nat_cmp q k) (Some v) (get m q) ∙ sym (get-insert nat_cmp_total m k v q))

-- putting a value in its own place changes nothing
pub put-back : {X : Type 0} (m : FinMap nat_cmp X) (k : ℕ) (v : X) → get m k ≡ Some v → insert m k v ≡ m
put-back m k v found =
    same_map nat_cmp_total exact_unsigned (insert m k v) m (λ q. get_put m k v q ∙ put_same (get m) k q (Some v)
    (sym found))

-- what was removed is gone
pub get_removed : {X : Type 0} (m : FinMap nat_cmp X) (k : ℕ) → get (remove m k) k ≡ None
get_removed m k =
    get-remove nat_cmp_total m k k ∙ ap (λ b. cond b None (get m k)) ((eq_by_cmp_equiv nat_cmp_total).refl k)

-- a value that is taken out and put back leaves the map as it was
pub taken-back : {X : Type 0} (m : FinMap nat_cmp X) (k : ℕ) (v : X) → get m k ≡ Some v → insert (remove m k) k v ≡ m
taken-back m k v found = reput m k v ∙ put-back m k v found
