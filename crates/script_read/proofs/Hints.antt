-- What is known of clusters without a walk over a list.
use Rattle.std.proofs.Common.{◌≡◌, ℕ, ◌+◌, ◌<◌, ◌≤◌, ◌==◌, ◌||◌, Bool, true, false, List, [], ◌∷◌, ◌++◌}
use Rattle.std.proofs.Common.{refl, arith, min, max}
use Rattle.std.specs.Prelude.{nat_le}
use Rattle.std.specs.List.{AllByRecursion, list_any}
use Rattle.std.proofs.lemmas.Bool.{eqb-true, false_from_ne_true, le-ltb, leb-true}
use Rattle.busdma_machine.specs.declared.machine.address.Span.{Span}
use Rattle.busdma_machine.specs.declared.machine.address.Va.{Va}
use Rattle.script_read.specs.declared.sends.Bounds.{Bounds}
use Rattle.script_read.specs.Sends.{IsUpTo, LiesBetween, is_beside}
use Rattle.scenario_format.specs.Scripts.Sends.{is_cluster, shares}

-- ---- what lies between two addresses

either : (a b : Bool) (P : Type 0) → (a || b) ≡ true → (a ≡ true → P) → (b ≡ true → P) → P
either true b P e f g = f refl
either false b P e f g = g e

not_shared : (va : ℕ) (bounds : Bounds) (s : Span) → is_beside va bounds ≡ true → LiesBetween bounds s →
    shares va s ≡ false
not_shared va bounds s e h =
    le-ltb (max va s.va.0) (min (va + 4096) (s.va.0 + s.len))
    (either (nat_le (va + 4096) bounds.first) (nat_le bounds.end va)
    (min (va + 4096) (s.va.0 + s.len) ≤ max va s.va.0) e
    (λ f. let low : va + 4096 ≤ bounds.first = leb-true (va + 4096) bounds.first f in omega (arith, low, h.from))
    (λ f. let high : bounds.end ≤ va = leb-true bounds.end va f in omega (arith, high, h.to)))

pub none_shared : (va : ℕ) (bounds : Bounds) (chain : List Span) → is_beside va bounds ≡ true →
    AllByRecursion (LiesBetween bounds) chain → false ≡ list_any (shares va) chain
none_shared va bounds [] e h = refl
none_shared va bounds (s ∷ ss) e h = rw (not_shared va bounds s e h.0) (none_shared va bounds ss e h.1)

-- ---- clusters up to an address

pub none_above : (va highest : ℕ) (before : List Va) → highest < va → AllByRecursion (IsUpTo highest) before →
    false ≡ list_any (is_cluster va) before
none_above va highest [] above h = refl
none_above va highest (c ∷ cs) above h =
    let other : (c.0 == va) ≡ false =
    false_from_ne_true _ (λ e. let is : c.0 ≡ va = eqb-true c.0 va e in absurd (omega (arith, is, above, h.0))) in
    rw other (none_above va highest cs above h.1)

pub up_to_more : (old new : ℕ) (before : List Va) (c : Va) → old ≤ new → c.0 ≤ new →
    AllByRecursion (IsUpTo old) before → AllByRecursion (IsUpTo new) (before ++ c ∷ [])
up_to_more old new [] c more last h = (last, tt)
up_to_more old new (b ∷ bs) c more last h = (omega (arith, h.0, more), up_to_more old new bs c more last h.1)
