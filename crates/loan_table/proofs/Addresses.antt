-- Many bytes of a table at once.
use Rattle.std.proofs.Common.{◌≡◌, ℕ, zero, suc, length, slice_index, ◌+◌, ◌-◌, ◌<◌, ◌≤◌, ◌^◌, Bool, true, false, cond}
use Rattle.std.proofs.Common.{List, [], ◌∷◌, ◌++◌, ◌==◌, Option, Some, IsSome, refl, sym, ap, ◌∙◌, subst}
use Rattle.std.proofs.Common.{arith}
use Rattle.std.specs.List.{All, AllByRecursion}
use Rattle.std.proofs.lemmas.List.Elements.{All-from_recursion}
use Rattle.std.specs.Ordering.{nat_cmp}
use Rattle.std.specs.Cmp.{nat_cmp_total, unsigned_tied, nat_eq_equiv}
use Rattle.std.proofs.lemmas.Map.Views.{exact_unsigned_eq}
use Rattle.std.specs.FinMap.{FinMap, get, insert, get-insert}
use Rattle.busdma_machine.specs.declared.machine.address.Extent.{Extent}
use Rattle.busdma_machine.specs.Runs.{run_of, addresses}
use Rattle.loan_table.specs.Ends.{Ends}
use Rattle.loan_table.specs.Kept.{AreLow}
use Rattle.loan_table.specs.Table.{AreIn, set_all}

-- the value that is read beyond the end of a list of extents
abbrev pub no_extent : Extent
no_extent = record { pa = record { 0 = 0 }; len = 0 }

is_some_cond : {X : Type 0} (b : Bool) (x : X) (o : Option X) → IsSome o → IsSome (cond b (Some x) o)
is_some_cond true x o h = refl
is_some_cond false x o h = h

pub IsSome-get-insert : (m : FinMap nat_cmp Bool) (k : ℕ) (v : Bool) (q : ℕ) →
    IsSome (get m q) → IsSome (get (insert m k v) q)
IsSome-get-insert m k v q h = rw (get-insert nat_cmp_total m k v q) (is_some_cond _ v _ h)

pub AreIn-insert : (m : FinMap nat_cmp Bool) (k : ℕ) (v : Bool) (rest : List ℕ) →
    AreIn m rest → AreIn (insert m k v) rest
AreIn-insert m k v [] h = tt
AreIn-insert m k v (a ∷ rest) h = (IsSome-get-insert m k v a h.0, AreIn-insert m k v rest h.1)

pub AreIn-set_all : (m : FinMap nat_cmp Bool) (keys : List ℕ) (v : Bool) (rest : List ℕ) →
    AreIn m rest → AreIn (set_all m keys v) rest
AreIn-set_all m [] v rest h = h
AreIn-set_all m (k ∷ keys) v rest h = AreIn-set_all (insert m k v) keys v rest (AreIn-insert m k v rest h)

pub AreIn-append : (m : FinMap nat_cmp Bool) (front back : List ℕ) →
    AreIn m (front ++ back) → AreIn m front × AreIn m back
AreIn-append m [] back h = (tt, h)
AreIn-append m (a ∷ front) back h = let r = AreIn-append m front back h.1 in ((h.0, r.0), r.1)

pub set_all-append : (m : FinMap nat_cmp Bool) (front back : List ℕ) (v : Bool) →
    set_all m (front ++ back) v ≡ set_all (set_all m front v) back v
set_all-append m [] back v = refl
set_all-append m (a ∷ front) back v = set_all-append (insert m a v) front back v

run_of_suc : (at n k : ℕ) → n ≡ suc k → run_of at n ≡ at ∷ run_of (at + 1) k
run_of_suc at n k e = rw e refl

pub run_more : (at end : ℕ) → at < end → run_of at (end - at) ≡ at ∷ run_of (at + 1) (end - (at + 1))
run_more at end h = run_of_suc at (end - at) (end - (at + 1)) (omega arith)

run_of_zero : (at n : ℕ) → n ≡ 0 → run_of at n ≡ []
run_of_zero at n e = rw e refl

pub run_none : (at end : ℕ) → end ≤ at → run_of at (end - at) ≡ []
run_none at end h = run_of_zero at (end - at) (omega arith)

pub writes_step : (m n w : FinMap nat_cmp Bool) (v : Bool) (keys front rest : List ℕ) → keys ≡ front ++ rest →
    n ≡ set_all m front v → (set_all m keys v ≡ w) × AreIn m keys → (set_all n rest v ≡ w) × AreIn n rest
writes_step m n w v keys front rest e is h =
    let g = rw e at h in (
      ap (λ x. set_all x rest v) is ∙ sym (set_all-append m front rest v)
          ∙ g.0,
      rw is (AreIn-set_all m front v rest (AreIn-append m front rest g.1).1),
    )

pub write_end : (m w : FinMap nat_cmp Bool) (v : Bool) (keys : List ℕ) → keys ≡ [] → set_all m keys v ≡ w → m ≡ w
write_end m w v keys e h = rw e at h

-- after a byte below 2^42 is added or marked, all bytes are still below 2^42
pub AreLow-insert : (m : FinMap nat_cmp Bool) (k : ℕ) (v : Bool) → k < 2 ^ 42 → AreLow m → AreLow (insert m k v)
AreLow-insert m k v below low a there =
    at_test (a == k) refl (rw (get-insert nat_cmp_total m k v a, unsigned_tied a k) at there)
  where
    at_test : (b : Bool) → (a == k) ≡ b → IsSome (cond b (Some v) (get m a)) → a < 2 ^ 42
    at_test true e h = subst (λ q. q < 2 ^ 42) (sym (exact_unsigned_eq a k e)) below
    at_test false e h = low a h

pub AreLow-set_all : (m : FinMap nat_cmp Bool) (keys : List ℕ) (v : Bool) →
    AreIn m keys → AreLow m → AreLow (set_all m keys v)
AreLow-set_all m [] v h low = low
AreLow-set_all m (k ∷ keys) v h low =
    AreLow-set_all (insert m k v) keys v (AreIn-insert m k v keys h.1) (AreLow-insert m k v (low k h.0) low)

pub AreLow-add : (m : FinMap nat_cmp Bool) (at n : ℕ) (v : Bool) → at + n ≤ 2 ^ 42 →
    AreLow m → AreLow (set_all m (run_of at n) v)
AreLow-add m at zero v h low = low
AreLow-add m at (suc n) v h low =
    AreLow-add (insert m at v) (at + 1) n v (omega arith) (AreLow-insert m at v (omega arith) low)

-- a run of bytes of a table ends at 2^42 or below
run_ends : (m : FinMap nat_cmp Bool) → AreLow m → (at n : ℕ) → AreIn m (run_of at n) → 0 < n → at + n ≤ 2 ^ 42
run_ends m low at zero h some = omega arith
run_ends m low at (suc zero) h some = let here : at < 2 ^ 42 = low at h.0 in omega arith
run_ends m low at (suc (suc n)) h some = let more : at + 1 + suc n ≤ 2 ^ 42 =
    run_ends m low (at + 1) (suc n) h.1 (omega arith) in omega arith

pub run_fits : (m : FinMap nat_cmp Bool) → AreLow m → (at n : ℕ) →
    AreIn m (run_of at n) → at < 2 ^ 64 → at + n < 2 ^ 64
run_fits m low at zero h fits = omega arith
run_fits m low at (suc n) h fits = let end : at + suc n ≤ 2 ^ 42 =
    run_ends m low at (suc n) h (omega arith) in omega arith

extents_end : (m : FinMap nat_cmp Bool) → AreLow m → (es : List Extent) →
    AreIn m (addresses es) → AllByRecursion Ends es
extents_end m low [] h = tt
extents_end m low (e ∷ es) h =
    let parts = AreIn-append m (run_of e.pa.0 e.len) (addresses es) h in (
      (λ some. let end : e.pa.0 + e.len ≤ 2 ^ 42 = run_ends m low e.pa.0 e.len parts.0 some in omega arith),
      extents_end m low es parts.1,
    )

pub AllEnd : (m : FinMap nat_cmp Bool) → AreLow m → (es : List Extent) → AreIn m (addresses es) → All Ends es
AllEnd m low es h = All-from_recursion Ends es (extents_end m low es h)

pub AreIn-at : (m : FinMap nat_cmp Bool) (xs : List ℕ) (i : ℕ) → AreIn m xs →
    i < length xs → IsSome (get m (slice_index xs i))
AreIn-at m [] i h lt = absurd (omega arith)
AreIn-at m (x ∷ xs) zero h lt = h.0
AreIn-at m (x ∷ xs) (suc i) h lt = AreIn-at m xs i h.1 (omega arith)

-- bytes that were marked are in the table
pub AreIn-marked : (m : FinMap nat_cmp Bool) (keys : List ℕ) (v : Bool) → AreIn (set_all m keys v) keys
AreIn-marked m [] v = tt
AreIn-marked m (k ∷ keys) v =
    ((AreIn-set_all (insert m k v) keys v (k ∷ []) (here, tt)).0, AreIn-marked (insert m k v) keys v)
  where
    here : IsSome (get (insert m k v) k)
    here = rw (get-insert nat_cmp_total m k v k, unsigned_tied k k, nat_eq_equiv.refl k) refl
