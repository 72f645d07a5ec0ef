-- The memories of a driver when one comes or goes.
use Rattle.std.proofs.Common.{◌≡◌, ◌≢◌, ◌⊎◌, inl, inr, ℕ, ◌+◌, ◌<◌, ◌≤◌, ◌==◌, ◌||◌, Bool, true, false, cond}
use Rattle.std.proofs.Common.{Option, Some, None, is_some, refl, sym, ap, ◌∙◌, arith}
use Rattle.std.specs.List.{list_any}
use Rattle.std.specs.Ordering.{nat_cmp}
use Rattle.std.specs.FinMap.{FinMap, entries, entries_sorted, get, get-entries, insert, remove}
use Rattle.std.proofs.lemmas.Bool.{eq-eqb, ne_eqb}
use Rattle.std.proofs.lemmas.Bool.Decides.{eqb_tells, nat_tests}
use Rattle.busdma_machine.specs.Machine.VirtualPages.{pages_end}
use Rattle.memory_pages.specs.Placed.{is_byte}
use Rattle.memory_pages.proofs.Runs.{same_tests}
use Rattle.ideal_lane.proofs.Lookups.{get_cut, get_put}
use Rattle.ideal_wire.proofs.Faithful.Lent.{any_entry}
use Rattle.ideal_wire.proofs.Faithful.SyncedPositions.{decided}
use Rattle.lane_state.proofs.ChangeLaws.{none-pass}

-- a byte of a memory is at the end of the pages or above
pub byte-high : (first len va : ℕ) → is_byte first len va ≡ true → pages_end ≤ va
byte-high first len va h = grind (arith, nat_tests)

pub byte-lo : (first len va : ℕ) → is_byte first len va ≡ true → pages_end + first ≤ va
byte-lo first len va h = grind (arith, nat_tests)

pub byte-hi : (first len va : ℕ) → is_byte first len va ≡ true → va < pages_end + first + len
byte-hi first len va h = grind (arith, nat_tests)

pub some-or : {X : Type 0} (b : Bool) (x : X) (o : Option X) → is_some (cond b (Some x) o) ≡ (b || is_some o)
some-or true x o = refl
some-or false x o = refl

-- what passes is among the entries
pub any-there : {X : Type 0} (test : ℕ × X → Bool) (m : FinMap nat_cmp X) (k : ℕ) (x : X) → get m k ≡ Some x →
    test (k, x) ≡ true → list_any test (entries m) ≡ true
any-there test m k x there passes = by (list_any test (entries m)) refl
  where
    by : (b : Bool) → list_any test (entries m) ≡ b → b ≡ true
    by true e = refl
    by false e = sym (none-pass test (entries m) k x e (sym (get-entries m k) ∙ there)) ∙ passes

-- what is put is there, and so is what was there before
pub put-here : {X : Type 0} (m : FinMap nat_cmp X) (k : ℕ) (x : X) → get (insert m k x) k ≡ Some x
put-here m k x = get_put m k x k ∙ ap (λ b. cond b (Some x) (get m k)) (eq-eqb k k refl)

pub put-off : {X : Type 0} (m : FinMap nat_cmp X) (k : ℕ) (x : X) (q : ℕ) → q ≢ k → get (insert m k x) q ≡ get m q
put-off m k x q ne = get_put m k x q ∙ ap (λ b. cond b (Some x) (get m q)) (ne_eqb q k ne)

pub cut-off : {X : Type 0} (m : FinMap nat_cmp X) (k q : ℕ) → q ≢ k → get (remove m k) q ≡ get m q
cut-off m k q ne = get_cut m k q ∙ ap (λ b. cond b None (get m q)) (ne_eqb q k ne)

pub cut-here : {X : Type 0} (m : FinMap nat_cmp X) (k : ℕ) → get (remove m k) k ≡ None
cut-here m k = get_cut m k k ∙ ap (λ b. cond b None (get m k)) (eq-eqb k k refl)

module _ {X : Type 0} (test : ℕ × X → Bool) (m : FinMap nat_cmp X) where
  left : (a b : Bool) → a ≡ true → (a || b) ≡ true
  left true b e = refl
  left false b e = absurd (cc)

  right : (a b : Bool) → b ≡ true → (a || b) ≡ true
  right true b e = refl
  right false b e = e

  module _ (k : ℕ) (x : X) (vacant : get m k ≡ None) where
    into-at : (q : ℕ) (y : X) → get (insert m k x) q ≡ Some y → test (q, y) ≡ true →
        ((q == k) ≡ true) × (q ≡ k) ⊎ ((q == k) ≡ false) × (q ≢ k) → (test (k, x) || list_any test (entries m)) ≡ true
    into-at q y there passes (inl t) =
        let is : Some x ≡ Some y = sym (put-here m k x) ∙ ap (get (insert m k x)) (sym t.1) ∙ there in
        let same : x ≡ y = cc in
        left (test (k, x)) (list_any test (entries m)) ((λ i. test (sym t.1 i, same i)) ∙ passes)
    into-at q y there passes (inr t) =
        right (test (k, x)) (list_any test (entries m))
        (any-there test m q y (sym (put-off m k x q t.1) ∙ there) passes)

    out-at : (q : ℕ) (y : X) → get m q ≡ Some y → test (q, y) ≡ true → (q ≡ k) ⊎ (q ≢ k) →
        list_any test (entries (insert m k x)) ≡ true
    out-at q y old passes (inl u) =
        let gone : None ≡ Some y = sym vacant ∙ ap (get m) (sym u) ∙ old in absurd (cc)
    out-at q y old passes (inr u) = any-there test (insert m k x) q y (put-off m k x q u ∙ old) passes

    -- a memory comes that was not there
    pub any-put : list_any test (entries (insert m k x)) ≡ (test (k, x) || list_any test (entries m))
    any-put = same_tests (list_any test (entries (insert m k x))) (test (k, x) || list_any test (entries m)) (λ e.
        let r = any_entry test (entries (insert m k x)) (entries_sorted (insert m k x)) e in
        into-at r.key r.value (get-entries (insert m k x) r.key ∙ r.found) r.passes (eqb_tells r.key k))
        (λ e. out (test (k, x)) refl e)
      where
        out : (b : Bool) → test (k, x) ≡ b → (b || list_any test (entries m)) ≡ true →
            list_any test (entries (insert m k x)) ≡ true
        out true t g = any-there test (insert m k x) k x (put-here m k x) t
        out false t g =
            let r = any_entry test (entries m) (entries_sorted m) g in
            out-at r.key r.value (get-entries m r.key ∙ r.found) r.passes (decided r.key k)

  -- what passes the test without one entry is another entry
  pub any-cut : (k : ℕ) → list_any test (entries (remove m k)) ≡ true →
      (q : ℕ) × (y : X) × (q ≢ k) × (get m q ≡ Some y) × (test (q, y) ≡ true)
  any-cut k e =
      let r = any_entry test (entries (remove m k)) (entries_sorted (remove m k)) e in
      by r.key r.value (get-entries (remove m k) r.key ∙ r.found) r.passes (decided r.key k)
    where
      by : (q : ℕ) (y : X) → get (remove m k) q ≡ Some y → test (q, y) ≡ true → (q ≡ k) ⊎ (q ≢ k) →
          (q : ℕ) × (y : X) × (q ≢ k) × (get m q ≡ Some y) × (test (q, y) ≡ true)
      by q y there passes (inl t) =
          let gone : None ≡ Some y = sym (cut-here m k) ∙ ap (get (remove m k)) (sym t) ∙ there in
          absurd (cc)
      by q y there passes (inr t) = (q, y, t, sym (cut-off m k q t) ∙ there, passes)

  -- what passed the test beside that entry still does
  pub any-left : (k : ℕ) (q : ℕ) (y : X) → q ≢ k → get m q ≡ Some y → test (q, y) ≡ true →
      list_any test (entries (remove m k)) ≡ true
  any-left k q y ne there passes = any-there test (remove m k) q y (cut-off m k q ne ∙ there) passes

-- what was not there is not there after another entry is removed
pub cut-away : {X : Type 0} (m : FinMap nat_cmp X) (k q : ℕ) → get m q ≡ None → get (remove m k) q ≡ None
cut-away m k q none = get_cut m k q ∙ both (q == k) (get m q) none
  where
    both : {X : Type 0} (b : Bool) (o : Option X) → o ≡ None → cond b None o ≡ None
    both true o e = refl
    both false o e = e

-- what was not there is not there after an entry is put at another place
pub put-away : {X : Type 0} (m : FinMap nat_cmp X) (k : ℕ) (x : X) (q : ℕ) → (q ≡ k → ⊥) → get m q ≡ None →
    get (insert m k x) q ≡ None
put-away m k x q off none = put-off m k x q off ∙ none
