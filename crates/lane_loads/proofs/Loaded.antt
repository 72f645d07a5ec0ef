-- What holds of a driver's maps and bytes once an idle map has another stage.
use Rattle.std.proofs.Common.{◌≡◌, ℕ, ◌+◌, ◌≤◌, ◌==◌, ◌&&◌, Bool, true, false, cond, List, [], ◌∷◌, Option}
use Rattle.std.proofs.Common.{Some, None, is_some}
use Rattle.std.proofs.Common.{refl, sym, ap, ◌∙◌, arith}
use Rattle.std.proofs.lemmas.Map.Views.{exact_unsigned_eq}
use Rattle.std.specs.Cmp.{nat_cmp_total}
use Rattle.std.specs.Ordering.{nat_cmp}
use Rattle.std.specs.FinMap.{FinMap, get, insert, contains_key, entries, get-entries, entries-insert}
use Rattle.busdma_machine.specs.declared.machine.chunk.Chunk.{Chunk}
use Rattle.lane_tables.specs.declared.queued.QueuedPage.{QueuedPage}
use Rattle.busdma_rules.specs.Lending.Loans.{Loan, Loans, new_loan, unlent_positions as unlent}
use Rattle.phys_memory.specs.Memory.{FrameMemory}
use Rattle.ideal_lane.proofs.Lookups.{get_put, mapped}
use Rattle.ideal_lane.proofs.Weights.{weigh-put}
use Rattle.ideal_wire.specs.Traces.{bus_at}
use Rattle.lane_state.specs.declared.kept.KeptMap.{KeptMap}
use Rattle.lane_state.specs.Covered.{has_load, is_covered_returning, is_tried, lends_pages, pages_due}
use Rattle.lane_state.specs.Held.{byte_among, content_of, held, lent_bus}
use Rattle.lane_state.specs.Kept.{Device, due_of}
use Rattle.lane_state.proofs.Bytes.{byte-apart, byte-put}
use Rattle.lane_state.proofs.Keeping.{IsIdleMap}
use Rattle.lane_state.proofs.MapTables.{AreMaps, returns-alike, told-put}

module _ (maps : FinMap nat_cmp KeptMap) (loans : Loans) (returns : List QueuedPage) (owed : ℕ)
    (are : AreMaps maps loans returns owed) (k : ℕ) (o v : KeptMap) (there : get maps k ≡ Some o)
    (idle : IsIdleMap o) where
  -- an idle map has another stage
  pub maps-staged : (others : Loans) →
      ((q : ℕ) → contains_key others q ≡ cond (q == k) (has_load (Some v)) (contains_key loans q)) →
      lends_pages (Some v) ≡ false → is_covered_returning (Some v) ≡ false → is_tried (Some v) ≡ true →
      pages_due maps + due_of v ≤ owed → AreMaps (insert maps k v) others returns owed
  maps-staged others has kept still tried fits =
      let weight : pages_due (insert maps k v) + due_of o ≡ pages_due maps + due_of v = weigh-put due_of maps k o v
      there in
      record {
        loaded = λ q. has q ∙ by (q == k) (are.loaded q)
            ∙ sym (ap has_load (get_put maps k v q) ∙ mapped has_load (q == k) (Some v) (get maps q));
        unlent = λ q. told-put lends_pages maps k v (kept ∙ sym (are.unlent k)) q ∙ are.unlent q;
        promised = omega (arith, weight, idle.undue, fits);
        returning = returns-alike maps (insert maps k v) returns
            (told-put is_covered_returning maps k v (still ∙ sym (ap is_covered_returning there ∙ idle.still)))
            are.returning;
        tried = λ q. told-put is_tried maps k v (tried ∙ sym (are.tried k)) q ∙ are.tried q;
      }
    where
      by : (b : Bool) → {x y : Bool} → x ≡ y → cond b (has_load (Some v)) x ≡ cond b (has_load (Some v)) y
      by b e = ap (cond b (has_load (Some v))) e

  -- the loans stay if the map is not loaded
  pub loans-stay : has_load (Some v) ≡ false →
      (q : ℕ) → contains_key loans q ≡ cond (q == k) (has_load (Some v)) (contains_key loans q)
  loans-stay not q = by (q == k) refl
    where
      by : (b : Bool) → (q == k) ≡ b → contains_key loans q ≡ cond b (has_load (Some v)) (contains_key loans q)
      by true e = ap (contains_key loans) (exact_unsigned_eq q k e) ∙ are.loaded k ∙ ap has_load there ∙ idle.unloaded
          ∙ sym not
      by false e = refl

  -- there is one more loan if the map is loaded
  pub loans-more : (loan : Loan) → has_load (Some v) ≡ true →
      (q : ℕ) → contains_key (insert loans k loan) q ≡ cond (q == k) (has_load (Some v)) (contains_key loans q)
  loans-more loan on q =
      ap is_some (get_put loans k loan q) ∙ mapped is_some (q == k) (Some loan) (get loans q)
      ∙ ap (λ b. cond (q == k) b (contains_key loans q)) (sym on)

  pub none-loaned : get loans k ≡ None
  none-loaned = none (get loans k) (are.loaded k ∙ ap has_load there ∙ idle.unloaded)
    where
      none : (x : Option Loan) → is_some x ≡ false → x ≡ None
      none None h = refl
      none (Some x) h = absurd (cc)

-- a loan that lends nothing has no byte lent to write
unlent-all : (cs : List Chunk) (i : ℕ) (bytes : List ℕ) (a : ℕ) → lent_bus cs i (unlent bytes) a ≡ None
unlent-all cs i [] a = refl
unlent-all cs i (b ∷ bytes) a = by (b == a) (unlent-all cs (i + 1) bytes a)
  where
    by : (t : Bool) → lent_bus cs (i + 1) (unlent bytes) a ≡ None →
        cond (t && false) (Some (bus_at cs i b)) (lent_bus cs (i + 1) (unlent bytes) a) ≡ None
    by true h = h
    by false h = h

-- a map comes with a loan that lends nothing: no byte of the ideal memory changes
pub held-loaded : (bytes : FinMap nat_cmp Bool) (loans : Loans) (m : FrameMemory) (d e : ℕ → Device) (k : ℕ)
    (coherent : Bool) (pas : List ℕ) → get loans k ≡ None → ((q : ℕ) → (k == q) ≡ false → e q ≡ d q) →
    held bytes (insert loans k (new_loan coherent pas)) e m ≡ held bytes loans d m
held-loaded bytes loans m d e k coherent pas none same =
    let gone = sym (get-entries loans k) ∙ none in
    λ i a. content_of (get bytes a) ((ap (λ es. byte_among e m es a)
    (entries-insert nat_cmp_total loans k (new_loan coherent pas))
    ∙ byte-put m e k (new_loan coherent pas) (entries loans) a gone (unlent-all (e k).chunks 0 pas a)
    ∙ byte-apart m d e k (entries loans) a gone same) i)
