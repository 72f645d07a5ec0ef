-- The ideal memory of what is really held, as loans and maps change.
use Rattle.std.proofs.Common.{◌≡◌, ℕ, ◌+◌, ◌==◌, ◌&&◌, ◌||◌, Bool, true, false, cond, List, []}
use Rattle.std.proofs.Common.{◌∷◌, Option, Some, None}
use Rattle.std.proofs.Common.{is_some, refl, sym, ap, ◌∙◌, arith}
use Rattle.std.proofs.lemmas.Bool.Decides.{nat_tests}
use Rattle.std.specs.Cmp.{nat_cmp_total, unsigned_tied}
use Rattle.std.specs.declared.cmp.Ordering.{Ordering}
use Rattle.std.specs.declared.cmp.Ordering.TheVariants.{Less, Equal, Greater}
use Rattle.std.specs.FinMap.{FinMap, get, insert, remove, entries, find, put, get-entries, entries-insert}
use Rattle.std.specs.FinMap.Entries.{by_order}
use Rattle.std.specs.List.{list_any, filter}
use Rattle.std.specs.Option.{option_map}
use Rattle.std.specs.Ordering.{nat_cmp, eq_by_cmp, is_eq}
use Rattle.busdma_machine.specs.declared.machine.chunk.Chunk.{Chunk}
use Rattle.busdma_rules.specs.declared.position.Position.{Position}
use Rattle.busdma_rules.specs.Lending.SyncEffects.{lost_by_forgetting}
use Rattle.busdma_rules.specs.Lending.Loans.{Loan, Loans, addresses_of, to_write, loan_of}
use Rattle.loan_table.specs.Table.{AreIn, set_all}
use Rattle.phys_memory.specs.Memory.{FrameMemory, wire}
use Rattle.ideal_lane.specs.IdealMemory.{Unknown, forgotten}
use Rattle.ideal_lane.proofs.Lookups.{get_put, get_cut, mapped, put_same}
use Rattle.ideal_wire.specs.Traces.{bus_at}
use Rattle.lane_state.specs.declared.kept.KeptMap.{KeptMap}
use Rattle.lane_state.specs.Held.{lent_bus, lent_byte, byte_among, devices_of, content_of, held}
use Rattle.lane_state.specs.Kept.{Device, device_of}
use Rattle.lane_state.proofs.Marks.{get-set_all}
use Rattle.lane_state.proofs.Places.{get_removed, taken-back}

-- a map is put that has what the map there had
pub devices-put : (maps : FinMap nat_cmp KeptMap) (k : ℕ) (o : KeptMap) → device_of (Some o) ≡ device_of (get maps k) →
    (q : ℕ) → devices_of (insert maps k o) q ≡ devices_of maps q
devices-put maps k o same q =
    ap device_of (get_put maps k o q) ∙ mapped device_of (q == k) (Some o) (get maps q)
    ∙ put_same (λ j. device_of (get maps j)) k q (device_of (Some o)) same

-- a map is gone that had nothing
pub devices-cut : (maps : FinMap nat_cmp KeptMap) (k : ℕ) → device_of None ≡ device_of (get maps k) →
    (q : ℕ) → devices_of (remove maps k) q ≡ devices_of maps q
devices-cut maps k same q =
    ap device_of (get_cut maps k q) ∙ mapped device_of (q == k) None (get maps q)
    ∙ put_same (λ j. device_of (get maps j)) k q (device_of None) same

-- the ideal memory of maps that have what they had
pub held-alike : (bytes : FinMap nat_cmp Bool) (loans : Loans) (d e : ℕ → Device) (m : FrameMemory) →
    ((q : ℕ) → e q ≡ d q) → held bytes loans e m ≡ held bytes loans d m
held-alike bytes loans d e m same = ap (λ x. held bytes loans x m) (λ i q. same q i)

-- another map is put at a place
pub devices-elsewhere : (maps : FinMap nat_cmp KeptMap) (k : ℕ) (o : KeptMap) (q : ℕ) → (k == q) ≡ false →
    devices_of (insert maps k o) q ≡ devices_of maps q
devices-elsewhere maps k o q off =
    let away : (q == k) ≡ false = grind (arith, nat_tests) in
    ap device_of (get_put maps k o q) ∙ ap (λ b. device_of (cond b (Some o) (get maps q))) away

module _ (m : FrameMemory) where
  pub byte-apart : (d e : ℕ → Device) (k : ℕ) (es : List (ℕ × Loan)) (a : ℕ) → find nat_cmp k es ≡ None →
      ((q : ℕ) → (k == q) ≡ false → e q ≡ d q) → byte_among e m es a ≡ byte_among d m es a
  byte-apart d e k [] a none same = refl
  byte-apart d e k (x ∷ es) a none same =
      by (λ h. byte-apart d e k es a h same) (eq_by_cmp nat_cmp k x.0) refl none
    where
      by : (find nat_cmp k es ≡ None → byte_among e m es a ≡ byte_among d m es a) → (b : Bool) →
          eq_by_cmp nat_cmp k x.0 ≡ b → cond b (Some x.1) (find nat_cmp k es) ≡ None →
          byte_among e m (x ∷ es) a ≡ byte_among d m (x ∷ es) a
      by rest true t h = absurd (cc)
      by rest false t h =
          let here : e x.0 ≡ d x.0 = same x.0 (sym (unsigned_tied k x.0) ∙ t) in
          let others : byte_among e m es a ≡ byte_among d m es a = rest h in
          λ i. lent_byte (here i) m (lent_bus (here i).chunks 0 x.1.positions a) (others i)

  pub byte-put : (d : ℕ → Device) (k : ℕ) (loan : Loan) (es : List (ℕ × Loan)) (a : ℕ) → find nat_cmp k es ≡ None →
      lent_bus (d k).chunks 0 loan.positions a ≡ None →
      byte_among d m (put nat_cmp k loan es) a ≡ byte_among d m es a
  byte-put d k loan [] a none unlent = ap (λ o. lent_byte (d k) m o (wire m a)) unlent
  byte-put d k loan (x ∷ es) a none unlent = by (λ h. byte-put d k loan es a h unlent) (nat_cmp k x.0) none
    where
      by : (find nat_cmp k es ≡ None → byte_among d m (put nat_cmp k loan es) a ≡ byte_among d m es a) →
          (o : Ordering) → cond (is_eq o) (Some x.1) (find nat_cmp k es) ≡ None →
          byte_among d m (by_order o ((k, loan) ∷ x ∷ es) ((x.0, loan) ∷ es) (x ∷ put nat_cmp k loan es)) a
          ≡ byte_among d m (x ∷ es) a
      by rest Less h = ap (λ o. lent_byte (d k) m o (byte_among d m (x ∷ es) a)) unlent
      by rest Equal h = absurd (cc)
      by rest Greater h = ap (lent_byte (d x.0) m (lent_bus (d x.0).chunks 0 x.1.positions a)) (rest h)

unlent-bus : (cs : List Chunk) (i : ℕ) (ps : List Position) (a : ℕ) →
    list_any (λ k. a == k) (addresses_of (filter to_write ps)) ≡ false → lent_bus cs i ps a ≡ None
unlent-bus cs i [] a h = refl
unlent-bus cs i (p ∷ ps) a h = by p.to_write h (unlent-bus cs (i + 1) ps a)
  where
    off : (b : Bool) → (a == p.pa) ≡ b → (b || list_any (λ k. a == k) (addresses_of (filter to_write ps))) ≡ false →
        ((p.pa == a) ≡ false) × (list_any (λ k. a == k) (addresses_of (filter to_write ps)) ≡ false)
    off true t k = absurd (cc)
    off false t k = (grind (arith, nat_tests), k)

    not_both : (b : Bool) → (b && false) ≡ false
    not_both true = refl
    not_both false = refl

    by : (w : Bool) →
        list_any (λ k. a == k) (addresses_of (cond w (p ∷ filter to_write ps) (filter to_write ps))) ≡ false →
        (list_any (λ k. a == k) (addresses_of (filter to_write ps)) ≡ false → lent_bus cs (i + 1) ps a ≡ None) →
        cond ((p.pa == a) && w) (Some (bus_at cs i p.pa)) (lent_bus cs (i + 1) ps a) ≡ None
    by true k rest =
        let parts = off (a == p.pa) refl k in
        ap (λ b. cond (b && true) (Some (bus_at cs i p.pa)) (lent_bus cs (i + 1) ps a)) parts.0 ∙ rest parts.1
    by false k rest =
        ap (λ b. cond b (Some (bus_at cs i p.pa)) (lent_bus cs (i + 1) ps a)) (not_both (p.pa == a)) ∙ rest k

some_in : (bytes : FinMap nat_cmp Bool) (keys : List ℕ) (a : ℕ) → AreIn bytes keys →
    list_any (λ k. a == k) keys ≡ true → is_some (get bytes a) ≡ true
some_in bytes [] a are h = absurd (cc)
some_in bytes (k ∷ keys) a are h = by (some_in bytes keys a are.1) (a == k) refl h
  where
    by : (list_any (λ k. a == k) keys ≡ true → is_some (get bytes a) ≡ true) → (b : Bool) → (a == k) ≡ b →
        (b || list_any (λ k. a == k) keys) ≡ true → is_some (get bytes a) ≡ true
    by rest true t g = let same : a ≡ k = grind (arith, nat_tests) in ap (λ q. is_some (get bytes q)) same ∙ are.0
    by rest false t g = rest g

-- a map's loan ends, and what it lent to write is Unknown
module _ (bytes : FinMap nat_cmp Bool) (loans : Loans) (m : FrameMemory) (d e : ℕ → Device) (k : ℕ) (loan : Loan)
    (lent : get loans k ≡ Some loan) (same : (q : ℕ) → (k == q) ≡ false → e q ≡ d q)
    (there : AreIn bytes (lost_by_forgetting loans k)) where
  abbrev keys : List ℕ
  keys = lost_by_forgetting loans k

  gone : find nat_cmp k (entries (remove loans k)) ≡ None
  gone = sym (get-entries (remove loans k) k) ∙ get_removed loans k

  all : entries loans ≡ put nat_cmp k loan (entries (remove loans k))
  all = sym (ap entries (taken-back loans k loan lent)) ∙ entries-insert nat_cmp_total (remove loans k) k loan

  kept-byte : (a : ℕ) → list_any (λ q. a == q) keys ≡ false →
      byte_among e m (entries (remove loans k)) a ≡ byte_among d m (entries loans) a
  kept-byte a off =
      let mine : loan_of loans k ≡ loan = rw lent refl in
      let unlent : lent_bus (d k).chunks 0 loan.positions a ≡ None =
      unlent-bus (d k).chunks 0 loan.positions a
      (sym (ap (λ (x : Loan). list_any (λ q. a == q) (addresses_of (filter to_write x.positions))) mine) ∙ off) in
      byte-apart m d e k (entries (remove loans k)) a gone same
      ∙ sym (ap (λ es. byte_among d m es a) all ∙ byte-put m d k loan (entries (remove loans k)) a gone unlent)

  lost-at : (o : Option Bool) (x : ℕ) → is_some o ≡ true → Some Unknown ≡ option_map (λ c. Unknown) (content_of o x)
  lost-at None x h = absurd (cc)
  lost-at (Some v) x h = refl

  at : (a : ℕ) (b : Bool) → list_any (λ q. a == q) keys ≡ b →
      content_of (cond b (Some false) (get bytes a)) (byte_among e m (entries (remove loans k)) a)
      ≡ cond b (option_map (λ c. Unknown) (held bytes loans d m a)) (held bytes loans d m a)
  at a true h = lost-at (get bytes a) (byte_among d m (entries loans) a) (some_in bytes keys a there h)
  at a false h = ap (content_of (get bytes a)) (kept-byte a h)

  pub held-forgotten : held (set_all bytes keys false) (remove loans k) e m ≡ forgotten keys (held bytes loans d m)
  held-forgotten = λ i a. (one a) i
    where
      one : (a : ℕ) → held (set_all bytes keys false) (remove loans k) e m a ≡ forgotten keys (held bytes loans d m) a
      one a =
          ap (λ o. content_of o (byte_among e m (entries (remove loans k)) a)) (get-set_all bytes keys false a)
          ∙ at a (list_any (λ q. a == q) keys) refl
