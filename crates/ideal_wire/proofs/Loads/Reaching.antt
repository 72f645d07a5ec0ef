-- The entries of a load have its bytes, in order.
use Rattle.std.proofs.Common.{◌≡◌, ◌≢◌, ℕ, zero, suc, ◌+◌, ◌-◌, ◌*◌, ◌%◌, ◌<◌, ◌≤◌, ◌&&◌, Bool, true}
use Rattle.std.proofs.Common.{false, cond, List, [], ◌∷◌, ◌++◌, map, length, Option, Some, None, slice_get, refl, ap}
use Rattle.std.proofs.Common.{sym, ◌∙◌, arith, nat_le, nat_lt, eq-eqb, inl, inr}
use Rattle.std.proofs.lemmas.Bool.{and_parts, leb-true, ltb-true, le-leb, lt-ltb, false≢true}
use Rattle.std.specs.Option.{option_map}
use Rattle.std.specs.List.{AllByRecursion, enumerate_from}
use Rattle.std.specs.FinMap.{get, entries, entries_sorted, get-entries}
use Rattle.busdma_machine.specs.declared.report.Judged.TheVariants.{Fine}
use Rattle.busdma_machine.specs.declared.machine.address.Span.{Span}
use Rattle.busdma_machine.specs.declared.machine.bio.Bio.{Bio}
use Rattle.busdma_machine.specs.declared.machine.chunk.Entry.{Entry}
use Rattle.busdma_base.specs.declared.scenarios.scenario.PageRun.{PageRun}
use Rattle.busdma_machine.specs.Machine.Entry.{entries_addresses}
use Rattle.busdma_machine.specs.Machine.VirtualPages.{pages_end}
use Rattle.busdma_base.specs.Scenarios.PageRuns.{is_own, is_in_run, physical_in}
use Rattle.busdma_machine.specs.Machine.Spans.{bio_spans, span_addresses}
use Rattle.busdma_machine.specs.Runs.{addresses, run_of}
use Rattle.busdma_rules.specs.Memory.Extents.{extents_of, reached_addresses, then_reached}
use Rattle.busdma_rules.specs.Memory.Translation.{Translation, physical_or_0}
use Rattle.busdma_rules.specs.Memory.Vectors.{entries_of, with_entry}
use Rattle.busdma_rules.proofs.Memory.Extents.{reached_extents}
use Rattle.busdma_rules.proofs.Memory.Paged.{KeepsPlaces, IsPaged}
use Rattle.ideal_lane.specs.Loads.{is_foreign_in, load_refusal, load_judged, load_translation}
use Rattle.ideal_lane.specs.Places.{physical, or_in_memory, is_memory_byte, is_in_memory}
use Rattle.ideal_lane.specs.State.{LaneState}
use Rattle.ideal_wire.specs.Laid.{IsOwnByte, OfPages, OfMemory, AreLaid}
use Rattle.ideal_wire.specs.Machine.{IsOfMachine, IsInMachine}
use Rattle.ideal_wire.proofs.Faithful.Lent.{any_entry}
use Rattle.ideal_wire.proofs.Faithful.PlacedLoads.{reaches}
use Rattle.ideal_wire.proofs.Laid.Positions.{found_one, fine_at}

-- ---- pages

-- two bytes of one page lie in the same runs
same-run : (va : ℕ) (r : PageRun) → r.va.0 % 4096 ≡ 0 → (va + 1) % 4096 ≢ 0 → is_in_run (va + 1) r ≡ is_in_run va r
same-run va r aligned inside =
    let low : nat_le r.va.0 (va + 1) ≡ nat_le r.va.0 va = one in
    let high : nat_lt (va + 1) (r.va.0 + 4096 * r.count) ≡ nat_lt va (r.va.0 + 4096 * r.count) = two in
    λ i. low i && high i
  where
    one : nat_le r.va.0 (va + 1) ≡ nat_le r.va.0 va
    one = elim (Rattle.std.proofs.lemmas.Bool.cases_lt va r.va.0)
        as (λ _. nat_le r.va.0 (va + 1) ≡ nat_le r.va.0 va) [
          | inl lt ↦
              let off : va + 1 < r.va.0 = below lt in
              Rattle.std.proofs.lemmas.Bool.lt-leb r.va.0 (va + 1) off
              ∙ sym (Rattle.std.proofs.lemmas.Bool.lt-leb r.va.0 va lt)
          | inr le ↦ le-leb r.va.0 (va + 1) (omega (arith, le)) ∙ sym (le-leb r.va.0 va le)
        ]
      where
        below : va < r.va.0 → va + 1 < r.va.0
        below lt = elim (Rattle.std.proofs.lemmas.Bool.cases_lt (va + 1) r.va.0) as (λ _. va + 1 < r.va.0) [
          | inl k ↦ k
          | inr k ↦ let same : (va + 1) % 4096 ≡ 0 = omega (arith, lt, k, aligned) in absurd (inside same)
        ]

    two : nat_lt (va + 1) (r.va.0 + 4096 * r.count) ≡ nat_lt va (r.va.0 + 4096 * r.count)
    two = elim (Rattle.std.proofs.lemmas.Bool.cases_lt (va + 1) (r.va.0 + 4096 * r.count))
        as (λ _. nat_lt (va + 1) (r.va.0 + 4096 * r.count) ≡ nat_lt va (r.va.0 + 4096 * r.count)) [
          | inl lt ↦
              lt-ltb (va + 1) (r.va.0 + 4096 * r.count) lt
              ∙ sym (lt-ltb va (r.va.0 + 4096 * r.count) (omega (arith, lt)))
          | inr le ↦
              Rattle.std.proofs.lemmas.Bool.le-ltb (va + 1) (r.va.0 + 4096 * r.count) le
              ∙ sym (Rattle.std.proofs.lemmas.Bool.le-ltb va (r.va.0 + 4096 * r.count) (past le))
        ]
      where
        past : r.va.0 + 4096 * r.count ≤ va + 1 → r.va.0 + 4096 * r.count ≤ va
        past le = elim (Rattle.std.proofs.lemmas.Bool.cases_lt va (r.va.0 + 4096 * r.count))
            as (λ _. r.va.0 + 4096 * r.count ≤ va) [
              | inr k ↦ k
              | inl k ↦ let same : (va + 1) % 4096 ≡ 0 = omega (arith, le, k, aligned) in absurd (inside same)
            ]

run-low : (va : ℕ) (r : PageRun) → is_in_run va r ≡ true → r.va.0 ≤ va
run-low va r h =
    leb-true r.va.0 va (and_parts (nat_le r.va.0 va) (nat_lt va (r.va.0 + 4096 * r.count)) h).0

-- the next byte of a page is the next of its frame
next-in : (maxmem : ℕ) (runs : List PageRun) (va : ℕ) → AllByRecursion (IsOfMachine maxmem) runs →
    (va + 1) % 4096 ≢ 0 → physical_in runs (va + 1) ≡ option_map (λ p. p + 1) (physical_in runs va)
next-in maxmem [] va all inside = refl
next-in maxmem (r ∷ runs) va all inside =
    ap (λ b. cond b (Some (4096 * r.frame + (va + 1 - r.va.0))) (physical_in runs (va + 1)))
    (same-run va r all.0.aligned inside)
    ∙ by (is_in_run va r) refl (next-in maxmem runs va all.1 inside)
  where
    by : (b : Bool) → is_in_run va r ≡ b →
        physical_in runs (va + 1) ≡ option_map (λ p. p + 1) (physical_in runs va) →
        cond b (Some (4096 * r.frame + (va + 1 - r.va.0))) (physical_in runs (va + 1))
        ≡ option_map (λ p. p + 1) (cond b (Some (4096 * r.frame + (va - r.va.0))) (physical_in runs va))
    by true e rest =
        let low = run-low va r e in
        let same : 4096 * r.frame + (va + 1 - r.va.0) ≡ 4096 * r.frame + (va - r.va.0) + 1 = omega (arith, low) in
        ap Some same
    by false e rest = rest

places-in : (maxmem : ℕ) (runs : List PageRun) (va p : ℕ) → AllByRecursion (IsOfMachine maxmem) runs →
    physical_in runs va ≡ Some p → p % 4096 ≡ va % 4096
places-in maxmem [] va p all h = absurd (cc)
places-in maxmem (r ∷ runs) va p all h = by (is_in_run va r) refl (places-in maxmem runs va p all.1) h
  where
    by : (b : Bool) → is_in_run va r ≡ b → (physical_in runs va ≡ Some p → p % 4096 ≡ va % 4096) →
        cond b (Some (4096 * r.frame + (va - r.va.0))) (physical_in runs va) ≡ Some p → p % 4096 ≡ va % 4096
    by true e rest g =
        let low = run-low va r e in
        let at : 4096 * r.frame + (va - r.va.0) ≡ p =
        found_one (Some (4096 * r.frame + (va - r.va.0))) (4096 * r.frame + (va - r.va.0)) p refl g in
        omega (arith, low, at, all.0.aligned)
    by false e rest g = rest g

-- a byte of pages lies below the end of memory
own-below : (maxmem : ℕ) (runs : List PageRun) (a : ℕ) → AllByRecursion (IsOfMachine maxmem) runs →
    is_own runs a ≡ true → a < 4096 * maxmem
own-below maxmem [] a all h = absurd (cc)
own-below maxmem (r ∷ runs) a all h = by within refl (own-below maxmem runs a all.1) h
  where
    within : Bool
    within = nat_le (4096 * r.frame) a && nat_lt a (4096 * (r.frame + r.count))

    by : (b : Bool) → within ≡ b → (is_own runs a ≡ true → a < 4096 * maxmem) →
        Rattle.std.specs.Prelude.◌||◌ b (is_own runs a) ≡ true → a < 4096 * maxmem
    by true e rest g =
        let high : a < 4096 * (r.frame + r.count) =
        ltb-true a (4096 * (r.frame + r.count)) (and_parts (nat_le (4096 * r.frame) a) _ e).1 in
        let below : r.frame + r.count ≤ maxmem = all.0.below in
        omega (arith, high, below)
    by false e rest g = rest g

-- ---- what the driver reaches
module _ (l : LaneState) (laid : AreLaid l) (machine : IsInMachine l) where
  pub byte-below : (a : ℕ) → IsOwnByte l a → a < 4096 * l.maxmem
  byte-below a (OfPages e) = own-below l.maxmem l.pages a machine.pages e
  byte-below a (OfMemory k x there h) =
      let high : a < x.first + 4096 * x.count =
      ltb-true a (x.first + 4096 * x.count) (and_parts (nat_le x.first a) _ h).1 in
      let below = machine.mems k x there in
      omega (arith, high, below)

  pub memory-low : (va : ℕ) → is_memory_byte l va ≡ true → pages_end ≤ va
  memory-low va e =
      let x = any_entry (λ q. is_in_memory va q.1) (entries l.mems) (entries_sorted l.mems) e in
      let begin : ℕ = pages_end + x.value.first in
      let low : begin ≤ va = leb-true begin va (and_parts (nat_le begin va) _ x.passes).0 in
      omega (arith, low)

  -- a byte that is no byte of pages, but one of a memory
  pub in-memory : (va p : ℕ) → or_in_memory l va None ≡ Some p → (pages_end ≤ va) × (p ≡ va - pages_end)
  in-memory va p h = by (is_memory_byte l va) refl h
    where
      by : (b : Bool) → is_memory_byte l va ≡ b → cond b (Some (va - pages_end)) None ≡ Some p →
          (pages_end ≤ va) × (p ≡ va - pages_end)
      by false e g = absurd (cc)
      by true e g = (memory-low va e, sym (found_one (Some (va - pages_end)) (va - pages_end) p refl g))

  places : KeepsPlaces (physical l)
  places va p h = by (physical_in l.pages va) refl h
    where
      by : (o : Option ℕ) → physical_in l.pages va ≡ o → or_in_memory l va o ≡ Some p → p % 4096 ≡ va % 4096
      by None e g = let m = in-memory va p g in omega (arith, m.0, m.1)
      by (Some q) e g = places-in l.maxmem l.pages va p machine.pages (e ∙ g)

  next : (va p q : ℕ) → physical l va ≡ Some p → physical l (va + 1) ≡ Some q → (va + 1) % 4096 ≢ 0 → q ≡ p + 1
  next va p q h k inside =
      by (physical_in l.pages va) refl h
      (sym (ap (or_in_memory l (va + 1)) (next-in l.maxmem l.pages va machine.pages inside)) ∙ k)
    where
      by : (o : Option ℕ) → physical_in l.pages va ≡ o → or_in_memory l va o ≡ Some p →
          or_in_memory l (va + 1) (option_map (λ x. x + 1) (physical_in l.pages va)) ≡ Some q → q ≡ p + 1
      by None e g r =
          let m = in-memory va p g in
          let n = in-memory (va + 1) q (sym (ap (λ o. or_in_memory l (va + 1) (option_map (λ x. x + 1) o)) e) ∙ r) in
          omega (arith, m.0, m.1, n.1)
      by (Some x) e g r =
          let here : x ≡ p = found_one (Some x) x p refl g in
          let there : x + 1 ≡ q =
          found_one (Some (x + 1)) (x + 1) q refl
          (sym (ap (λ o. or_in_memory l (va + 1) (option_map (λ y. y + 1) o)) e) ∙ r) in
          omega (arith, here, there)

  pub paged : IsPaged (λ p. Unit {0}) (physical l)
  paged = record {
    places = places;
    next = next;
    low = λ va p h. let below = byte-below p (reaches l laid va p h) in
        let most = machine.numbered in omega (arith, below, most);
    has = λ va p h. tt;
  }

-- ---- the entries of bytes that are all reached

-- each of these virtual addresses is reached
abbrev pub AllReached : Translation → List ℕ → Type 0
AllReached t vas = AllByRecursion (λ va. (p : ℕ) × (t va ≡ Some p)) vas

pub reached-run : (t : Translation) (va n : ℕ) → AllReached t (run_of va n) →
    reached_addresses t va n ≡ map (physical_or_0 t) (run_of va n)
reached-run t va zero h = refl
reached-run t va (suc n) h =
    let e = h.0.1 in
    ap (λ o. then_reached o (reached_addresses t (va + 1) n)) e
    ∙ ap (λ xs. h.0.0 ∷ xs) (reached-run t (va + 1) n h.1)
    ∙ ap (λ (o : Option ℕ). Rattle.std.specs.Option.unwrap_or o 0 ∷ map (physical_or_0 t) (run_of (va + 1) n)) (sym e)

run-length : (a n : ℕ) → length (run_of a n) ≡ n
run-length a zero = refl
run-length a (suc n) = omega (arith, run-length (a + 1) n)

map-length : {A B : Type 0} (f : A → B) (xs : List A) → length (map f xs) ≡ length xs
map-length f [] = refl
map-length f (x ∷ xs) = ap suc (map-length f xs)

map-append : {A B : Type 0} (f : A → B) (xs ys : List A) → map f (xs ++ ys) ≡ map f xs ++ map f ys
map-append f [] ys = refl
map-append f (x ∷ xs) ys = ap (λ zs. f x ∷ zs) (map-append f xs ys)

all-split : {X : Type 0} (P : X → Type 0) (xs ys : List X) → AllByRecursion P (xs ++ ys) →
    AllByRecursion P xs × AllByRecursion P ys
all-split P [] ys h = (tt, h)
all-split P (x ∷ xs) ys h = let r = all-split P xs ys h.1 in ((h.0, r.0), r.1)

pub with-bytes : (rounded : Bool) (pas : List ℕ) (es : List Entry) → addresses (extents_of pas) ≡ pas →
    entries_addresses (with_entry rounded pas es) ≡ pas ++ entries_addresses es
with-bytes rounded [] es h = refl
with-bytes rounded (pa ∷ pas) es h = ap (λ xs. xs ++ entries_addresses es) h

module _ {Has : ℕ → Type 0} (t : Translation) (is : IsPaged Has t) where
  pub entries-bytes : (rounded : Bool) (spans : List Span) → AllReached t (span_addresses spans) →
      entries_addresses (entries_of rounded t spans) ≡ map (physical_or_0 t) (span_addresses spans)
  entries-bytes rounded [] h = refl
  entries-bytes rounded (s ∷ ss) h =
      let parts = all-split _ (run_of s.va.0 s.len) (span_addresses ss) h in
      let pas = reached_addresses t s.va.0 s.len in
      let are : pas ≡ map (physical_or_0 t) (run_of s.va.0 s.len) = reached-run t s.va.0 s.len parts.0 in
      let whole : length pas ≡ s.len = ap length are ∙ map-length (physical_or_0 t) (run_of s.va.0 s.len)
      ∙ run-length s.va.0 s.len in
      ap (λ b. entries_addresses (with_entry rounded pas (cond b (entries_of rounded t ss) [])))
      (eq-eqb (length pas) s.len whole)
      ∙ with-bytes rounded pas (entries_of rounded t ss) (reached_extents Has t is s.va.0 s.len).bytes
      ∙ (λ i. are i ++ entries-bytes rounded ss parts.1 i)
      ∙ sym (map-append (physical_or_0 t) (run_of s.va.0 s.len) (span_addresses ss))

-- ---- the bytes of a load that is judged fine

at-place : {X : Type 0} (n k : ℕ) (xs : List X) (x : X) → slice_get xs k ≡ Some x →
    slice_get (enumerate_from n xs) k ≡ Some (n + k, x)
at-place n k [] x h = absurd (cc)
at-place n zero (y ∷ xs) x h =
    let e : y ≡ x = found_one (Some y) y x refl h in
    let f : n ≡ n + 0 = omega arith in
    λ i. Some (f i, e i)
at-place n (suc k) (y ∷ xs) x h =
    let f : n + 1 + k ≡ n + suc k = omega arith in at-place (n + 1) k xs x h ∙ ap (λ j. Some (j, x)) f

passes : (foreign : Bool) (o : Option ℕ) → load_refusal foreign o ≡ None → (p : ℕ) × (o ≡ Some p) × (foreign ≡ false)
passes foreign None h = absurd (cc)
passes true (Some p) h = absurd (cc)
passes false (Some p) h = (p, refl, refl)

pub each-byte : (l : LaneState) (m : ℕ) (b : Bio) → load_judged l m b ≡ Fine → (k va : ℕ) →
    slice_get (span_addresses (bio_spans b)) k ≡ Some va →
    (p : ℕ) × (load_translation l b va ≡ Some p) × (is_foreign_in b (get l.mems m) l k va ≡ false)
each-byte l m b fine k va h =
    let f = fine_at (λ x. load_refusal (is_foreign_in b (get l.mems m) l x.0 x.1) (load_translation l b x.1)) 0
    (enumerate_from 0 (span_addresses (bio_spans b))) fine k (0 + k, va)
    (at-place 0 k (span_addresses (bio_spans b)) va h) in
    let e : 0 + k ≡ k = omega arith in
    let r = passes (is_foreign_in b (get l.mems m) l (0 + k) va) (load_translation l b va) f in
    (r.0, r.1, sym (ap (λ j. is_foreign_in b (get l.mems m) l j va) e) ∙ r.2)

pub all-from : {X : Type 0} (P : X → Type 0) (xs : List X) → ((k : ℕ) (x : X) → slice_get xs k ≡ Some x → P x) →
    AllByRecursion P xs
all-from P [] h = tt
all-from P (x ∷ xs) h = (h 0 x refl, all-from P xs (λ k y e. h (suc k) y e))

pub all-reached : (l : LaneState) (m : ℕ) (b : Bio) → load_judged l m b ≡ Fine →
    AllReached (load_translation l b) (span_addresses (bio_spans b))
all-reached l m b fine =
    all-from _ (span_addresses (bio_spans b)) (λ k va e. let r = each-byte l m b fine k va e in (r.0, r.1))
