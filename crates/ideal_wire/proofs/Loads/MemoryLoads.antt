-- What a load of a memory's own map asks can end without pages.
use Rattle.std.proofs.Common.{◌≡◌, ℕ, ◌+◌, ◌-◌, ◌*◌, ◌<◌, ◌≤◌, ◌==◌, ◌&&◌, not, Bool, true, false, cond}
use Rattle.std.proofs.Common.{List, [], ◌∷◌, map, length, zero, suc, Some, None, slice_get, is_some, append-nil}
use Rattle.std.proofs.Common.{refl, ap, sym, ◌∙◌, subst, arith, nat_le, nat_lt, unwrap_or, length-append}
use Rattle.std.proofs.lemmas.List.Sums.{sum_by-cons}
use Rattle.std.proofs.lemmas.Bool.{and_parts, ltb-true, le-leb, lt-ltb, eqb-true, false≢true, le-ltb}
use Rattle.std.specs.FinMap.{get}
use Rattle.std.specs.List.{AllByRecursion}
use Rattle.busdma_machine.specs.declared.report.Judged.TheVariants.{Fine}
use Rattle.busdma_machine.specs.declared.machine.address.Span.{Span}
use Rattle.busdma_machine.specs.declared.machine.bio.Bio.{Bio}
use Rattle.busdma_machine.specs.declared.machine.bio.Bio.TheVariants.{Mapped, Vector, Unmapped}
use Rattle.busdma_machine.specs.declared.machine.chunk.Entry.{Entry}
use Rattle.busdma_base.specs.declared.scenarios.scenario.PageRun.{PageRun}
use Rattle.busdma_machine.specs.declared.tags.tag.TagLimits.{TagLimits}
use Rattle.busdma_machine.specs.Bounce.MemoryRuns.{in_run}
use Rattle.busdma_machine.specs.Machine.Entry.{IsEntry, entries_addresses}
use Rattle.busdma_machine.specs.Machine.VirtualPages.{pages_end}
use Rattle.busdma_base.specs.Scenarios.PageRuns.{is_in_run, physical_in}
use Rattle.busdma_machine.specs.Runs.{run_of}
use Rattle.busdma_machine.specs.Tags.Tag.{IsEffective}
use Rattle.busdma_rules.specs.Memory.Extents.{reached_addresses}
use Rattle.busdma_rules.specs.Memory.Translation.{physical_or_0}
use Rattle.busdma_machine.specs.Machine.Spans.{bio_spans, one_span, span_addresses, span_bytes}
use Rattle.busdma_rules.specs.Memory.Vectors.{entries_of, with_entry}
use Rattle.busdma_rules.proofs.Memory.Extents.{reached_extents}
use Rattle.busdma_rules.proofs.Memory.Vectors.{entries_are}
use Rattle.busdma_rules.specs.Segments.Chunks.{chunks_of, need_of}
use Rattle.busdma_rules.proofs.Segments.Places.{run_length}
use Rattle.ideal_lane.specs.Loads.{chunks_for, is_foreign_to, limits_of, load_addresses, load_entries, load_judged}
use Rattle.ideal_lane.specs.Loads.{one_entry}
use Rattle.ideal_lane.specs.Places.{begin_of, or_in_memory, physical}
use Rattle.ideal_lane.specs.Standing.{Stands}
use Rattle.ideal_lane.specs.State.{LaneState, LaneMap, LaneMemory}
use Rattle.ideal_lane.proofs.Direct.{need-memory}
use Rattle.ideal_wire.specs.Laid.{AreFirst, is_loadable, AreLaid}
use Rattle.ideal_wire.specs.Machine.{IsOfMachine, IsInMachine}
use Rattle.ideal_wire.proofs.Obeys.AcceptedLaws.{limits-effective}
use Rattle.ideal_wire.proofs.Loads.Asked.{all-map}
use Rattle.ideal_wire.proofs.Laid.LoadLaid.{IsReady, of-bytes, ready}
use Rattle.ideal_wire.proofs.Loads.Reaching.{AllReached, all-from, all-reached, each-byte, entries-bytes, in-memory}
use Rattle.ideal_wire.proofs.Loads.Reaching.{paged}
use Rattle.ideal_wire.proofs.Laid.Positions.{found_one}
use Rattle.ideal_wire.proofs.Loads.Reaching.{reached-run, with-bytes}

-- a tag whose alignment is 1 is as effective
pub unaligned : (t : TagLimits) → IsEffective t → IsEffective (record t { alignment = 1 })
unaligned t e = record {
  alignment_power = (0, refl);
  alignment_low = omega arith;
  alignment_high = omega arith;
  boundary_power = e.boundary_power;
  boundary_low = e.boundary_low;
  maxsegsz = e.maxsegsz;
  lowaddr = e.lowaddr;
  highaddr = e.highaddr;
}

-- no page has an address among those of memories
pub no-page : (maxmem : ℕ) (runs : List PageRun) (va : ℕ) → AllByRecursion (IsOfMachine maxmem) runs → pages_end ≤ va →
    physical_in runs va ≡ None
no-page maxmem [] va all high = refl
no-page maxmem (r ∷ runs) va all high =
    ap (λ b. cond b (Some (4096 * r.frame + (va - r.va.0))) (physical_in runs va)) outside
    ∙ no-page maxmem runs va all.1 high
  where
    off : (b : Bool) → (b && false) ≡ false
    off true = refl
    off false = refl

    outside : is_in_run va r ≡ false
    outside = let end : r.va.0 + 4096 * r.count ≤ va = omega (arith, all.0.low, high) in
        ap (λ b. nat_le r.va.0 va && b) (le-ltb va (r.va.0 + 4096 * r.count) end) ∙ off (nat_le r.va.0 va)

-- bytes that are at their places from a first one on are a run
run-of-map : (f : ℕ → ℕ) (begin : ℕ) (vas : List ℕ) →
    ((k va : ℕ) → slice_get vas k ≡ Some va → f va ≡ begin + k) → map f vas ≡ run_of begin (length vas)
run-of-map f begin [] h = refl
run-of-map f begin (va ∷ vas) h =
    let first : f va ≡ begin = h 0 va refl ∙ omega arith in
    let rest : map f vas ≡ run_of (begin + 1) (length vas) =
    run-of-map f (begin + 1) vas (λ k x e. h (suc k) x e ∙ omega arith) in
    λ i. first i ∷ rest i

same-map : (vas : List ℕ) → map (λ va. va) vas ≡ vas
same-map [] = refl
same-map (va ∷ vas) = ap (λ xs. va ∷ xs) (same-map vas)

run-of-places : (begin : ℕ) (vas : List ℕ) → ((k va : ℕ) → slice_get vas k ≡ Some va → va ≡ begin + k) →
    vas ≡ run_of begin (length vas)
run-of-places begin vas h = sym (same-map vas) ∙ run-of-map (λ va. va) begin vas h

-- bytes that are a run from a memory's first byte on are the memory's first bytes
first-run : (y : LaneMemory) (bytes : List ℕ) (n : ℕ) → bytes ≡ run_of y.first n → AreFirst y bytes
first-run y bytes n same = same ∙ ap (run_of y.first) (sym (ap length same ∙ run_length y.first n))

-- spans have as many bytes as they say
pub count-spans : (spans : List Span) → length (span_addresses spans) ≡ span_bytes spans
count-spans [] = refl
count-spans (s ∷ ss) =
    omega (
      arith,
      length-append (run_of s.va.0 s.len) (span_addresses ss),
      run_length s.va.0 s.len,
      count-spans ss,
      sum_by-cons (λ (x : Span). x.len) s ss,
    )

module _ (l : LaneState) (laid : AreLaid l) (machine : IsInMachine l) (stands : Stands l) (m : ℕ) (o : LaneMap)
    (there : get l.maps m ≡ Some o) (y : LaneMemory) (memory : get l.mems m ≡ Some y) where
  abbrev t : TagLimits
  t = limits_of l o

  -- ---- a load of spans
  module _ (spans : List Span) (fine : load_judged l m (Vector spans) ≡ Fine) where
    abbrev es : List Entry
    es = entries_of true (physical l) spans

    abbrev vas : List ℕ
    vas = span_addresses spans

    -- each byte is the memory's, at its place
    record IsOwn (k va : ℕ) : Type 0 where
      pub place : va ≡ begin_of y + k
      pub physical_is : physical_or_0 (physical l) va ≡ y.first + k
      pub loadable : is_loadable (get l.mems m) l (physical_or_0 (physical l) va) ≡ true

    own-byte : (k va : ℕ) → slice_get vas k ≡ Some va → IsOwn k va
    own-byte k va e =
        let r = each-byte l m (Vector spans) fine k va e in
        by r.0 r.1 (yes (va == begin_of y + k && nat_lt k y.len) (sym (ap (λ q. is_foreign_to q l k va) memory) ∙ r.2))
      where
        yes : (c : Bool) → not c ≡ false → c ≡ true
        yes true h = refl
        yes false h = absurd (cc)

        by : (p : ℕ) → physical l va ≡ Some p → (va == begin_of y + k && nat_lt k y.len) ≡ true → IsOwn k va
        by p at both =
            let parts = and_parts (va == begin_of y + k) (nat_lt k y.len) both in
            let is : va ≡ pages_end + y.first + k = eqb-true va (begin_of y + k) parts.0 in
            let inside : k < y.len = ltb-true k y.len parts.1 in
            let none : physical_in l.pages va ≡ None =
            no-page l.maxmem l.pages va machine.pages (omega (arith, is)) in
            let found = in-memory l laid machine va p (sym (ap (or_in_memory l va) none) ∙ at) in
            let place : p ≡ y.first + k = omega (arith, found.1, is) in
            let room : y.len ≤ 4096 * y.count = (laid.runs m y memory).room in
            let here : in_run y.first y.count p ≡ true =
            rw (
              le-leb y.first p (omega (arith, place)),
              lt-ltb p (y.first + 4096 * y.count) (omega (arith, place, inside, room)),
            ) refl in
            record {
              place = is;
              physical_is = ap (λ q. unwrap_or q 0) at ∙ place;
              loadable =
                  ap (λ q. is_loadable q l (physical_or_0 (physical l) va)) memory
                  ∙ ap (λ q. in_run y.first y.count (unwrap_or q 0)) at ∙ here;
            }

    reached-all : AllReached (physical l) vas
    reached-all = all-reached l m (Vector spans) fine

    are-bytes : entries_addresses es ≡ map (physical_or_0 (physical l)) vas
    are-bytes = entries-bytes (physical l) (paged l laid machine) true spans reached-all

    loadable : AllByRecursion (λ a. is_loadable (get l.mems m) l a ≡ true) (entries_addresses es)
    loadable =
        subst (AllByRecursion (λ a. is_loadable (get l.mems m) l a ≡ true)) (sym are-bytes)
        (all-map (physical_or_0 (physical l)) (λ a. is_loadable (get l.mems m) l a ≡ true) vas
        (all-from _ vas (λ k va e. (own-byte k va e).loadable)))

    -- together they are the first bytes of the memory
    first-bytes : entries_addresses es ≡ run_of y.first (span_bytes spans)
    first-bytes =
        are-bytes ∙ run-of-map (physical_or_0 (physical l)) y.first vas (λ k va e. (own-byte k va e).physical_is)
        ∙ ap (run_of y.first) (count-spans spans)

    -- the bytes together are one span of the memory
    abbrev one : List Span
    one = one_span (begin_of y) (length vas)

    abbrev together : List Entry
    together = entries_of true (physical l) one

    run : vas ≡ run_of (begin_of y) (length vas)
    run = run-of-places (begin_of y) vas (λ k va e. (own-byte k va e).place)

    abbrev pas : List ℕ
    pas = reached_addresses (physical l) (begin_of y) (length vas)

    run-bytes : entries_addresses es ≡ pas
    run-bytes =
        are-bytes ∙ ap (map (physical_or_0 (physical l))) run
        ∙ sym (reached-run (physical l) (begin_of y) (length vas) (subst (AllReached (physical l)) run reached-all))

    one-entry : one_entry es ≡ together
    one-entry = ap (λ xs. with_entry true xs []) run-bytes ∙ by (length pas == length vas)
      where
        by : (b : Bool) → with_entry true pas [] ≡ with_entry true pas (cond b [] [])
        by true = refl
        by false = refl

    same-bytes : entries_addresses together ≡ entries_addresses es
    same-bytes =
        ap entries_addresses (sym one-entry)
        ∙ ap (λ xs. entries_addresses (with_entry true xs [])) run-bytes
        ∙ with-bytes true pas []
        (reached_extents (λ p. Unit {0}) (physical l) (paged l laid machine) (begin_of y) (length vas)).bytes
        ∙ append-nil pas ∙ sym run-bytes

    one-lies : AllByRecursion IsEntry (one_entry es)
    one-lies =
        subst (AllByRecursion IsEntry) (sym one-entry)
        (entries_are (λ p. Unit {0}) true (physical l) (paged l laid machine) one)

    no-need : need_of (chunks_of (record t { alignment = 1 }) 0 together) ≡ 0
    no-need =
        ap (λ xs. need_of (chunks_of (record t { alignment = 1 }) 0 xs)) (sym one-entry)
        ∙ need-memory l o es

    spans-ready : IsReady l m t es (chunks_for l o true es) []
    spans-ready =
        subst (λ xs. IsReady l m t es (chunks_of (record t { alignment = 1 }) 0 xs) []) (sym one-entry)
        (of-bytes l m t together es (chunks_of (record t { alignment = 1 }) 0 together) [] same-bytes
        (ready l m t (record t { alignment = 1 }) 0 together [] eff.maxsegsz (unaligned t eff) refl
        (entries_are (λ p. Unit {0}) true (physical l) (paged l laid machine) one) tt (sym no-need)
        (λ some. no-need)
        (λ z e. subst (λ v. AreFirst v (entries_addresses together)) (found_one (get l.mems m) y z memory e)
        (first-run y (entries_addresses together) (span_bytes spans) (same-bytes ∙ first-bytes)))
        (subst (AllByRecursion (λ a. is_loadable (get l.mems m) l a ≡ true)) (sym same-bytes) loadable)))
      where
        eff : IsEffective t
        eff = limits-effective l machine stands m o there

  -- ---- a load of a bio

  -- no byte of frames is a memory's
  no-frames : (frames : List ℕ) (off n : ℕ) → load_judged l m (Unmapped frames off (suc n)) ≡ Fine → ⊥
  no-frames frames off n fine =
      let r = each-byte l m (Unmapped frames off (suc n)) fine 0 off refl in
      false≢true (sym r.2 ∙ ap is_some memory)

  pub memory-bytes : (b : Bio) → load_judged l m b ≡ Fine →
      entries_addresses (load_entries l b) ≡ run_of y.first (span_bytes (bio_spans b))
  memory-bytes (Mapped span) fine = first-bytes (span ∷ []) fine
  memory-bytes (Vector spans) fine = first-bytes spans fine
  memory-bytes (Unmapped frames off zero) fine =
      let none : 0 ≡ span_bytes (one_span off 0) = count-spans (one_span off 0) in ap (run_of y.first) none
  memory-bytes (Unmapped frames off (suc n)) fine = absurd (no-frames frames off n fine)

  -- the bytes of the load are the memory's first bytes
  pub memory-addresses : (b : Bio) → load_judged l m b ≡ Fine →
      load_addresses l b ≡ run_of y.first (span_bytes (bio_spans b))
  memory-addresses (Mapped span) fine = sym (are-bytes (span ∷ []) fine) ∙ first-bytes (span ∷ []) fine
  memory-addresses (Vector spans) fine = sym (are-bytes spans fine) ∙ first-bytes spans fine
  memory-addresses (Unmapped frames off zero) fine =
      let none : 0 ≡ span_bytes (one_span off 0) = count-spans (one_span off 0) in ap (run_of y.first) none
  memory-addresses (Unmapped frames off (suc n)) fine = absurd (no-frames frames off n fine)

  -- one entry has the bytes of the load, and is in frames
  pub one-bytes : (b : Bio) → load_judged l m b ≡ Fine →
      entries_addresses (one_entry (load_entries l b)) ≡ entries_addresses (load_entries l b)
  one-bytes (Mapped span) fine = ap entries_addresses (one-entry (span ∷ []) fine) ∙ same-bytes (span ∷ []) fine
  one-bytes (Vector spans) fine = ap entries_addresses (one-entry spans fine) ∙ same-bytes spans fine
  one-bytes (Unmapped frames off zero) fine = refl
  one-bytes (Unmapped frames off (suc n)) fine = absurd (no-frames frames off n fine)

  pub memory-entries : (b : Bio) → load_judged l m b ≡ Fine →
      AllByRecursion IsEntry (one_entry (load_entries l b))
  memory-entries (Mapped span) fine = one-lies (span ∷ []) fine
  memory-entries (Vector spans) fine = one-lies spans fine
  memory-entries (Unmapped frames off zero) fine = tt
  memory-entries (Unmapped frames off (suc n)) fine = absurd (no-frames frames off n fine)

  pub memory-ready : (b : Bio) → load_judged l m b ≡ Fine →
      IsReady l m t (load_entries l b) (chunks_for l o true (load_entries l b)) []
  memory-ready (Mapped span) fine = spans-ready (span ∷ []) fine
  memory-ready (Vector spans) fine = spans-ready spans fine
  memory-ready (Unmapped frames off zero) fine = spans-ready [] refl
  memory-ready (Unmapped frames off (suc n)) fine = absurd (no-frames frames off n fine)
