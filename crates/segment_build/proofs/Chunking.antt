-- Extents that are cut one after the other give the chunks of the entries.
use Rattle.std.proofs.Common.{◌≡◌, ◌^◌, ℕ, zero, suc, ◌+◌, ◌-◌, ◌%◌, ◌<◌, ◌≤◌, List, [], ◌∷◌, ◌++◌, take, drop, Bool}
use Rattle.std.proofs.Common.{true, false, cond, leb, eqb, refl, ap, sym, ◌∙◌, subst, append_assoc, append-nil, arith}
use Rattle.std.specs.Prelude.{Option, Some, None}
use Rattle.std.specs.Option.{option_to_list}
use Rattle.std.specs.List.{AllByRecursion}
use Rattle.std.proofs.lemmas.Bool.Decides.{nat_tests}
use Rattle.std.proofs.lemmas.List.{take_all, drop_all}
use Rattle.std.proofs.lemmas.List.Sums.{sum_by-cons}
use Rattle.busdma_machine.specs.declared.machine.address.Extent.{Extent}
use Rattle.busdma_machine.specs.declared.machine.chunk.Chunk.{Chunk}
use Rattle.busdma_machine.specs.declared.machine.chunk.Entry.{Entry}
use Rattle.busdma_machine.specs.declared.machine.chunk.Part.{Part}
use Rattle.busdma_machine.specs.declared.machine.chunk.Part.TheVariants.{Of, Unmapped}
use Rattle.busdma_machine.specs.declared.tags.tag.TagLimits.{TagLimits}
use Rattle.busdma_machine.specs.Runs.{IsExtent, run_of, addresses, byte_count}
use Rattle.busdma_machine.specs.Machine.Entry.{AreJoined, IsEntry, IsStream}
use Rattle.busdma_machine.specs.Machine.Entry.{entries_bytes, others_of, stream_entries}
use Rattle.busdma_machine.specs.Machine.Entry.{extent_parts, parts_of}
use Rattle.busdma_machine.specs.Tags.Tag.{IsEffective}
use Rattle.segment_build.specs.declared.cutter.Cutter.{Cutter}
use Rattle.busdma_rules.specs.Segments.Chunks.{chunk_limit, chunks_of_bytes, chunks_from, chunks_of}
use Rattle.busdma_rules.specs.Segments.Begun.{begun_chunk}
use Rattle.segment_build.specs.Cutting.{with_rest, uncut, opened, continued, begun, cut_by, closed_by, after_part}
use Rattle.segment_build.specs.Cutting.{closed_part, cut_after, closed}
use Rattle.busdma_rules.proofs.Segments.Places.{run_length}
use Rattle.busdma_rules.proofs.Segments.ChunkLaws.{take_nil, take_past, drop_past, run_split, limit_close, carried}
use Rattle.busdma_rules.proofs.Segments.ChunkLaws.{EndsFrame, chunk_begins, Fits, nothing_fits, ends_frame, joined_rest}

-- ---- lists

drop_nil : (k : ℕ) → drop {A = ℕ} k [] ≡ []
drop_nil zero = refl
drop_nil (suc k) = refl

not_zero : (n : ℕ) → 0 < n → eqb n 0 ≡ false
not_zero n h = grind (arith, nat_tests)

at_most : (a b : ℕ) → leb a b ≡ true → a ≤ b
at_most a b w = grind (arith, nat_tests)

above : (a b : ℕ) → leb a b ≡ false → b < a
above a b w = grind (arith, nat_tests)

-- ---- a chunk that begins in an extent

carried_none : (c : Option Chunk) → carried c [] ≡ c
carried_none None = refl
carried_none (Some c) = refl

carried_run : (c : Option Chunk) (a n : ℕ) → carried c (run_of a n) ≡ with_rest c a n
carried_run None a n = refl
carried_run (Some c) a zero = refl
carried_run (Some c) a (suc n) =
    rw (not_zero (suc n) (omega arith)) (ap
    (λ k. Some (record c { rest = Some (record { pa = record { 0 = a }; len = k }) })) (run_length a (suc n)))

-- ---- one extent after the other

-- what a cutter, the extents to come of its entry and the chunks of later entries give
abbrev to_come : TagLimits → ℕ → Cutter → List Extent → List Chunk → List Chunk
to_come t m s es later =
    option_to_list (carried s.last (take s.owed (addresses es)))
    ++ (chunks_of_bytes t m s.rounded (s.at + s.owed) (drop s.owed (addresses es)) ++ later)

small_cut : (t : TagLimits) (m : ℕ) (s : Cutter) (e : Extent) (es : List Extent) (later : List Chunk) →
    e.len ≤ s.owed → Fits s.owed (e ∷ es) → to_come t m (continued s e) es later ≡ to_come t m s (e ∷ es) later
small_cut t m s e [] later le fits =
    let len = run_length e.pa.0 e.len in
    let all = take_all s.owed (run_of e.pa.0 e.len) (omega arith) in
    let none = drop_all s.owed (run_of e.pa.0 e.len) (omega arith) in
    rw (
      append-nil (run_of e.pa.0 e.len),
      all,
      none,
      take_nil (s.owed - e.len),
      drop_nil (s.owed - e.len),
      carried_none (with_rest s.last e.pa.0 e.len),
      carried_run s.last e.pa.0 e.len,
    ) refl
small_cut t m s e (f ∷ es) later le fits =
    let len = run_length e.pa.0 e.len in
    let more = addresses (f ∷ es) in
    let z : s.owed - e.len ≡ 0 = omega arith in
    let place : s.at + e.len + 0 ≡ s.at + s.owed = omega arith in
    let one = take_past (run_of e.pa.0 e.len) more s.owed 0 (omega arith) in
    let two = drop_past (run_of e.pa.0 e.len) more s.owed 0 (omega arith) in
    rw (
      z,
      one,
      two,
      append-nil (run_of e.pa.0 e.len),
      carried_run s.last e.pa.0 e.len,
      carried_none (with_rest s.last e.pa.0 e.len),
      place,
    ) refl

large_cut : (t : TagLimits) (m : ℕ) (s : Cutter) (pa n : ℕ) (es : List Extent) (later : List Chunk) → IsEffective t →
    0 < n → (pa + s.owed) % 4096 + n ≤ 4096 → EndsFrame (pa + s.owed) n (addresses es) →
    option_to_list (with_rest s.last pa s.owed)
    ++ to_come t m (record s {
      last = Some (begun_chunk t m (s.at + s.owed) (pa + s.owed) n);
      owed = chunk_limit t m s.rounded (pa + s.owed) - n;
      at = s.at + (s.owed + n);
    }) es later
    ≡ option_to_list (carried s.last (take s.owed (run_of pa (s.owed + n) ++ addresses es)))
    ++ (chunks_of_bytes t m s.rounded (s.at + s.owed) (drop s.owed (run_of pa (s.owed + n) ++ addresses es)) ++ later)
large_cut t m s pa n es later eff pos inside ends =
    let a = pa + s.owed in
    let more = addresses es in
    let len = run_length pa s.owed in
    let split : run_of pa (s.owed + n) ++ more ≡ run_of pa s.owed ++ (run_of a n ++ more) =
    ap (λ zs. zs ++ more) (run_split pa s.owed n) ∙ append_assoc (run_of pa s.owed) (run_of a n) more in
    let one = take_past (run_of pa s.owed) (run_of a n ++ more) s.owed 0 (omega arith) in
    let two = drop_past (run_of pa s.owed) (run_of a n ++ more) s.owed 0 (omega arith) in
    let begins = chunk_begins t m s.rounded (s.at + s.owed) a n more eff pos inside ends in
    let place : s.at + (s.owed + n) ≡ s.at + s.owed + n = omega arith in
    let owed = chunk_limit t m s.rounded a - n in
    rw (split, one, two, append-nil (run_of pa s.owed), carried_run s.last pa s.owed, begins, place)
    (ap (λ cs. option_to_list (with_rest s.last pa s.owed) ++ cs)
    (sym (append_assoc (option_to_list (carried (Some (begun_chunk t m (s.at + s.owed) a n)) (take owed more)))
    (chunks_of_bytes t m s.rounded (s.at + s.owed + n + owed) (drop owed more)) later)))

cut_extent : (t : TagLimits) (m : ℕ) (s : Cutter) (e : Extent) (es : List Extent) (later : List Chunk) →
    IsEffective t → IsExtent e → AreJoined (e ∷ es) → Fits s.owed (e ∷ es) → option_to_list (closed_by s e)
    ++ to_come t m (cut_by t m s e) es later ≡ to_come t m s (e ∷ es) later
cut_extent t m s e es later eff x j fits =
    (elim (leb e.len s.owed) as (λ b. leb e.len s.owed ≡ b →
    option_to_list (cond b None (with_rest s.last e.pa.0 s.owed))
    ++ to_come t m (cond b (continued s e) (begun t m s e)) es later ≡ to_come t m s (e ∷ es) later) [
      | true ↦ λ w. small_cut t m s e es later (at_most e.len s.owed w) fits
      | false ↦ λ w.
          let gt = above e.len s.owed w in
          let inside = x.in_frame in
          let len : s.owed + (e.len - s.owed) ≡ e.len = omega arith in
          rw len at (large_cut t m s e.pa.0 (e.len - s.owed) es later eff (omega arith) (omega arith)
          (ends_frame e s.owed es gt x j))
    ]) refl

-- if a next extent but the last begins, it has all bytes that are owed
still_fits : (t : TagLimits) (m : ℕ) (s : Cutter) (e : Extent) (es : List Extent) → IsEffective t →
    AllByRecursion IsExtent (e ∷ es) → AreJoined (e ∷ es) → Fits s.owed (e ∷ es) → Fits (cut_by t m s e).owed es
still_fits t m s e [] eff x j fits = tt
still_fits t m s e (f ∷ []) eff x j fits = tt
still_fits t m s e (f ∷ g ∷ es) eff x j fits =
    let inside = x.0.in_frame in
    let frame = x.1.0.in_frame in
    let some = x.1.0.some in
    (elim (leb e.len s.owed) as (λ b. leb e.len s.owed ≡ b → (cond b (continued s e) (begun t m s e)).owed ≤ f.len) [
      | true ↦ λ w. omega arith
      | false ↦ λ w. (let gt = above e.len s.owed w in
          let close = limit_close t m s.rounded (e.pa.0 + s.owed) eff in omega (arith, j.0, j.1, j.2.0))
    ]) refl

pub cut_at : (t : TagLimits) (m : ℕ) (s : Cutter) (e : Extent) → (cut_by t m s e).at ≡ s.at + e.len
cut_at t m s e =
    elim (leb e.len s.owed) as (λ b. (cond b (continued s e) (begun t m s e)).at
    ≡ s.at + e.len) [ true ↦ refl | false ↦ refl ]

-- what a cutter requires of the parts to come
pub record IsCuttable (owed : ℕ) (ps : List Part) : Type 0 where
  pub extents : AllByRecursion IsExtent (others_of ps)
  pub joined : AreJoined (others_of ps)
  pub fits : Fits owed (others_of ps)
  pub entries : AllByRecursion IsEntry (stream_entries ps)

abbrev parts_to_come : TagLimits → ℕ → Cutter → List Part → List Chunk
parts_to_come t m s ps =
    to_come t m s (others_of ps) (chunks_from t m (s.at + byte_count (others_of ps)) (stream_entries ps))

parts_cut : (t : TagLimits) (m : ℕ) (s : Cutter) (ps : List Part) → IsEffective t → IsCuttable s.owed ps →
    closed t m s ps ++ option_to_list (cut_after t m s ps).last ≡ parts_to_come t m s ps
parts_cut t m s [] eff h =
    rw (take_nil s.owed, drop_nil s.owed, carried_none s.last) (sym (append-nil (option_to_list s.last)))
parts_cut t m s (Of e false r ∷ ps) eff h =
    let next = cut_by t m s e in
    let es = others_of ps in
    let place : next.at + byte_count es ≡ s.at + byte_count (e ∷ es) =
    omega (arith, cut_at t m s e, sum_by-cons (λ (x : Extent). x.len) e es) in
    let ih =
    parts_cut t m next ps eff (record {
      extents = h.extents.1;
      joined = joined_rest e es h.joined;
      fits = still_fits t m s e es eff h.extents h.joined h.fits;
      entries = h.entries;
    }) in
    append_assoc (option_to_list (closed_by s e)) (closed t m next ps) (option_to_list (cut_after t m next ps).last)
    ∙ (ap (λ cs. option_to_list (closed_by s e) ++ cs) ih
    ∙
    (cut_extent t m s e es (chunks_from t m (next.at + byte_count es) (stream_entries ps)) eff h.extents.0 h.joined
    h.fits
    ∙ ap (λ k. to_come t m s (e ∷ es) (chunks_from t m k (stream_entries ps))) place))
parts_cut t m s (Of e true r ∷ ps) eff h =
    let first = opened true r s in
    let next = cut_by t m first e in
    let es = others_of ps in
    let entry = h.entries.0 in
    let fits = nothing_fits (e ∷ es) in
    let place : next.at + byte_count es ≡ s.at + byte_count [] + byte_count (e ∷ es) =
    omega (arith, cut_at t m first e, sum_by-cons (λ (x : Extent). x.len) e es) in
    let here : s.at + 0 ≡ s.at + byte_count [] = omega arith in
    let ih =
    parts_cut t m next ps eff (record {
      extents = entry.extents.1;
      joined = joined_rest e es entry.joined;
      fits = still_fits t m first e es eff entry.extents entry.joined fits;
      entries = h.entries.1;
    }) in
    append_assoc (option_to_list (closed_by first e)) (closed t m next ps) (option_to_list (cut_after t m next ps).last)
    ∙ (ap (λ cs. option_to_list (closed_by first e) ++ cs) ih
    ∙ (cut_extent t m first e es (chunks_from t m (next.at + byte_count es) (stream_entries ps))
    eff entry.extents.0 entry.joined fits
    ∙ (ap (λ k. to_come t m first (e ∷ es) (chunks_from t m k (stream_entries ps))) place
    ∙ rw (carried_none s.last, take_nil s.owed, drop_nil s.owed, carried_none s.last, here) refl)))
parts_cut t m s (Unmapped n ∷ ps) eff h =
    parts_cut t m s ps eff (record { extents = h.extents; joined = h.joined; fits = h.fits; entries = h.entries })

-- the chunks of parts of which the first opens an entry
cut_is : (t : TagLimits) (m : ℕ) (ps : List Part) → IsEffective t → others_of ps ≡ [] →
    AllByRecursion IsEntry (stream_entries ps) →
    closed t m uncut ps ++ option_to_list (cut_after t m uncut ps).last ≡ chunks_of t m (stream_entries ps)
cut_is t m ps eff opens entries =
    parts_cut t m uncut ps eff (record {
      extents = subst (AllByRecursion IsExtent) (sym opens) tt;
      joined = subst AreJoined (sym opens) tt;
      fits = subst (Fits 0) (sym opens) tt;
      entries = entries;
    })
    ∙ rw opens refl

-- the chunks of a stream
pub chunks_are : (t : TagLimits) (m : ℕ) (ps : List Part) → IsEffective t → IsStream ps →
    closed t m uncut ps ++ option_to_list (cut_after t m uncut ps).last ≡ chunks_of t m (stream_entries ps)
chunks_are t m ps eff h = cut_is t m ps eff h.opens h.entries

-- ---- the stream of entries

pub after_append : (t : TagLimits) (m : ℕ) (s : Cutter) (xs ys : List Part) →
    cut_after t m s (xs ++ ys) ≡ cut_after t m (cut_after t m s xs) ys
after_append t m s [] ys = refl
after_append t m s (x ∷ xs) ys = after_append t m (after_part t m s x) xs ys

pub closed_append : (t : TagLimits) (m : ℕ) (s : Cutter) (xs ys : List Part) →
    closed t m s (xs ++ ys) ≡ closed t m s xs ++ closed t m (cut_after t m s xs) ys
closed_append t m s [] ys = refl
closed_append t m s (x ∷ xs) ys =
    ap (λ cs. option_to_list (closed_part s x) ++ cs) (closed_append t m (after_part t m s x) xs ys)
    ∙ sym (append_assoc (option_to_list (closed_part s x)) (closed t m (after_part t m s x) xs)
    (closed t m (cut_after t m (after_part t m s x) xs) ys))

others_behind : (r : Bool) (es : List Extent) (ps : List Part) → others_of ps ≡ [] →
    others_of (extent_parts false r es ++ ps) ≡ es
others_behind r [] ps h = h
others_behind r (e ∷ es) ps h = ap (λ xs. e ∷ xs) (others_behind r es ps h)

entries_behind : (r : Bool) (es : List Extent) (ps : List Part) →
    stream_entries (extent_parts false r es ++ ps) ≡ stream_entries ps
entries_behind r [] ps = refl
entries_behind r (e ∷ es) ps = entries_behind r es ps

others_opened : (r : Bool) (es : List Extent) (ps : List Part) → others_of ps ≡ [] →
    others_of (extent_parts true r es ++ ps) ≡ []
others_opened r [] ps h = h
others_opened r (e ∷ es) ps h = refl

no_others : (es : List Entry) → others_of (parts_of es) ≡ []
no_others [] = refl
no_others (e ∷ es) = others_opened e.rounded e.parts (parts_of es) (no_others es)

-- the first entry of a stream of entries, if it has an extent
entry_first : (r : Bool) (x : Extent) (xs : List Extent) (ps : List Part) → others_of ps ≡ [] →
    stream_entries (extent_parts true r (x ∷ xs) ++ ps) ≡ record { rounded = r; parts = x ∷ xs } ∷ stream_entries ps
entry_first r x xs ps h =
    ap (λ es. record { rounded = r; parts = x ∷ es }
    ∷ stream_entries (extent_parts false r xs ++ ps)) (others_behind r xs ps h)
    ∙ ap (λ es. record { rounded = r; parts = x ∷ xs } ∷ es) (entries_behind r xs ps)

entry_is : (r : Bool) (xs : List Extent) (ps : List Part) → others_of ps ≡ [] →
    IsEntry (record { rounded = r; parts = xs }) → AllByRecursion IsEntry (stream_entries ps) →
    AllByRecursion IsEntry (stream_entries (extent_parts true r xs ++ ps))
entry_is r [] ps opens x h = h
entry_is r (y ∷ ys) ps opens x h = subst (AllByRecursion IsEntry) (sym (entry_first r y ys ps opens)) (x, h)

are_entries : (es : List Entry) → AllByRecursion IsEntry es → AllByRecursion IsEntry (stream_entries (parts_of es))
are_entries [] h = tt
are_entries (e ∷ es) h = entry_is e.rounded e.parts (parts_of es) (no_others es) h.0 (are_entries es h.1)

entry_chunks : (t : TagLimits) (m at : ℕ) (r : Bool) (xs : List Extent) (ps : List Part) → others_of ps ≡ [] →
    chunks_from t m at (stream_entries (extent_parts true r xs ++ ps)) ≡ chunks_of_bytes t m r at (addresses xs)
    ++ chunks_from t m (at + byte_count xs) (stream_entries ps)
entry_chunks t m at r [] ps opens = let e : at + byte_count [] ≡ at = omega arith in rw e refl
entry_chunks t m at r (y ∷ ys) ps opens = ap (λ xs. chunks_from t m at xs) (entry_first r y ys ps opens)

same_chunks : (t : TagLimits) (m at : ℕ) (es : List Entry) →
    chunks_from t m at (stream_entries (parts_of es)) ≡ chunks_from t m at es
same_chunks t m at [] = refl
same_chunks t m at (e ∷ es) =
    entry_chunks t m at e.rounded e.parts (parts_of es) (no_others es)
    ∙ ap (λ cs. chunks_of_bytes t m e.rounded at (addresses e.parts) ++ cs)
    (same_chunks t m (at + byte_count e.parts) es)

-- the chunks of entries
pub entries_cut : (t : TagLimits) (m : ℕ) (es : List Entry) → IsEffective t → AllByRecursion IsEntry es →
    closed t m uncut (parts_of es) ++ option_to_list (cut_after t m uncut (parts_of es)).last ≡ chunks_of t m es
entries_cut t m es eff h = cut_is t m (parts_of es) eff (no_others es) (are_entries es h) ∙ same_chunks t m 0 es

-- the chunks that are closed, and the last
pub with_last : (t : TagLimits) (m : ℕ) (ps : List Part) (cs all : List Chunk) (s : Cutter) →
    cs ≡ closed t m uncut ps → s ≡ cut_after t m uncut ps →
    closed t m uncut ps ++ option_to_list (cut_after t m uncut ps).last ≡ all → cs ++ option_to_list s.last ≡ all
with_last t m ps cs all s e f h = rw (e, f) h

entry_bytes : (r : Bool) (xs : List Extent) (ps : List Part) → others_of ps ≡ [] →
    entries_bytes (stream_entries (extent_parts true r xs ++ ps)) ≡ byte_count xs + entries_bytes (stream_entries ps)
entry_bytes r [] ps opens = omega arith
entry_bytes r (y ∷ ys) ps opens = ap entries_bytes (entry_first r y ys ps opens)
    ∙ sum_by-cons (λ (x : Entry). byte_count x.parts) (record { rounded = r; parts = y ∷ ys }) (stream_entries ps)

same_bytes : (es : List Entry) → entries_bytes (stream_entries (parts_of es)) ≡ entries_bytes es
same_bytes [] = refl
same_bytes (e ∷ es) =
    omega (
      arith,
      entry_bytes e.rounded e.parts (parts_of es) (no_others es),
      same_bytes es,
      sum_by-cons (λ (x : Entry). byte_count x.parts) e es,
    )

-- the stream of the entries of a load
pub stream_of_entries : (es : List Entry) → AllByRecursion IsEntry es →
    entries_bytes es ≤ 2 ^ 20 → IsStream (parts_of es)
stream_of_entries es h l =
    record { opens = no_others es; entries = are_entries es h; bytes = omega (arith, same_bytes es) }

-- the stream has the chunks of the entries
pub chunks_of_parts : (t : TagLimits) (m : ℕ) (es : List Entry) →
    chunks_of t m (stream_entries (parts_of es)) ≡ chunks_of t m es
chunks_of_parts t m es = same_chunks t m 0 es
