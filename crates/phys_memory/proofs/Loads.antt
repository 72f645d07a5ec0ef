-- The streams of walks as streams of loads.
use Rattle.std.proofs.Common.{◌≡◌, ℕ, ◌+◌, ◌<◌, ◌≤◌, ◌^◌, Bool, true, false, List, [], ◌∷◌, ◌++◌, length, refl, ap}
use Rattle.std.proofs.Common.{sym, ◌∙◌, subst, arith, append_assoc, append-nil, length-append}
use Rattle.std.specs.Prelude.{nat_eq, if◌then◌else◌}
use Rattle.std.specs.Iterator.{Yields, YieldsFirst, HoldsAlong}
use Rattle.std.specs.List.{AllByRecursion}
use Rattle.std.proofs.lemmas.List.Sums.{sum_by-cons, sum_by-append}
use Rattle.busdma_machine.specs.declared.machine.address.Extent.{Extent}
use Rattle.busdma_machine.specs.declared.machine.address.Span.{Span}
use Rattle.busdma_machine.specs.declared.machine.chunk.Entry.{Entry}
use Rattle.busdma_machine.specs.declared.machine.chunk.Part.{Part}
use Rattle.busdma_machine.specs.declared.machine.chunk.Part.TheVariants.{Of, Unmapped}
use Rattle.busdma_machine.specs.declared.report.Judged.{Judged}
use Rattle.busdma_machine.specs.declared.report.Judged.TheVariants.{Fine, Refused}
use Rattle.busdma_machine.specs.Machine.Entry.{AreJoined, HasPart, IsEntry}
use Rattle.busdma_machine.specs.Machine.Entry.{IsStream, entries_bytes, stream_entries}
use Rattle.busdma_machine.specs.Machine.Entry.{entry_parts, extent_parts, others_of, parts_of}
use Rattle.busdma_machine.specs.Runs.{IsExtent, addresses, byte_count, run_of}
use Rattle.busdma_machine.specs.Machine.Spans.{one_span, span_bytes}
use Rattle.busdma_rules.specs.Memory.Translation.{Translation}
use Rattle.busdma_rules.specs.Memory.Extents.{extents_of, reached_addresses}
use Rattle.phys_memory.specs.VectorStreams.{ending, spans_stream}
use Rattle.busdma_rules.specs.Memory.Vectors.{judged_spans, with_entry}
use Rattle.busdma_rules.specs.Memory.Vectors.{entries_of as walk_entries}
use Rattle.phys_memory.proofs.Extents.{length-run_of}
use Rattle.busdma_rules.proofs.Memory.Extents.{reached_extents}
use Rattle.busdma_rules.proofs.Memory.Paged.{IsPaged}
use Rattle.busdma_rules.proofs.Memory.Vectors.{entries_are, entries_touch}
use Rattle.phys_memory.proofs.VectorLaws.{length-reached}

-- ---- the entries of a stream of entries

others_behind : (r : Bool) (es : List Extent) (ps : List Part) →
    others_of (extent_parts false r es ++ ps) ≡ es ++ others_of ps
others_behind r [] ps = refl
others_behind r (e ∷ es) ps = ap (λ xs. e ∷ xs) (others_behind r es ps)

entries_behind : (r : Bool) (es : List Extent) (ps : List Part) →
    stream_entries (extent_parts false r es ++ ps) ≡ stream_entries ps
entries_behind r [] ps = refl
entries_behind r (e ∷ es) ps = entries_behind r es ps

-- the entries of a stream whose first entry has these parts
entry_first : (r : Bool) (es : List Extent) (ps : List Part) → 0 < length es → others_of ps ≡ [] →
    stream_entries (extent_parts true r es ++ ps) ≡ record { rounded = r; parts = es } ∷ stream_entries ps
entry_first r [] ps some h = absurd (omega arith)
entry_first r (e ∷ es) ps some h =
    ap (λ xs. record { rounded = r; parts = e ∷ xs } ∷ stream_entries (extent_parts false r es ++ ps))
    (others_behind r es ps ∙ ap (λ xs. es ++ xs) h ∙ append-nil es)
    ∙ ap (λ xs. record { rounded = r; parts = e ∷ es } ∷ xs) (entries_behind r es ps)

-- no part of an entry comes before the first part that opens an entry
opens_first : (r : Bool) (es : List Extent) (ps : List Part) → 0 < length es →
    others_of (extent_parts true r es ++ ps) ≡ []
opens_first r [] ps some = absurd (omega arith)
opens_first r (e ∷ es) ps some = refl

-- the stream of entries, and then parts that have none
module _ (last : List Part) (none : others_of last ≡ []) (end : stream_entries last ≡ []) where
  no_others : (es : List Entry) → AllByRecursion HasPart es → others_of (parts_of es ++ last) ≡ []
  no_others [] h = none
  no_others (e ∷ es) h =
      ap others_of (append_assoc (entry_parts e) (parts_of es) last)
      ∙ opens_first e.rounded e.parts (parts_of es ++ last) h.0

  same_entries : (es : List Entry) → AllByRecursion HasPart es → stream_entries (parts_of es ++ last) ≡ es
  same_entries [] h = end
  same_entries (e ∷ es) h =
      ap stream_entries (append_assoc (entry_parts e) (parts_of es) last)
      ∙ entry_first e.rounded e.parts (parts_of es ++ last) h.0 (no_others es h.1)
      ∙ ap (λ xs. e ∷ xs) (same_entries es h.1)

no_last_others : (j : Judged) → others_of (ending j) ≡ []
no_last_others Fine = refl
no_last_others (Refused r) = refl

no_last_entries : (j : Judged) → stream_entries (ending j) ≡ []
no_last_entries Fine = refl
no_last_entries (Refused r) = refl

-- ---- bytes

count_addresses : (es : List Extent) → length (addresses es) ≡ byte_count es
count_addresses [] = refl
count_addresses (e ∷ es) =
    omega (
      arith,
      length-append (run_of e.pa.0 e.len) (addresses es),
      length-run_of e.pa.0 e.len,
      count_addresses es,
      sum_by-cons (λ (x : Extent). x.len) e es,
    )

entry_bytes : (rounded : Bool) (pas : List ℕ) (es : List Entry) → addresses (extents_of pas) ≡ pas →
    entries_bytes (with_entry rounded pas es) ≡ length pas + entries_bytes es
entry_bytes rounded [] es h = omega arith
entry_bytes rounded (pa ∷ pas) es h =
    let own = extents_of (pa ∷ pas) in
    omega (
      arith,
      count_addresses own,
      ap length h,
      sum_by-cons (λ (x : Entry). byte_count x.parts) (record { rounded = rounded; parts = own }) es,
    )

module _ (Has : ℕ → Type 0) (rounded : Bool) (t : Translation) (is : IsPaged Has t) where
  -- a walk has no more bytes than its spans
  walk_bytes : (ss : List Span) → entries_bytes (walk_entries rounded t ss) ≤ span_bytes ss
  walk_bytes [] = omega arith
  walk_bytes (s ∷ ss) =
      let pas = reached_addresses t s.va.0 s.len in
      let others = if nat_eq (length pas) s.len then walk_entries rounded t ss else [] in
      let few =
      elim (nat_eq (length pas) s.len)
      as (λ b. entries_bytes (if b then walk_entries rounded t ss else []) ≤ span_bytes ss)
      [ true ↦ walk_bytes ss | false ↦ omega arith ] in
      omega (
        arith,
        entry_bytes rounded pas others (reached_extents Has t is s.va.0 s.len).bytes,
        few,
        length-reached t s.va.0 s.len,
        sum_by-cons (λ (x : Span). x.len) s ss,
      )

  -- the stream of spans of at most 2^20 bytes is that of a load
  pub spans_load : (ss : List Span) → span_bytes ss ≤ 2 ^ 20 → IsStream (spans_stream rounded t ss)
  spans_load ss small =
      let last = judged_spans t 0 ss in
      let touch = entries_touch Has rounded t is ss in
      let none = no_last_others last in
      let end = no_last_entries last in
      let same = same_entries (ending last) none end (walk_entries rounded t ss) touch in
      record {
        opens = no_others (ending last) none end (walk_entries rounded t ss) touch;
        entries = subst (AllByRecursion IsEntry) (sym same) (entries_are Has rounded t is ss);
        bytes = omega (arith, ap entries_bytes same, walk_bytes ss, small);
      }

pub one_bytes : (va n : ℕ) → span_bytes (one_span va n) ≡ n
one_bytes va n = omega (arith, sum_by-cons (λ (x : Span). x.len) (record { va = record { 0 = va }; len = n }) [])

-- ---- fronts

others_front : (xs ys : List Part) → (rest : List Extent) × (others_of (xs ++ ys) ≡ others_of xs ++ rest)
others_front [] ys = (others_of ys, refl)
others_front (Of e true r ∷ xs) ys = ([], refl)
others_front (Of e false r ∷ xs) ys = let f = others_front xs ys in (f.0, ap (λ es. e ∷ es) f.1)
others_front (Unmapped n ∷ xs) ys = others_front xs ys

no_extents : (es rest : List Extent) → es ++ rest ≡ [] → es ≡ []
no_extents [] rest h = refl
no_extents (e ∷ es) rest h = absurd (cc)

first_extents : (es rest : List Extent) → AllByRecursion IsExtent (es ++ rest) → AllByRecursion IsExtent es
first_extents [] rest h = tt
first_extents (e ∷ es) rest h = (h.0, first_extents es rest h.1)

joined_front : (es rest : List Extent) → AreJoined (es ++ rest) → AreJoined es
joined_front [] rest h = tt
joined_front (e ∷ []) rest h = tt
joined_front (e ∷ f ∷ es) rest h = (h.0, h.1, joined_front (f ∷ es) rest h.2)

entries_front : (xs ys : List Part) → AllByRecursion IsEntry (stream_entries (xs ++ ys)) →
    AllByRecursion IsEntry (stream_entries xs)
entries_front [] ys h = tt
entries_front (Of e true r ∷ xs) ys h =
    let f = others_front xs ys in
    let extents = subst (λ es. AllByRecursion IsExtent (e ∷ es)) f.1 h.0.extents in
    let joined = subst (λ es. AreJoined (e ∷ es)) f.1 h.0.joined in (
      record {
        extents = first_extents (e ∷ others_of xs) f.0 extents;
        joined = joined_front (e ∷ others_of xs) f.0 joined;
      },
      entries_front xs ys h.1,
    )
entries_front (Of e false r ∷ xs) ys h = entries_front xs ys h
entries_front (Unmapped n ∷ xs) ys h = entries_front xs ys h

bytes_front : (xs ys : List Part) → entries_bytes (stream_entries xs) ≤ entries_bytes (stream_entries (xs ++ ys))
bytes_front [] ys = omega arith
bytes_front (Of e true r ∷ xs) ys =
    let f = others_front xs ys in
    let here : Entry = record { rounded = r; parts = e ∷ others_of xs } in
    let there : Entry = record { rounded = r; parts = e ∷ others_of (xs ++ ys) } in
    omega (
      arith,
      sum_by-cons (λ (x : Entry). byte_count x.parts) here (stream_entries xs),
      sum_by-cons (λ (x : Entry). byte_count x.parts) there (stream_entries (xs ++ ys)),
      ap (λ es. byte_count (e ∷ es)) f.1,
      sum_by-append (λ (x : Extent). x.len) (e ∷ others_of xs) f.0,
      bytes_front xs ys,
    )
bytes_front (Of e false r ∷ xs) ys = bytes_front xs ys
bytes_front (Unmapped n ∷ xs) ys = bytes_front xs ys

-- a front of the stream of a load is the stream of a load
front_loads : (xs ys : List Part) → IsStream (xs ++ ys) → IsStream xs
front_loads xs ys h =
    let f = others_front xs ys in
    let small = h.bytes in
    record {
      opens = no_extents (others_of xs) f.0 (sym f.1 ∙ h.opens);
      entries = entries_front xs ys h.entries;
      bytes = omega (arith, bytes_front xs ys, small);
    }

-- what a stream has given, and then what is left, is the stream
given_first : (ps xs rest : List Part) → Yields (YieldsFirst (λ (qs : List Part). qs)) ps xs rest → ps ≡ xs ++ rest
given_first ps [] rest y = y
given_first ps (x ∷ xs) rest y = y.1 ∙ ap (λ ys. x ∷ ys) (given_first y.0 xs rest y.2)

-- what a stream of a load has left is the stream of a load at each point
pub along_loads : (ps : List Part) → IsStream ps → HoldsAlong (YieldsFirst (λ (qs : List Part). qs)) ps IsStream
along_loads ps h xs rest y = front_loads xs rest (subst IsStream (given_first ps xs rest y) h)
