-- Walks over vectors, and their streams, span by span.
use Rattle.std.proofs.Common.{◌≡◌, ℕ, zero, suc, ◌+◌, ◌<◌, ◌≤◌, Bool, true, false, List, [], ◌∷◌, ◌++◌, map, drop}
use Rattle.std.proofs.Common.{length, get_or, refl, ap, sym, ◌∙◌, subst, arith, append-nil, append_assoc}
use Rattle.std.specs.Prelude.{Option, Some, None, nat_eq, if◌then◌else◌}
use Rattle.std.specs.List.{AllByRecursion}
use Rattle.std.proofs.lemmas.List.{drop_all}
use Rattle.std.proofs.lemmas.List.Sums.{sum_by-cons}
use Rattle.std.proofs.Math.Seq.{drop-cons}
use Rattle.busdma_machine.specs.declared.machine.address.Extent.{Extent}
use Rattle.busdma_machine.specs.declared.machine.address.Span.{Span}
use Rattle.busdma_machine.specs.declared.machine.chunk.Entry.{Entry}
use Rattle.busdma_machine.specs.declared.machine.chunk.Part.{Part}
use Rattle.busdma_machine.specs.declared.machine.chunk.Part.TheVariants as part
use Rattle.busdma_machine.specs.declared.report.Judged.{Judged}
use Rattle.busdma_machine.specs.declared.report.Judged.TheVariants.{Fine, Refused}
use Rattle.busdma_machine.specs.Machine.Entry.{HasPart, IsEntry, entries_addresses, extent_parts, parts_of}
use Rattle.busdma_machine.specs.Machine.Spans.{one_span, span_addresses, span_bytes}
use Rattle.phys_memory.specs.declared.entries.Entries.{Entries}
use Rattle.phys_memory.specs.declared.entries.Entries.TheVariants as walk
use Rattle.phys_memory.specs.declared.walk.Walked.TheVariants.{Parts, Unmapped}
use Rattle.busdma_rules.specs.Memory.Translation.{Translation, physical_or_0}
use Rattle.busdma_rules.specs.Memory.Extents.{extents_of, reached_addresses, then_reached}
use Rattle.phys_memory.specs.VectorStreams.{IfAll, ending, spans_at, spans_stream, spans_walk, then_parts, walk_unless}
use Rattle.busdma_rules.specs.Memory.Vectors.{entries_of, judged_spans, with_entry}
use Rattle.phys_memory.specs.Walk.{flat_at, walk_of}
use Rattle.busdma_rules.proofs.Memory.Extents.{begins}
use Rattle.busdma_rules.proofs.Memory.Paged.{IsPaged}
use Rattle.busdma_rules.proofs.Memory.Vectors.{first_judged, first_entry, entries_are, entries_touch, entries_have}
use Rattle.busdma_rules.proofs.Memory.Vectors.{entries_bytes}

-- no more bytes are reached than there are
pub length-reached : (t : Translation) (va n : ℕ) → length (reached_addresses t va n) ≤ n
length-reached t va zero = omega arith
length-reached t va (suc n) = first (t va) (length-reached t (va + 1) n)
  where
    first : (o : Option ℕ) → length (reached_addresses t (va + 1) n) ≤ n →
        length (then_reached o (reached_addresses t (va + 1) n)) ≤ suc n
    first None h = omega arith
    first (Some p) h = omega arith

-- ---- streams

-- parts of extents, and what is after them
then_run : (es : List Extent) (opens rounded : Bool) (rest others : List Part) →
    then_parts (extent_parts opens rounded es ++ rest) others ≡ extent_parts opens rounded es ++ then_parts rest others
then_run [] opens rounded rest others = refl
then_run (e ∷ es) opens rounded rest others =
    ap (λ ps. part.Of e opens rounded ∷ ps) (then_run es false rounded rest others)

stream_entry : (rounded : Bool) (pas : List ℕ) (es : List Entry) →
    parts_of (with_entry rounded pas es) ≡ extent_parts true rounded (extents_of pas) ++ parts_of es
stream_entry rounded [] es = refl
stream_entry rounded (pa ∷ pas) es = refl

module _ (rounded : Bool) (t : Translation) (offset : ℕ) (s : Span) (ss : List Span) where
  abbrev first : List ℕ
  first = reached_addresses t s.va.0 s.len

  abbrev parts : List Part
  parts = extent_parts true rounded (extents_of first)

  abbrev last : Bool → List Part
  last b = if b then [] else part.Unmapped (offset + length first) ∷ []

  next_by : (b : Bool) → nat_eq (length first) s.len ≡ b →
      spans_at rounded t offset (s ∷ ss) ≡ then_parts (parts ++ last b) (spans_at rounded t (offset + s.len) ss)
  next_by true h =
      ap (λ es. parts_of es ++ ending (judged_spans t offset (s ∷ ss))) (first_entry t s ss offset rounded true h)
      ∙ ap (λ j. parts_of (with_entry rounded first (entries_of rounded t ss)) ++ ending j)
      (first_judged t s ss offset true h)
      ∙ ap (λ ps. ps ++ ending (judged_spans t (offset + s.len) ss))
      (stream_entry rounded first (entries_of rounded t ss))
      ∙ append_assoc parts (parts_of (entries_of rounded t ss)) (ending (judged_spans t (offset + s.len) ss))
      ∙ sym (then_run (extents_of first) true rounded [] (spans_at rounded t (offset + s.len) ss))
  next_by false h =
      ap (λ es. parts_of es ++ ending (judged_spans t offset (s ∷ ss))) (first_entry t s ss offset rounded false h)
      ∙ ap (λ j. parts_of (with_entry rounded first []) ++ ending j) (first_judged t s ss offset false h)
      ∙ ap (λ ps. ps ++ last false) (stream_entry rounded first [] ∙ append-nil parts)
      ∙ sym (then_run (extents_of first) true rounded (last false) (spans_at rounded t (offset + s.len) ss))

  -- the parts of the first span, and then those of the others
  pub spans_next : spans_at rounded t offset (s ∷ ss)
      ≡ then_parts (flat_at rounded t offset s.va.0 s.len) (spans_at rounded t (offset + s.len) ss)
  spans_next =
      next_by (nat_eq (length first) s.len) refl

-- the stream of one span
pub spans_one : (rounded : Bool) (t : Translation) (va n : ℕ) →
    spans_stream rounded t (one_span va n) ≡ flat_at rounded t 0 va n
spans_one rounded t va n =
    let one : Span = record { va = record { 0 = va }; len = n } in
    let ps = parts rounded t 0 one [] in
    spans_next rounded t 0 one []
    ∙ then_run (extents_of (reached_addresses t va n)) true rounded
    (last rounded t 0 one [] (nat_eq (length (reached_addresses t va n)) n)) []
    ∙ elim (nat_eq (length (reached_addresses t va n)) n) as (λ b. ps ++ then_parts (last rounded t 0 one [] b) [] ≡ ps
    ++ last rounded t 0 one [] b) [ true ↦ refl | false ↦ refl ]

-- the entries of a walk, if it has them, are those of the stream
pub walk_stream : (rounded : Bool) (t : Translation) (spans : List Span) →
    IfAll (spans_walk rounded t spans) (λ es. spans_stream rounded t spans ≡ parts_of es)
walk_stream rounded t spans = by_judgement (judged_spans t 0 spans)
  where
    by_judgement : (j : Judged) → IfAll (walk_unless j (entries_of rounded t spans))
        (λ es. parts_of (entries_of rounded t spans) ++ ending j ≡ parts_of es)
    by_judgement Fine = append-nil (parts_of (entries_of rounded t spans))
    by_judgement (Refused r) = tt

-- ---- walks

-- the walk over spans whose entries so far are these, and whose other spans begin at an offset
abbrev pub walk_from : Bool → Translation → List Entry → ℕ → List Span → Entries
walk_from rounded t es offset spans = walk_unless (judged_spans t offset spans) (es ++ entries_of rounded t spans)

not_true : false ≡ true → ⊥
not_true e = cc

-- what a walk over a run says of it
record Found (pas : List ℕ) (n : ℕ) (es : List Extent) : Type 0 where
  whole : nat_eq (length pas) n ≡ true
  are : es ≡ extents_of pas

found : (pas : List ℕ) (n : ℕ) (es : List Extent) → Parts es ≡ walk_of pas n → Found pas n es
found pas n es h = by_count (nat_eq (length pas) n) refl h
  where
    by_count : (b : Bool) → nat_eq (length pas) n ≡ b →
        Parts es ≡ (if b then Parts (extents_of pas) else Unmapped (length pas)) → Found pas n es
    by_count true e k = record { whole = e; are = cc }
    by_count false e k = absurd (cc)

record Missed (pas : List ℕ) (n at : ℕ) : Type 0 where
  cut : nat_eq (length pas) n ≡ false
  is : at ≡ length pas

missed : (pas : List ℕ) (n at : ℕ) → Unmapped at ≡ walk_of pas n → Missed pas n at
missed pas n at h = by_count (nat_eq (length pas) n) refl h
  where
    by_count : (b : Bool) → nat_eq (length pas) n ≡ b →
        Unmapped at ≡ (if b then Parts (extents_of pas) else Unmapped (length pas)) → Missed pas n at
    by_count true e k = absurd (cc)
    by_count false e k = record { cut = e; is = cc }

entry_added : (rounded : Bool) (pas : List ℕ) (e : Extent) (es : List Extent) (others : List Entry) →
    e ∷ es ≡ extents_of pas → with_entry rounded pas others ≡ record { rounded = rounded; parts = e ∷ es } ∷ others
entry_added rounded [] e es others h = absurd (cc)
entry_added rounded (pa ∷ pas) e es others h = ap (λ xs. record { rounded = rounded; parts = xs } ∷ others) (sym h)

no_entry : (rounded : Bool) (pas : List ℕ) (others : List Entry) →
    [] ≡ extents_of pas → with_entry rounded pas others ≡ others
no_entry rounded [] others h = refl
no_entry rounded (pa ∷ pas) others h = gone (h ∙ (begins pa (extents_of pas)).are)
  where
    gone : {e : Extent} {es : List Extent} → [] ≡ e ∷ es → with_entry rounded (pa ∷ pas) others ≡ others
    gone e = absurd (cc)

module _ (rounded : Bool) (t : Translation) (before : List Entry) (offset : ℕ) (s : Span) (ss : List Span) where
  abbrev here : List ℕ
  here = reached_addresses t s.va.0 s.len

  -- the walk after a span of which all bytes are reached
  past : (es : List Entry) → nat_eq (length here) s.len ≡ true → with_entry rounded here (entries_of rounded t ss) ≡ es
      ++ entries_of rounded t ss → walk_from rounded t before offset (s ∷ ss)
      ≡ walk_from rounded t (before ++ es) (offset + s.len) ss
  past es h e =
      ap (λ xs. walk_unless (judged_spans t offset (s ∷ ss)) (before ++ xs))
      (first_entry t s ss offset rounded true h ∙ e)
      ∙ ap (λ j. walk_unless j (before ++ (es ++ entries_of rounded t ss))) (first_judged t s ss offset true h)
      ∙ ap (walk_unless (judged_spans t (offset + s.len) ss)) (sym (append_assoc before es (entries_of rounded t ss)))

  pub past_entry : (es : List Extent) → Parts es ≡ walk_of here s.len → (es ≡ [] → false ≡ true) →
      walk_from rounded t before offset (s ∷ ss)
      ≡ walk_from rounded t (before ++ record { rounded = rounded; parts = es } ∷ []) (offset + s.len) ss
  past_entry [] h some = absurd (not_true (some refl))
  past_entry (e ∷ es) h some =
      let f = found here s.len (e ∷ es) h in
      past (record { rounded = rounded; parts = e ∷ es } ∷ []) f.whole
      (entry_added rounded here e es (entries_of rounded t ss) f.are)

  pub past_none : Parts [] ≡ walk_of here s.len →
      walk_from rounded t before offset (s ∷ ss) ≡ walk_from rounded t before (offset + s.len) ss
  past_none h =
      let f = found here s.len [] h in
      past [] f.whole (no_entry rounded here (entries_of rounded t ss) f.are)
      ∙ ap (λ es. walk_from rounded t es (offset + s.len) ss) (append-nil before)

  -- the walk at a span of which not all bytes are reached
  pub stopped : (at : ℕ) → Unmapped at ≡ walk_of here s.len →
      walk_from rounded t before offset (s ∷ ss) ≡ walk.Unmapped (offset + at)
  stopped at h =
      let f = missed here s.len at h in
      ap (λ j. walk_unless j (before ++ entries_of rounded t (s ∷ ss))) (first_judged t s ss offset false f.cut)
      ∙ ap (λ k. walk.Unmapped (offset + k)) (sym f.is)

-- an unreached byte is one of the span
pub missed_inside : (t : Translation) (va n at : ℕ) → Unmapped at ≡ walk_of (reached_addresses t va n) n → at ≤ n
missed_inside t va n at h = omega (arith, (missed (reached_addresses t va n) n at h).is, length-reached t va n)

-- what is left after an empty stream, at the start of the next span
pub next_span : (t : Translation) (now ps : List Part) (offset : ℕ) (spans : List Span) (s : Span) (ss : List Span) →
    now ≡ [] → spans ≡ s ∷ ss → ps ≡ flat_at true t offset s.va.0 s.len →
    then_parts ps (spans_at true t (offset + s.len) ss) ≡ then_parts now (spans_at true t offset spans)
next_span t now ps offset spans s ss none are e =
    ap (λ qs. then_parts qs (spans_at true t (offset + s.len) ss)) e ∙ sym (spans_next true t offset s ss)
    ∙ ap (spans_at true t offset) (sym are)
    ∙ ap (λ qs. then_parts qs (spans_at true t offset spans)) (sym none)

pub first_bytes : (offset : ℕ) (spans : List Span) (s : Span) (ss : List Span) → spans ≡ s ∷ ss →
    offset + s.len + span_bytes ss ≡ offset + span_bytes spans
first_bytes offset spans s ss are =
    let bytes : span_bytes spans ≡ s.len + span_bytes ss =
    ap span_bytes are ∙ sum_by-cons (λ (x : Span). x.len) s ss in
    omega (arith, bytes)

-- ---- what the entries of a walk are

-- a walk that has entries
record IsWhole (rounded : Bool) (t : Translation) (spans : List Span) (es : List Entry) : Type 0 where
  pub fine : judged_spans t 0 spans ≡ Fine
  pub are : es ≡ entries_of rounded t spans

whole : (rounded : Bool) (t : Translation) (spans : List Span) (es : List Entry) →
    walk.All es ≡ spans_walk rounded t spans → IsWhole rounded t spans es
whole rounded t spans es h = by_judgement (judged_spans t 0 spans) refl h
  where
    by_judgement : (j : Judged) → judged_spans t 0 spans ≡ j →
        walk.All es ≡ walk_unless j (entries_of rounded t spans) → IsWhole rounded t spans es
    by_judgement Fine e k = record { fine = e; are = cc }
    by_judgement (Refused r) e k = absurd (cc)

module _ (Has : ℕ → Type 0) (rounded : Bool) (t : Translation) (spans : List Span) (es : List Entry)
    (is : IsPaged Has t) (h : walk.All es ≡ spans_walk rounded t spans) where
  pub walk_bytes : entries_addresses es ≡ map (physical_or_0 t) (span_addresses spans)
  walk_bytes = ap entries_addresses (whole rounded t spans es h).are
      ∙ entries_bytes Has rounded t is 0 spans (whole rounded t spans es h).fine

  pub walk_entries : AllByRecursion IsEntry es
  walk_entries =
      subst (AllByRecursion IsEntry) (sym (whole rounded t spans es h).are) (entries_are Has rounded t is spans)

  pub walk_touches : AllByRecursion HasPart es
  walk_touches =
      subst (AllByRecursion HasPart) (sym (whole rounded t spans es h).are) (entries_touch Has rounded t is spans)

  pub walk_have : AllByRecursion (λ e. AllByRecursion (λ x. Has x.pa.0) e.parts) es
  walk_have =
      subst (AllByRecursion (λ e. AllByRecursion (λ x. Has x.pa.0) e.parts))
      (sym (whole rounded t spans es h).are) (entries_have Has rounded t is spans)

-- ---- the walk at an index

module _ (t : Translation) (es : List Entry) (offset : ℕ) (spans : List Span) (i : ℕ)
    (other : Span) (inside : i < length spans) where
  abbrev pub this : Span
  this = get_or spans i other

  split : drop i spans ≡ this ∷ drop (i + 1) spans
  split =
      let next : suc i ≡ i + 1 = omega arith in
      drop-cons spans i other inside ∙ ap (λ j. this ∷ drop j spans) next

  pub walk_here : walk_from true t es offset (drop i spans) ≡ walk_from true t es offset (this ∷ drop (i + 1) spans)
  walk_here = ap (walk_from true t es offset) split

  pub bytes_here : offset + this.len + span_bytes (drop (i + 1) spans) ≡ offset + span_bytes (drop i spans)
  bytes_here = first_bytes offset (drop i spans) this (drop (i + 1) spans) split

-- the walk at the end
pub walk_end : (t : Translation) (es all : List Entry) (offset : ℕ) (spans : List Span) (i : ℕ) → all ≡ es →
    length spans ≤ i → walk_from true t es offset (drop i spans)
    ≡ spans_walk true t spans → walk.All all ≡ spans_walk true t spans
walk_end t es all offset spans i same h e =
    ap walk.All (same ∙ sym (append-nil es)) ∙ ap (walk_from true t es offset) (sym (drop_all i spans h)) ∙ e
