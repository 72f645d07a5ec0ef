-- The stream of a load: its extents, and the byte that stops it.
use Rattle.std.proofs.Common.{◌≡◌, ℕ, ◌+◌, ◌≤◌, ◌^◌, Bool, true, false, List, [], ◌∷◌, ◌++◌, Option, Some, None, refl}
use Rattle.std.proofs.Common.{sym, ap}
use Rattle.std.proofs.Common.{zero, suc, ◌<◌, ◌∙◌, subst, arith, append_assoc, length, slice_index_or}
use Rattle.std.specs.List.{Contains}
use Rattle.std.specs.List.{AllByRecursion}
use Rattle.std.specs.Ordering.{nat_cmp}
use Rattle.std.specs.FinMap.{FinMap}
use Rattle.busdma_machine.specs.declared.report.Judged.{Judged}
use Rattle.busdma_machine.specs.declared.report.Judged.TheVariants.{Fine, Refused}
use Rattle.busdma_machine.specs.declared.report.Report.{Report}
use Rattle.busdma_machine.specs.declared.report.ReportName.{ReportName}
use Rattle.busdma_machine.specs.declared.report.ReportName.TheVariants as name
use Rattle.busdma_machine.specs.declared.machine.address.Extent.{Extent}
use Rattle.busdma_machine.specs.declared.machine.address.Span.{Span}
use Rattle.busdma_machine.specs.declared.machine.bio.Bio.{Bio}
use Rattle.busdma_machine.specs.declared.machine.chunk.Entry.{Entry}
use Rattle.busdma_machine.specs.declared.machine.chunk.Part.{Part}
use Rattle.busdma_base.specs.declared.scenarios.buffer.Buffer.TheVariants as buffer
use Rattle.busdma_base.specs.declared.scenarios.scenario.PageRun.{PageRun}
use Rattle.busdma_machine.specs.Judging.{judged, refused_or}
use Rattle.busdma_machine.specs.Machine.Entry.{IsEntry, entries_addresses, entry_addresses, entry_parts, extent_parts}
use Rattle.busdma_machine.specs.Machine.Entry.{parts_of, unmapped_of}
use Rattle.busdma_base.specs.Scenarios.PageRuns as runs
use Rattle.busdma_machine.specs.Machine.Spans.{bio_spans}
use Rattle.busdma_machine.specs.Runs.{IsExtent, addresses, byte_count, run_of}
use Rattle.busdma_rules.specs.Memory.Bios.{is_rounded}
use Rattle.busdma_rules.specs.Memory.BioFrames.{AreFrames, in_frames}
use Rattle.busdma_rules.proofs.Memory.InFrames.{IsInOneOf, frames_paged}
use Rattle.loan_table.specs.Table.{AreIn}
use Rattle.phys_memory.specs.Extents.{LiesInFrames}
use Rattle.phys_memory.specs.Frames.{Lie}
use Rattle.phys_memory.specs.Memory.{IsMemory, FrameMemory, memory_has_frame}
use Rattle.phys_memory.specs.Memory as memory
use Rattle.busdma_rules.specs.Memory.Translation.{Translation, missing, unreached}
use Rattle.phys_memory.specs.VectorStreams.{ending, spans_stream}
use Rattle.busdma_rules.specs.Memory.Vectors.{entries_of, judged_spans}
use Rattle.busdma_rules.proofs.Memory.Paged.{IsPaged}
use Rattle.phys_memory.proofs.Reached.{IsHeld, memory_paged}
use Rattle.busdma_rules.proofs.Memory.Vectors.{entries_are, entries_have}
use Rattle.ideal_lane.specs.Loads.{load_entries, load_translation}
use Rattle.ideal_lane.specs.State.{LaneState}
use Rattle.ideal_lane.proofs.Needs.{bytes-few}
use Rattle.lane_state.specs.Covered.{HasFramesOf, IsCovered}
use Rattle.lane_state.specs.Judging.{unmapped_judged}
use Rattle.lane_state.specs.Loading.{bio_bytes, bio_reached, load_stream, stream_extents}
use Rattle.lane_state.proofs.CoveredLaws.{byte_count_is, lie_in}

-- ---- the byte that stops a stream

unmapped-run : (es : List Extent) (opens rounded : Bool) (ps : List Part) →
    unmapped_of (extent_parts opens rounded es ++ ps) ≡ unmapped_of ps
unmapped-run [] opens rounded ps = refl
unmapped-run (e ∷ es) opens rounded ps = unmapped-run es _ rounded ps

unmapped-last : (es : List Entry) (ps : List Part) → unmapped_of (parts_of es ++ ps) ≡ unmapped_of ps
unmapped-last [] ps = refl
unmapped-last (e ∷ es) ps =
    ap unmapped_of (append_assoc (entry_parts e) (parts_of es) ps)
    ∙ unmapped-run e.parts true e.rounded (parts_of es ++ ps) ∙ unmapped-last es ps

-- a byte is refused because it cannot be reached
IsUnmapped : Judged → Type 0
IsUnmapped Fine = Unit {0}
IsUnmapped (Refused r) = r.name ≡ name.Unmapped

are-unmapped : (t : Translation) (k : ℕ) (vas : List ℕ) → IsUnmapped (judged (unreached t) k vas)
unfolding IsUnmapped
are-unmapped t k [] = tt
are-unmapped t k (va ∷ vas) = by (t va) (are-unmapped t (k + 1) vas)
  where
    by : (o : Option ℕ) → IsUnmapped (judged (unreached t) (k + 1) vas) →
        IsUnmapped (refused_or (missing o) k (judged (unreached t) (k + 1) vas))
    by None h = refl
    by (Some pa) h = h

says : (j : Judged) → IsUnmapped j → unmapped_judged (unmapped_of (ending j)) ≡ j
unfolding IsUnmapped
says Fine h = refl
says (Refused r) h = ap (λ (n : ReportName). Refused (record { name = n; at = r.at })) (sym h)

-- the judgement of the bytes of spans, by their stream
pub stream-says : (rounded : Bool) (t : Translation) (spans : List Span) →
    unmapped_judged (unmapped_of (spans_stream rounded t spans)) ≡ judged_spans t 0 spans
stream-says rounded t spans =
    ap unmapped_judged (unmapped-last (entries_of rounded t spans) (ending (judged_spans t 0 spans)))
    ∙ says (judged_spans t 0 spans) (are-unmapped t 0 _)

not-refused : (r : Report) → Refused r ≡ Fine → ⊥
not-refused r e = cc

-- no byte stops the stream of a load that is reached
pub none-unmapped : (l : LaneState) (b : Bio) → bio_reached l b ≡ Fine → (at : ℕ) →
    unmapped_of (load_stream l b) ≡ Some at → ⊥
none-unmapped l b fine at e =
    not-refused _ (sym (ap unmapped_judged e) ∙ stream-says (is_rounded b) (load_translation l b) (bio_spans b) ∙ fine)

-- ---- the extents of a stream

extents-run : (es : List Extent) (opens rounded : Bool) (ps : List Part) →
    stream_extents (extent_parts opens rounded es ++ ps) ≡ es ++ stream_extents ps
extents-run [] opens rounded ps = refl
extents-run (e ∷ es) opens rounded ps = ap (λ xs. e ∷ xs) (extents-run es _ rounded ps)

no-extents : (j : Judged) → stream_extents (ending j) ≡ []
no-extents Fine = refl
no-extents (Refused r) = refl

addresses-append : (xs ys : List Extent) → addresses (xs ++ ys) ≡ addresses xs ++ addresses ys
addresses-append [] ys = refl
addresses-append (x ∷ xs) ys =
    ap (λ bs. run_of x.pa.0 x.len ++ bs) (addresses-append xs ys)
    ∙ sym (append_assoc (run_of x.pa.0 x.len) (addresses xs) (addresses ys))

entries-extents : (es : List Entry) (j : Judged) →
    addresses (stream_extents (parts_of es ++ ending j)) ≡ entries_addresses es
entries-extents [] j = ap addresses (no-extents j)
entries-extents (e ∷ es) j =
    ap (λ ps. addresses (stream_extents ps)) (append_assoc (entry_parts e) (parts_of es) (ending j))
    ∙ ap addresses (extents-run e.parts true e.rounded (parts_of es ++ ending j))
    ∙ addresses-append e.parts (stream_extents (parts_of es ++ ending j))
    ∙ ap (λ bs. entry_addresses e ++ bs) (entries-extents es j)

-- the extents of a load's stream have the bytes of the load's entries
pub stream-bytes : (l : LaneState) (b : Bio) →
    addresses (stream_extents (load_stream l b)) ≡ entries_addresses (load_entries l b)
stream-bytes l b = entries-extents (load_entries l b) (bio_reached l b)

-- the extents of a load's stream have no more bytes than the load
pub stream-total : (l : LaneState) (b : Bio) → bio_bytes b ≤ 2 ^ 20 →
    byte_count (stream_extents (load_stream l b)) ≤ 2 ^ 20
stream-total l b small =
    let extents = stream_extents (load_stream l b) in
    omega (
      arith,
      byte_count_is extents,
      ap length (stream-bytes l b),
      bytes-few l (buffer.Bio b) b refl,
      small,
    )

-- ---- what holds of each extent

all-append : (P : Extent → Type 0) (xs ys : List Extent) → AllByRecursion P xs → AllByRecursion P ys →
    AllByRecursion P (xs ++ ys)
all-append P [] ys h k = k
all-append P (x ∷ xs) ys h k = (h.0, all-append P xs ys h.1 k)

all-extents : (P : Extent → Type 0) (es : List Entry) (j : Judged) → AllByRecursion (λ e. AllByRecursion P e.parts) es
    →
    AllByRecursion P (stream_extents (parts_of es ++ ending j))
all-extents P [] j h = subst (AllByRecursion P) (sym (no-extents j)) tt
all-extents P (e ∷ es) j h =
    subst (AllByRecursion P)
    (sym (ap stream_extents (append_assoc (entry_parts e) (parts_of es) (ending j))
    ∙ extents-run e.parts true e.rounded (parts_of es ++ ending j)))
    (all-append P e.parts (stream_extents (parts_of es ++ ending j)) h.0 (all-extents P es j h.1))

entries-extent : (es : List Entry) → AllByRecursion IsEntry es →
    AllByRecursion (λ e. AllByRecursion IsExtent e.parts) es
entries-extent [] h = tt
entries-extent (e ∷ es) h = (h.0.extents, entries-extent es h.1)

-- the extents of spans lie in the frames of a memory, if all that is reached does
module _ (Has : ℕ → Type 0) (rounded : Bool) (t : Translation) (is : IsPaged Has t) (m : FrameMemory)
    (bytes : FinMap nat_cmp Bool) (covered : IsCovered m bytes)
    (held : (pa : ℕ) → Has pa → IsHeld m pa) (spans : List Span) where
  lies-each : (es : List Extent) → AllByRecursion (λ e. Has e.pa.0) es → AllByRecursion (LiesInFrames m) es
  lies-each [] h = tt
  lies-each (e ∷ es) h = (held e.pa.0 h.0, lies-each es h.1)

  pub spans-inside : AreIn bytes (addresses (stream_extents (spans_stream rounded t spans)))
  spans-inside =
      let es = entries_of rounded t spans in
      let j = judged_spans t 0 spans in
      lie_in m bytes (stream_extents (spans_stream rounded t spans)) covered
      (all-extents IsExtent es j (entries-extent es (entries_are Has rounded t is spans)))
      (lies-each (stream_extents (spans_stream rounded t spans))
      (all-extents (λ e. Has e.pa.0) es j (entries_have Has rounded t is spans)))

-- the extents of mapped bytes are in the driver's table
pub mapped-inside : (m : FrameMemory) (bytes : FinMap nat_cmp Bool) (spans : List Span) → IsMemory m →
    IsCovered m bytes →
    AreIn bytes (addresses (stream_extents (spans_stream true (memory.memory_physical m) spans)))
mapped-inside m bytes spans sound covered =
    spans-inside (IsHeld m) true (memory.memory_physical m) (memory_paged m sound) m bytes covered (λ pa h. h) spans

pub mapped-lie : (m : FrameMemory) (spans : List Span) → IsMemory m →
    Lie m (stream_extents (spans_stream true (memory.memory_physical m) spans))
mapped-lie m spans sound =
    let t = memory.memory_physical m in
    let es = entries_of true t spans in
    let j = judged_spans t 0 spans in
    let paged = memory_paged m sound in
    record {
      extents = all-extents IsExtent es j (entries-extent es (entries_are (IsHeld m) true t paged spans));
      frames = all-extents (LiesInFrames m) es j (entries_have (IsHeld m) true t paged spans);
    }

-- a frame of the driver's pages is one of its memory's
frame-held : (pages : List PageRun) (m : FrameMemory) (fs : List ℕ) (f : ℕ) → HasFramesOf pages m →
    AllByRecursion (λ frame. runs.has_frame pages frame ≡ true) fs → Contains fs f → memory_has_frame m f ≡ true
frame-held pages m fs f framed own h =
    subst (λ frame. memory_has_frame m frame ≡ true) h.2 (each-held fs h.0 f h.1 own)
  where
    each-held : (gs : List ℕ) (k d : ℕ) → k < length gs →
        AllByRecursion (λ frame. runs.has_frame pages frame ≡ true) gs → memory_has_frame m (slice_index_or gs k d)
        ≡ true
    each-held [] k d lt all = absurd (omega arith)
    each-held (g ∷ gs) zero d lt all = framed g all.0
    each-held (g ∷ gs) (suc k) d lt all = each-held gs k d (omega arith) all.1

pub frames-inside : (pages : List PageRun) (m : FrameMemory) (bytes : FinMap nat_cmp Bool) (fs : List ℕ)
    (spans : List Span) →
    AreFrames fs → AllByRecursion (λ frame. runs.has_frame pages frame ≡ true) fs → HasFramesOf pages m →
    IsCovered m bytes → AreIn bytes (addresses (stream_extents (spans_stream false (in_frames fs) spans)))
frames-inside pages m bytes fs spans are own framed covered =
    spans-inside (IsInOneOf fs) false (in_frames fs) (frames_paged fs are) m bytes covered
    (λ pa h. frame-held pages m fs _ framed own h) spans
