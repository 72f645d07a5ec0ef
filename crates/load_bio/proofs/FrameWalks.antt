-- Walks over frames, from their streams.
use Rattle.std.proofs.Common.{◌≡◌, ℕ, ◌+◌, ◌^◌, ◌≤◌, true, false, List, [], ◌∷◌, map, ap, sym, ◌∙◌, arith}
use Rattle.std.specs.List.{AllByRecursion}
use Rattle.busdma_machine.specs.declared.machine.address.Extent.{Extent}
use Rattle.busdma_machine.specs.declared.machine.address.Span.{Span}
use Rattle.busdma_machine.specs.declared.machine.chunk.Entry.{Entry}
use Rattle.busdma_machine.specs.Machine.Entry.{HasPart, IsEntry, IsStream, entries_addresses}
use Rattle.busdma_machine.specs.Machine.Spans.{one_span, span_addresses}
use Rattle.phys_memory.specs.declared.entries.Entries.{Entries}
use Rattle.phys_memory.specs.declared.entries.Entries.TheVariants as walk
use Rattle.phys_memory.specs.declared.walk.Walked.{Walked}
use Rattle.phys_memory.specs.declared.walk.Walked.TheVariants.{Parts, Unmapped}
use Rattle.busdma_rules.specs.Memory.Extents.{reached_addresses}
use Rattle.busdma_rules.specs.Memory.Translation.{physical_or_0}
use Rattle.phys_memory.specs.VectorStreams.{IfAll, spans_stream, spans_walk}
use Rattle.phys_memory.specs.Walk.{walk_of, walked}
use Rattle.phys_memory.proofs.Loads.{one_bytes, spans_load}
use Rattle.phys_memory.proofs.VectorLaws.{past_entry, past_none, spans_one, stopped, walk_bytes, walk_entries}
use Rattle.phys_memory.proofs.VectorLaws.{walk_have}
use Rattle.phys_memory.proofs.VectorLaws.{walk_touches}
use Rattle.phys_memory.proofs.WalkLaws.{walked-run}
use Rattle.busdma_rules.specs.Memory.BioFrames.{AreFrames, in_frames}
use Rattle.load_bio.specs.Frames.{LiesInOneOf}
use Rattle.busdma_rules.proofs.Memory.InFrames.{IsInOneOf, frames_paged}

-- the stream of frames of at most 2^20 bytes is that of a load
pub frames_load : (fs : List ℕ) (off n : ℕ) → AreFrames fs → n ≤ 2 ^ 20 →
    IsStream (spans_stream false (in_frames fs) (one_span off n))
frames_load fs off n are small =
    spans_load (IsInOneOf fs) false (in_frames fs) (frames_paged fs are)
    (one_span off n) (omega (arith, small, one_bytes off n))

-- ---- the walk over frames, from the walk over their stream

module _ (fs : List ℕ) (off n : ℕ) (w : Walked)
    (h : w ≡ walked [] (spans_stream false (in_frames fs) (one_span off n))) where
  abbrev here : Span
  here = record { va = record { 0 = off }; len = n }

  from_stream : w ≡ walk_of (reached_addresses (in_frames fs) off n) n
  from_stream = h ∙ ap (walked []) (spans_one false (in_frames fs) off n)
      ∙ walked-run (reached_addresses (in_frames fs) off n) n true false

  pub one_entry : (es : List Extent) → w ≡ Parts es → (es ≡ [] → false ≡ true) →
      walk.All (record { rounded = false; parts = es } ∷ []) ≡ spans_walk false (in_frames fs) (one_span off n)
  one_entry es is some = sym (past_entry false (in_frames fs) [] 0 here [] es (sym is ∙ from_stream) some)

  pub no_entry : w ≡ Parts [] → walk.All [] ≡ spans_walk false (in_frames fs) (one_span off n)
  no_entry is = sym (past_none false (in_frames fs) [] 0 here [] (sym is ∙ from_stream))

  pub past_end : (at : ℕ) → w ≡ Unmapped at → walk.Unmapped at ≡ spans_walk false (in_frames fs) (one_span off n)
  past_end at is =
      let zero_plus : at ≡ 0 + at = omega arith in
      ap (λ k. walk.Unmapped k) zero_plus ∙ sym (stopped false (in_frames fs) [] 0 here [] at (sym is ∙ from_stream))

-- ---- what its entries are

module _ (fs : List ℕ) (off n : ℕ) (are : AreFrames fs) (w : Entries)
    (h : w ≡ spans_walk false (in_frames fs) (one_span off n)) where
  if_all : (P : List Entry → Type 0) → ((es : List Entry) →
      walk.All es ≡ spans_walk false (in_frames fs) (one_span off n) → P es) → IfAll w P
  if_all P k = by_kind w h
    where
      by_kind : (v : Entries) → v ≡ spans_walk false (in_frames fs) (one_span off n) → IfAll v P
      by_kind (walk.All es) e = k es e
      by_kind (walk.Unmapped at) e = tt

  pub frame_bytes : IfAll w (λ es. entries_addresses es
      ≡ map (physical_or_0 (in_frames fs)) (span_addresses (one_span off n)))
  frame_bytes =
      if_all (λ es. entries_addresses es ≡ map (physical_or_0 (in_frames fs)) (span_addresses (one_span off n)))
      (λ es e. walk_bytes (IsInOneOf fs) false (in_frames fs) (one_span off n) es (frames_paged fs are) e)

  pub frame_entries : IfAll w (AllByRecursion IsEntry)
  frame_entries =
      if_all (AllByRecursion IsEntry) (λ es e. walk_entries (IsInOneOf fs) false (in_frames fs)
      (one_span off n) es (frames_paged fs are) e)

  pub frame_touches : IfAll w (AllByRecursion HasPart)
  frame_touches =
      if_all (AllByRecursion HasPart) (λ es e. walk_touches (IsInOneOf fs) false (in_frames fs)
      (one_span off n) es (frames_paged fs are) e)

  pub frame_lie : IfAll w (AllByRecursion (λ e. AllByRecursion (LiesInOneOf fs) e.parts))
  frame_lie =
      if_all (AllByRecursion (λ e. AllByRecursion (LiesInOneOf fs) e.parts))
      (λ es e. walk_have (IsInOneOf fs) false (in_frames fs) (one_span off n) es (frames_paged fs are) e)
