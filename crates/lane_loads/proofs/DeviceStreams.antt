-- The entries of a load's stream are those of the load.
use Rattle.std.proofs.Common.{◌≡◌, ℕ, ◌<◌, Bool, true, false, List, [], ◌∷◌, ◌++◌, length, refl, ap, ◌∙◌, arith}
use Rattle.std.proofs.Common.{append_assoc, append-nil, if◌then◌else◌}
use Rattle.std.specs.Prelude.{nat_eq}
use Rattle.std.specs.List.{AllByRecursion}
use Rattle.busdma_machine.specs.declared.machine.address.Extent.{Extent}
use Rattle.busdma_machine.specs.declared.machine.address.Span.{Span}
use Rattle.busdma_machine.specs.declared.machine.bio.Bio.{Bio}
use Rattle.busdma_machine.specs.declared.machine.chunk.Entry.{Entry}
use Rattle.busdma_machine.specs.declared.machine.chunk.Part.{Part}
use Rattle.busdma_machine.specs.declared.report.Judged.{Judged}
use Rattle.busdma_machine.specs.declared.report.Judged.TheVariants.{Fine, Refused}
use Rattle.busdma_machine.specs.Machine.Entry.{HasPart, stream_entries, entry_parts}
use Rattle.busdma_machine.specs.Machine.Entry.{extent_parts, others_of, parts_of}
use Rattle.busdma_machine.specs.Machine.Spans.{bio_spans}
use Rattle.busdma_rules.specs.Memory.Bios.{is_rounded}
use Rattle.busdma_rules.specs.Memory.Extents.{extents_of, reached_addresses}
use Rattle.busdma_rules.specs.Memory.Translation.{Translation}
use Rattle.phys_memory.specs.VectorStreams.{ending}
use Rattle.busdma_rules.specs.Memory.Vectors.{with_entry}
use Rattle.busdma_rules.specs.Memory.Vectors.{entries_of as walk_entries}
use Rattle.busdma_rules.proofs.Memory.Extents.{begins}
use Rattle.ideal_lane.specs.Loads.{load_entries, load_translation}
use Rattle.ideal_lane.specs.State.{LaneState}
use Rattle.lane_state.specs.Loading.{bio_reached, load_stream}

-- after the first extent of an entry come its other extents, and then those of the next entries
others-behind : (r : Bool) (es : List Extent) (ps : List Part) →
    others_of (extent_parts false r es ++ ps) ≡ es ++ others_of ps
others-behind r [] ps = refl
others-behind r (e ∷ es) ps = ap (λ xs. e ∷ xs) (others-behind r es ps)

entries-behind : (r : Bool) (es : List Extent) (ps : List Part) →
    stream_entries (extent_parts false r es ++ ps) ≡ stream_entries ps
entries-behind r [] ps = refl
entries-behind r (e ∷ es) ps = entries-behind r es ps

-- the first entry of a stream
entry-first : (r : Bool) (es : List Extent) (ps : List Part) → 0 < length es → others_of ps ≡ [] →
    stream_entries (extent_parts true r es ++ ps) ≡ record { rounded = r; parts = es } ∷ stream_entries ps
entry-first r [] ps some h = absurd (omega arith)
entry-first r (e ∷ es) ps some h =
    ap (λ xs. record { rounded = r; parts = e ∷ xs } ∷ stream_entries (extent_parts false r es ++ ps))
    (others-behind r es ps ∙ ap (λ xs. es ++ xs) h ∙ append-nil es)
    ∙ ap (λ xs. record { rounded = r; parts = e ∷ es } ∷ xs) (entries-behind r es ps)

opens-first : (r : Bool) (es : List Extent) (ps : List Part) → 0 < length es →
    others_of (extent_parts true r es ++ ps) ≡ []
opens-first r [] ps some = absurd (omega arith)
opens-first r (e ∷ es) ps some = refl

-- what ends a stream has no extent
ends-opened : (j : Judged) → others_of (ending j) ≡ []
ends-opened Fine = refl
ends-opened (Refused r) = refl

ends-empty : (j : Judged) → stream_entries (ending j) ≡ []
ends-empty Fine = refl
ends-empty (Refused r) = refl

module _ (j : Judged) where
  none-before : (es : List Entry) → AllByRecursion HasPart es → others_of (parts_of es ++ ending j) ≡ []
  none-before [] h = ends-opened j
  none-before (e ∷ es) h =
      ap others_of (append_assoc (entry_parts e) (parts_of es) (ending j))
      ∙ opens-first e.rounded e.parts (parts_of es ++ ending j) h.0

  same-entries : (es : List Entry) → AllByRecursion HasPart es → stream_entries (parts_of es ++ ending j) ≡ es
  same-entries [] h = ends-empty j
  same-entries (e ∷ es) h =
      ap stream_entries (append_assoc (entry_parts e) (parts_of es) (ending j))
      ∙ entry-first e.rounded e.parts (parts_of es ++ ending j) h.0 (none-before es h.1)
      ∙ ap (λ xs. e ∷ xs) (same-entries es h.1)

-- each entry of spans touches a frame
entry-touches : (rounded : Bool) (pas : List ℕ) (es : List Entry) → AllByRecursion HasPart es →
    AllByRecursion HasPart (with_entry rounded pas es)
entry-touches rounded [] es h = h
entry-touches rounded (pa ∷ pas) es h = (omega (arith, ap length (begins pa (extents_of pas)).are), h)

spans-touch : (rounded : Bool) (t : Translation) (spans : List Span) →
    AllByRecursion HasPart (walk_entries rounded t spans)
spans-touch rounded t [] = tt
spans-touch rounded t (s ∷ ss) =
    let pas = reached_addresses t s.va.0 s.len in
    let others = spans-touch rounded t ss in
    entry-touches rounded pas (if nat_eq (length pas) s.len then walk_entries rounded t ss else [])
    (elim (nat_eq (length pas) s.len) as (λ b. AllByRecursion HasPart (if b then walk_entries rounded t ss else [])) [
      | true ↦ others
      | false ↦ tt
    ])

pub stream-entries : (l : LaneState) (b : Bio) → stream_entries (load_stream l b) ≡ load_entries l b
stream-entries l b =
    same-entries (bio_reached l b) (load_entries l b)
    (spans-touch (is_rounded b) (load_translation l b) (bio_spans b))
