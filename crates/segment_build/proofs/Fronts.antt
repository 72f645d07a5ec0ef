-- The chunks that a front of a stream closes.
use Rattle.std.proofs.Common.{ℕ, ◌≤◌, List, [], ◌∷◌, ◌++◌, length, ap, arith}
use Rattle.std.specs.Option.{option_to_list}
use Rattle.busdma_machine.specs.declared.machine.address.Pa.{Pa}
use Rattle.busdma_machine.specs.declared.machine.chunk.Part.{Part}
use Rattle.busdma_machine.specs.declared.tags.tag.TagLimits.{TagLimits}
use Rattle.busdma_machine.specs.Machine.Entry.{IsStream, stream_entries}
use Rattle.busdma_machine.specs.Tags.Tag.{IsEffective}
use Rattle.busdma_rules.specs.Segments.Building.{placed_pieces}
use Rattle.busdma_rules.specs.Segments.Chunks.{chunks_of, need_of}
use Rattle.segment_build.specs.Cutting.{cut_after, closed, closed_part, uncut}
use Rattle.segment_build.proofs.SoFar.{need_longer, pieces_longer}
use Rattle.segment_build.proofs.PartByPart.{holds, holds_at}

-- the chunks that one more part closes need no more pages than those of the stream
pub front_need : (t : TagLimits) (m : ℕ) (ps : List Part) (p : Part) → IsEffective t → IsStream (ps ++ p ∷ []) →
    need_of (closed t m uncut ps ++ option_to_list (closed_part (cut_after t m uncut ps) p))
    ≤ need_of (chunks_of t m (stream_entries (ps ++ p ∷ [])))
front_need t m ps p eff h =
    let at = holds_at t m ps p eff h in
    let all = holds t m (ps ++ p ∷ []) eff h in
    omega (
      arith,
      ap need_of at.closed_are,
      ap need_of all.chunks,
      need_longer (closed t m uncut (ps ++ p ∷ [])) (option_to_list (cut_after t m uncut (ps ++ p ∷ [])).last),
    )

-- the chunks that one more part closes have no more pieces than those of the stream
pub front_pieces : (t : TagLimits) (m : ℕ) (ps : List Part) (p : Part) (pages : List Pa) → IsEffective t →
    IsStream (ps ++ p ∷ []) →
    length (placed_pieces t (closed t m uncut ps ++ option_to_list (closed_part (cut_after t m uncut ps) p)) pages)
    ≤ length (placed_pieces t (chunks_of t m (stream_entries (ps ++ p ∷ []))) pages)
front_pieces t m ps p pages eff h =
    let at = holds_at t m ps p eff h in
    let all = holds t m (ps ++ p ∷ []) eff h in
    omega (
      arith,
      ap (λ cs. length (placed_pieces t cs pages)) at.closed_are,
      ap (λ cs. length (placed_pieces t cs pages)) all.chunks,
      pieces_longer t (closed t m uncut (ps ++ p ∷ [])) (option_to_list (cut_after t m uncut (ps ++ p ∷ [])).last)
          pages,
    )
