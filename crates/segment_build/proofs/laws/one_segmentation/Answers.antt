use Rattle.std.proofs.Common.{◌∙◌}
use Rattle.busdma_rules.specs.Segments.Pieces.{chunk_pieces}
use Rattle.busdma_rules.specs.Segments.Segmentation.{segmentation}
use Rattle.busdma_rules.proofs.Segments.Bytes.{pieces_bytes, segmentation_bytes}
use Rattle.busdma_rules.proofs.Segments.Cuts.{cut_is}
use Rattle.segment_build.proofs.Cuts.{one_segmentation}
use Rattle.segment_build.proofs.laws.one_segmentation.Goals as goal

pub returns : goal.returns
returns c =
    let t = c.args.tag.now in
    let pieces = chunk_pieces t c.args.chunks.now in
    record {
      only = record { is = cut_is t pieces; only = λ others is. one_segmentation t others pieces is };
      bytes = segmentation_bytes t (segmentation t pieces) pieces (cut_is t pieces)
          ∙ pieces_bytes t c.args.chunks.now c.tag_is_effective.ensures.maxsegsz c.requires.rising;
    }
