use Rattle.std.proofs.Common.{◌∙◌}
use Rattle.busdma_rules.specs.Segments.Building.{placed_pieces, tag_placed}
use Rattle.busdma_rules.specs.Segments.Chunks.{chunks_of}
use Rattle.busdma_rules.specs.Segments.Segmentation.{segmentation}
use Rattle.busdma_rules.proofs.Segments.Bytes.{all_rise, pieces_bytes, segmentation_bytes}
use Rattle.busdma_rules.proofs.Segments.Cuts.{cut_is}
use Rattle.busdma_rules.proofs.Segments.Sound.{chunks_sound, placed_are}
use Rattle.segment_build.proofs.laws.segments_are_the_trace.Goals as goal

pub returns : goal.returns
returns c =
    let t = c.args.tag.now in
    let pages = c.args.pages.now in
    let chunks = chunks_of t c.args.maxmem c.args.entries.now in
    let pieces = placed_pieces t chunks pages in
    let eff = c.tag_is_effective.ensures in
    let sound = chunks_sound t c.args.maxmem c.args.entries.now eff c.requires.entries in
    segmentation_bytes t (segmentation t pieces) pieces (cut_is t pieces)
    ∙ pieces_bytes t (tag_placed t chunks pages) eff.maxsegsz
    (all_rise (tag_placed t chunks pages) (placed_are t chunks pages sound c.requires.pages))
