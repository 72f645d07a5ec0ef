use Rattle.segment_build.proofs.Frames.{as_many}
use Rattle.busdma_rules.proofs.Segments.Sound.{chunks_sound}
use Rattle.busdma_rules.specs.Segments.Chunks.{chunks_of}
use Rattle.segment_build.proofs.laws.pieces_in_any_pages.Goals as goal

pub returns : goal.returns
returns c =
    let t = c.args.tag.now in
    let m = c.args.maxmem in
    let es = c.args.entries.now in
    let eff = c.tag_is_effective.ensures in
    as_many t (chunks_of t m es) c.args.pages.now c.args.others.now eff
    (chunks_sound t m es eff c.requires.entries) c.requires.pages c.requires.others
