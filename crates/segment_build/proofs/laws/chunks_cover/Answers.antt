use Rattle.busdma_rules.proofs.Segments.Covering.{chunks_at, chunks_cover}
use Rattle.busdma_rules.proofs.Segments.Sound.{chunks_sound, placed_are}
use Rattle.busdma_rules.specs.Segments.Chunks.{chunks_of}
use Rattle.segment_build.proofs.laws.chunks_cover.Goals as goal

pub returns : goal.returns
returns c =
    let t = c.args.tag.now in
    let m = c.args.maxmem in
    let es = c.args.entries.now in
    let eff = c.tag_is_effective.ensures in
    let sound = chunks_sound t m es eff c.requires.entries in
    record {
      bytes = chunks_cover t m es eff c.requires.entries;
      at = chunks_at t m es eff;
      sound = sound;
      placed = placed_are t (chunks_of t m es) c.args.pages.now sound c.requires.pages;
    }
