use Rattle.busdma_rules.proofs.Segments.Obeys.{obeys}
use Rattle.segment_build.proofs.laws.segments_obey.Goals as goal

pub returns : goal.returns
returns c =
    obeys c.args.tag.now c.args.maxmem c.args.entries.now c.args.pages.now c.args.segments.now
    c.tag_is_effective.ensures c.requires.entries c.requires.inside c.requires.pages c.requires.segments
