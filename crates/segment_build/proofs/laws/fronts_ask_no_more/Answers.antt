use Rattle.segment_build.proofs.FrontsAsk.{fronts_ask}
use Rattle.segment_build.proofs.laws.fronts_ask_no_more.Goals as goal

pub returns : goal.returns
returns c = fronts_ask c.args.tag.now c.args.maxmem c.args.pages.now c.tag_is_effective.ensures
