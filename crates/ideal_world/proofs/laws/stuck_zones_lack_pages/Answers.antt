use Rattle.ideal_world.proofs.Lacking.{at-rest-lacks, legal-lacks}
use Rattle.ideal_world.proofs.laws.stuck_zones_lack_pages.Goals as goal

pub returns-clause-rests : goal.returns-clause-rests
returns-clause-rests c = at-rest-lacks

pub returns-clause-journals : goal.returns-clause-journals
returns-clause-journals c = legal-lacks
