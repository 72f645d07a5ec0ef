use Rattle.map_sync.proofs.TraceLaws.{ranges_alike}
use Rattle.map_sync.proofs.laws.ranges_copy_alike.Goals as goal

pub returns : goal.returns
returns c = ranges_alike
