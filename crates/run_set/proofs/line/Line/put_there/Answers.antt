use Rattle.std.proofs.Common.{sym}
use Rattle.run_set.proofs.Counting.{count_insert}
use Rattle.run_set.proofs.Lines.{climbs_put}
use Rattle.run_set.proofs.line.Line.put_there.Goals as goal

pub returns-clause-climbs : goal.returns-clause-climbs
returns-clause-climbs c =
    rw c.insert.ensures.items (climbs_put c.args.self.now.items c.args.n c.count_to-place.result c.requires.climbs
    (sym c.count_to-place.ensures.is))

pub returns-clause-counts : goal.returns-clause-counts
returns-clause-counts c m =
    rw c.insert.ensures.items (count_insert c.args.self.now.items c.count_to-place.result c.args.n m)
