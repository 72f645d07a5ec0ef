use Rattle.std.proofs.Common.{arith}
use Rattle.std.proofs.lemmas.Bool.{ltb-true, ltb-false}
use Rattle.run_set.proofs.Lines.{high_from, low_until}
use Rattle.run_set.proofs.line.Line.is_more_from.Goals as goal

pub returns-clause-above : goal.returns-clause-above
returns-clause-above c p k d q r =
    high_from c.args.self.now.items c.requires c.args.at c.args.n c.args.n
    (omega (arith, ltb-true c.args.n c.number_or.result p, c.number_or.ensures)) k d q r

pub returns-clause-below : goal.returns-clause-below
returns-clause-below c p k d q =
    low_until c.args.self.now.items c.requires c.args.at c.args.n c.args.n (omega arith)
    (omega (arith, ltb-false c.args.n c.number_or.result p, c.number_or.ensures)) k d q
