use Rattle.std.proofs.Common.{arith}
use Rattle.run_set.proofs.Lines.{counted_below, counted_above}
use Rattle.run_set.proofs.edges.count_to.Goals as goal

pub returns-clause-below : goal.returns-clause-below
returns-clause-below c k d p = counted_below 0 c.args.edges.now.items c.args.n k d c.requires (omega arith)

pub returns-clause-above : goal.returns-clause-above
returns-clause-above c k d p q = counted_above 0 c.args.edges.now.items c.args.n k d c.requires (omega arith) q
