use Rattle.std.proofs.Common.{arith}
use Rattle.std.proofs.lemmas.Bool.{leb-true}
use Rattle.run_set.proofs.Lines.{counted_here}
use Rattle.run_set.proofs.line.lies_between.Goals as goal

pub returns-then-n-top_or : goal.returns-then-n-top_or
returns-then-n-top_or c e =
    let last = leb-true c.top_or-then-n-top_or.result c.args.n e in
    counted_here c.args.before.now c.args.behind.now c.args.n 18446744073709551615 c.requires
    (omega (arith, last, c.top_or-then-n-top_or.ensures)) (omega (arith, c.top_or.ensures))
