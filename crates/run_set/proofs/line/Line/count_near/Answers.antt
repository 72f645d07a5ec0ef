use Rattle.std.proofs.Common.{sym, arith}
use Rattle.run_set.proofs.Counting.{count_is}
use Rattle.run_set.proofs.line.Line.count_near.Goals as goal

pub returns-then-low-high-clause-is : goal.returns-then-low-high-clause-is
returns-then-low-high-clause-is c =
    sym (count_is c.args.self.now.items c.around-low.result.0 c.args.n 0
    (omega (arith, c.around-low.ensures.order, c.around-low.ensures.small))
    (λ k a b. c.around-low.ensures.below k 0 a)
    (λ k a b. c.around-low.ensures.above k 0 (omega (arith, c.if-low-high.true)) b))
