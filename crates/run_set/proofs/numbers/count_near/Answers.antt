use Rattle.std.proofs.Common.{arith}
use Rattle.run_set.proofs.Lines.{counted_below, counted_above}
use Rattle.run_set.proofs.numbers.count_near.Goals as goal

pub returns-then-is_count-clause-below : goal.returns-then-is_count-clause-below
returns-then-is_count-clause-below c k d p =
    counted_below 0 c.args.list.now c.args.n k d c.requires (omega (arith, c.is_count.ensures.is c.if-is_count.true))

pub returns-then-is_count-clause-above : goal.returns-then-is_count-clause-above
returns-then-is_count-clause-above c k d p q =
    counted_above 0 c.args.list.now c.args.n k d c.requires (omega (arith, c.is_count.ensures.is c.if-is_count.true)) q

pub returns-then-is_count-2-clause-below : goal.returns-then-is_count-2-clause-below
returns-then-is_count-2-clause-below c k d p =
    counted_below 0 c.args.list.now c.args.n k d c.requires
    (omega (arith, c.is_count-2.ensures.is c.if-is_count-2.true))

pub returns-then-is_count-2-clause-above : goal.returns-then-is_count-2-clause-above
returns-then-is_count-2-clause-above c k d p q =
    counted_above 0 c.args.list.now c.args.n k d c.requires
    (omega (arith, c.is_count-2.ensures.is c.if-is_count-2.true)) q
