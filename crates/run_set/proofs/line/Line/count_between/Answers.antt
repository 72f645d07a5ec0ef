use Rattle.std.proofs.Common.{◌+◌, ◌-◌, ◌/◌, sym, arith}
use Rattle.run_set.proofs.Counting.{count_is}
use Rattle.run_set.proofs.Lines.{low_until, high_from}
use Rattle.run_set.proofs.line.Line.count_between.Goals as goal

pub loop-low-preserved-then-number_or-n : goal.loop-low-preserved-then-number_or-n
loop-low-preserved-then-number_or-n c = record {
  order = omega arith;
  small = c.loop-low.invariant.small;
  below = λ k d p. low_until c.args.self.now.items c.requires.climbs
      (c.loop-low.low + (c.loop-low.high - c.loop-low.low) / 2)
      c.args.n c.args.n (omega arith) (omega arith) k d (omega arith);
  above = c.loop-low.invariant.above;
}

pub loop-low-preserved : goal.loop-low-preserved
loop-low-preserved c = record {
  order = omega arith;
  small = omega arith;
  below = c.loop-low.invariant.below;
  above = λ k d p q. high_from c.args.self.now.items c.requires.climbs
      (c.loop-low.low + (c.loop-low.high - c.loop-low.low) / 2)
      c.args.n c.args.n (omega arith) k d p q;
}

pub returns-clause-is : goal.returns-clause-is
returns-clause-is c =
    sym (count_is c.args.self.now.items c.loop-low.low c.args.n 0 (omega arith)
    (λ k a b. c.loop-low.invariant.below k 0 a) (λ k a b. c.loop-low.invariant.above k 0 (omega arith) b))
