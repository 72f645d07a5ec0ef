use Rattle.std.proofs.Common.{arith}
use Rattle.run_set.proofs.Lines.{counted_here, counted_on}
use Rattle.run_set.proofs.line.Line.count_here.Goals as goal

pub returns-then-last-n-clause-is : goal.returns-then-last-n-clause-is
returns-then-last-n-clause-is c =
    let a = c.self.inside.before.items in
    let b = c.self.inside.behind.items in
    let climbs = rw (← c.self.view_is) at c.requires in
    let next = rw c.deref.ensures.value at c.top_or.ensures in
    let last = rw c.deref-then-n-top_or.ensures.value at c.top_or-last.ensures in
    let count = counted_here a b c.args.n 18446744073709551615 climbs (omega (arith, last)) (omega (arith, next)) in
    rw (← c.self.view_is) (omega (arith, count))

pub returns-then-n-top_or-2-clause-is : goal.returns-then-n-top_or-2-clause-is
returns-then-n-top_or-2-clause-is c =
    let a = c.self.inside.before.items in
    let b = c.self.inside.behind.items in
    let climbs = rw (← c.self.view_is) at c.requires in
    let next = rw c.deref.ensures.value at c.top_or.ensures in
    let second = rw c.deref-2.ensures.value at c.top_or-2.ensures in
    let count = counted_on a b c.args.n 18446744073709551615 climbs 0 (omega (arith, next)) (omega (arith, second)) in
    rw (← c.self.view_is) (omega (arith, count))

pub returns-then-n-top_or-3-clause-is : goal.returns-then-n-top_or-3-clause-is
returns-then-n-top_or-3-clause-is c =
    let a = c.self.inside.before.items in
    let b = c.self.inside.behind.items in
    let climbs = rw (← c.self.view_is) at c.requires in
    let second = rw c.deref-2.ensures.value at c.top_or-2.ensures in
    let third = rw c.deref-3.ensures.value at c.top_or-3.ensures in
    let count = counted_on a b c.args.n 18446744073709551615 climbs 1 (omega (arith, second)) (omega (arith, third)) in
    rw (← c.self.view_is) (omega (arith, count))
