use Rattle.std.proofs.Common.{length, refl}
use Rattle.run_set.specs.Numbers.{stacked}
use Rattle.run_set.proofs.Counting.{count_insert}
use Rattle.run_set.proofs.Lines.{climbs_put, put_there}
use Rattle.run_set.proofs.line.Line.put.Goals as goal

pub returns-then-lies_between-clause-climbs : goal.returns-then-lies_between-clause-climbs
returns-then-lies_between-clause-climbs c =
    let a = c.self.inside.before.items in
    let b = c.self.inside.behind.items in
    let climbs = rw (← c.self.view_is) at c.requires.climbs in
    let here = rw (c.deref.ensures.value, c.deref-2.ensures.value) at c.lies_between.ensures c.if-lies_between.true in
    rw (c.push_reserved.ensures.items, put_there (length a) c.args.n a b (stacked a b) refl refl)
    (climbs_put (stacked a b) c.args.n (length a) climbs here)

pub returns-then-lies_between-clause-counts : goal.returns-then-lies_between-clause-counts
returns-then-lies_between-clause-counts c m =
    let a = c.self.inside.before.items in
    let b = c.self.inside.behind.items in
    rw (← c.self.view_is, c.push_reserved.ensures.items, put_there (length a) c.args.n a b (stacked a b) refl refl)
    (count_insert (stacked a b) (length a) c.args.n m)
