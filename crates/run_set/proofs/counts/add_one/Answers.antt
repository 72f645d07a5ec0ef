use Rattle.std.proofs.Common.{List, ℕ, sym, subst}
use Rattle.run_set.specs.Counts.{NoneInCommon}
use Rattle.run_set.proofs.Apart.{apart_put, apart_taken}
use Rattle.run_set.proofs.counts.add_one.Goals as goal

pub returns-then-not-take-clause-apart : goal.returns-then-not-take-clause-apart
returns-then-not-take-clause-apart c apart =
    subst (λ (l : List ℕ). NoneInCommon c.put.new.self.items l) (sym (c.take.ensures.left c.if-not-take.true))
    (apart_put c.args.more.now.items c.args.less.now.items c.put.new.self.items c.args.at c.put.ensures.counts
    (c.take.ensures.absent c.if-not-take.true) apart)

pub returns-else-not-take-clause-apart : goal.returns-else-not-take-clause-apart
returns-else-not-take-clause-apart c apart =
    apart_taken c.args.more.now.items c.args.less.now.items c.take.new.self.items c.args.at
    (c.take.ensures.taken c.if-not-take.false) apart
