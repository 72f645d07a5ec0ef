use Rattle.std.proofs.Common.{nat_lt, ap, sym, ◌∙◌}
use Rattle.loan_table.proofs.Places.{counted_at, uncounted_at}
use Rattle.loan_table.proofs.buffer.Buffer.turn.Goals as goal

pub returns-in-Some-clause-same : goal.returns-in-Some-clause-same
returns-in-Some-clause-same c a from to =
    rw (← c.self.view_is) (ap (nat_lt 1) (sym (counted_at _ c.in-Some.places _ a c.in-Some.is c.self.invariant.counted)
    ∙ c.turn_near.ensures.same a from to
    ∙ counted_at _ c.in-Some.places _ c.args.start c.in-Some.is c.self.invariant.counted))

pub returns-in-None-clause-same : goal.returns-in-None-clause-same
returns-in-None-clause-same c a from to =
    rw (← c.self.view_is) (uncounted_at _ _ a c.in-None.is c.self.invariant.counted
    ∙ sym (uncounted_at _ _ c.args.start c.in-None.is c.self.invariant.counted))
