use Rattle.std.proofs.Common.{nat_lt, ap, sym, ◌∙◌}
use Rattle.loan_table.proofs.Places.{counted_at, uncounted_at}
use Rattle.loan_table.proofs.buffer.Buffer.stands_twice.Goals as goal

pub returns-in-Some : goal.returns-in-Some
returns-in-Some c =
    rw (← c.self.view_is) (ap (nat_lt 1) (c.count_near.ensures
    ∙ counted_at _ c.in-Some.places _ c.args.pa c.in-Some.is c.self.invariant.counted))

pub returns-in-None : goal.returns-in-None
returns-in-None c =
    rw (← c.self.view_is) (sym (uncounted_at _ _ c.args.pa c.in-None.is c.self.invariant.counted))
