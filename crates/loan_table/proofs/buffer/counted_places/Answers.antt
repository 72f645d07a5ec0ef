use Rattle.std.proofs.Common.{arith}
use Rattle.loan_table.proofs.Places.{stand_once, stands_once}
use Rattle.loan_table.proofs.buffer.counted_places.Goals as goal

pub returns-then-stretches-le1 : goal.returns-then-stretches-le1
returns-then-stretches-le1 c = λ a. stands_once c.args.stretches.now a (omega (arith, c.if-stretches-le1.true))

pub returns-in-None : goal.returns-in-None
returns-in-None c =
    stand_once c.args.stretches.now c.in_ok-places.places c.requires c.in_ok-places.ensures
    (rw c.in-None.is at c.first_above.ensures)
