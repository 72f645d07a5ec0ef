use Rattle.std.proofs.Common.{sym, ◌∙◌, arith}
use Rattle.std.proofs.lemmas.Bool.{eqb-true}
use Rattle.loan_table.proofs.sync.stand_once.Goals as goal

pub returns-else-run-eq1 : goal.returns-else-run-eq1
returns-else-run-eq1 c whole a from to =
    c.turn.ensures.same a from (omega (arith, eqb-true _ _ whole, to)) ∙ sym c.stands_twice.ensures
    ∙ c.if-stands_twice.false
