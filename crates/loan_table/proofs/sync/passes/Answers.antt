use Rattle.std.proofs.Common.{refl, sym, ◌∙◌}
use Rattle.loan_table.proofs.Unlent.{clash, meets_nothing}
use Rattle.loan_table.proofs.sync.passes.Goals as goal

pub returns-then-not-contains-clause-passes : goal.returns-then-not-contains-clause-passes
returns-then-not-contains-clause-passes c is lender of =
    meets_nothing c.args.lent.now c.args.row.now lender of c.args.ops.0 c.args.run.now.pa.0 c.args.run.now.len
    (sym (c.contains.ensures tt) ∙ c.if-contains.false) (c.if-not-has.ensures.run refl)
    (λ pre a from to. clash c.contains-2.result is (c.contains-2.ensures tt ∙ pre))

pub returns-else-not-contains-clause-passes : goal.returns-else-not-contains-clause-passes
returns-else-not-contains-clause-passes c is lender of =
    meets_nothing c.args.lent.now c.args.row.now lender of c.args.ops.0 c.args.run.now.pa.0 c.args.run.now.len
    (sym (c.contains.ensures tt) ∙ c.if-contains.false) (c.if-not-has.ensures.run refl)
    (λ pre. c.stand_once.ensures is)
