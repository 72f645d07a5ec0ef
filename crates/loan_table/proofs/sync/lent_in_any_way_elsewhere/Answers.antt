use Rattle.std.proofs.Common.{◌||◌, sym, ap, ◌∙◌}
use Rattle.busdma_rules.specs.Lending.Loans.{lent_elsewhere, to_write}
use Rattle.loan_table.proofs.Totals.{elsewhere_any}
use Rattle.loan_table.proofs.sync.lent_in_any_way_elsewhere.Goals as goal

pub returns-then-lent_elsewhere : goal.returns-then-lent_elsewhere
returns-then-lent_elsewhere c lender of =
    sym (elsewhere_any lender.map c.args.position.pa lender.loans
    ∙ ap (λ b. b || lent_elsewhere to_write lender.map c.args.position.pa lender.loans)
    (sym (c.lent_elsewhere.ensures lender of) ∙ c.if-lent_elsewhere.true))

pub returns : goal.returns
returns c lender of =
    c.lent_elsewhere-2.ensures lender of
    ∙ sym (elsewhere_any lender.map c.args.position.pa lender.loans
    ∙ ap (λ b. b || lent_elsewhere to_write lender.map c.args.position.pa lender.loans)
    (sym (c.lent_elsewhere.ensures lender of) ∙ c.if-lent_elsewhere.false))
