use Rattle.std.proofs.Common.{◌≡◌, nat_lt, sym, ap, ◌∙◌, arith}
use Rattle.std.proofs.lemmas.Bool.{le-ltb}
use Rattle.loan_table.specs.Counted.{counted_places, lent_places}
use Rattle.loan_table.specs.Kinds.{test_of}
use Rattle.busdma_rules.specs.Lending.Loans.{Loan, loan_of}
use Rattle.loan_table.proofs.Totals.{elsewhere_counted}
use Rattle.loan_table.proofs.sync.lent_elsewhere.Goals as goal

pub returns-then-count-eq0 : goal.returns-then-count-eq0
returns-then-count-eq0 c lender of =
    let way = test_of c.args.way in
    let a = c.args.position.pa in
    let none : lent_places way a lender.loans ≡ 0 = omega (arith, c.count_near-count.ensures, of.0 c.args.way a) in
    sym (elsewhere_counted way a lender.loans lender.map
    ∙ le-ltb (counted_places way a (loan_of lender.loans lender.map).positions) (lent_places way a lender.loans)
    (omega (arith, none)))

pub returns : goal.returns
returns c lender of =
    let way = test_of c.args.way in
    let a = c.args.position.pa in
    ap (λ n. nat_lt n c.count_near-count.result)
    (c.lent_places.ensures ∙ ap (λ (l : Loan). counted_places way a l.positions) of.1)
    ∙ ap (nat_lt (counted_places way a (loan_of lender.loans lender.map).positions))
    (c.count_near-count.ensures ∙ of.0 c.args.way a)
    ∙ sym (elsewhere_counted way a lender.loans lender.map)
