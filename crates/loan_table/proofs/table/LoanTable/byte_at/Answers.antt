use Rattle.std.proofs.Common.{ap, sym, ◌∙◌, subst, slice_index, length, ◌<◌, IsSome}
use Rattle.std.proofs.lemmas.List.{length-map}
use Rattle.std.specs.FinMap.{get}
use Rattle.busdma_rules.specs.Lending.Loans.{Loan, loan_of, addresses_of}
use Rattle.loan_table.specs.Trees.{opened}
use Rattle.loan_table.proofs.Addresses.{AreIn-at}
use Rattle.loan_table.proofs.table.LoanTable.byte_at.Goals as goal

pub returns-clause-there : goal.returns-clause-there
returns-clause-there c =
    let loan = loan_of (opened c.self.inside.loans) c.args.map.made_at in
    let here : c.args.at < length (addresses_of loan.positions) =
    rw (length-map) (rw (← c.self.view_is) at c.requires.range) in
    rw (← c.self.view_is)
    (subst (λ a. IsSome (get c.self.inside.bytes.bytes a))
    (sym (c.byte_at.ensures
    ∙ ap (λ (l : Loan). slice_index (addresses_of l.positions) c.args.at) c.row_of.ensures))
    (AreIn-at _ (addresses_of loan.positions) c.args.at (c.self.invariant.inside c.args.map.made_at) here))
