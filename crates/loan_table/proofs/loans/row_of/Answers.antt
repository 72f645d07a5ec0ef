use Rattle.std.proofs.Common.{true, ap, sym, ◌∙◌, is_some}
use Rattle.std.specs.Option.{option_copied}
use Rattle.loan_table.proofs.LoansInTree.{loan_found}
use Rattle.loan_table.proofs.Results.{copied_some}
use Rattle.loan_table.proofs.Trees.{is_there, open_there}
use Rattle.loan_table.proofs.loans.row_of.Goals as goal

pub unwrap-slot-requires : goal.unwrap-slot-requires
unwrap-slot-requires c = copied_some c.get.result (ap is_some c.get.ensures.value
    ∙ is_there true c.args.loans.now.entries c.args.map c.requires)

pub returns : goal.returns
returns c =
    let found = sym c.get.ensures.value ∙ ap option_copied c.unwrap-slot.ensures in
    c.as_row.ensures ∙ sym (loan_found c.args.loans.now.entries c.args.map _ found
    (open_there c.args.loans.now.entries c.args.map _ found c.requires))
