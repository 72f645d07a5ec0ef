use Rattle.std.proofs.Common.{true, false, refl, ap, sym, ◌∙◌, Some}
use Rattle.std.specs.Option.{option_copied_mut}
use Rattle.std.specs.FinMap.{insert}
use Rattle.loan_table.specs.Kept.{position_count}
use Rattle.loan_table.specs.Trees.{loans_in}
use Rattle.loan_table.proofs.Trees.{loans_in-change, closed_there, is_there, not_missing}
use Rattle.loan_table.proofs.LoansInTree.{loan_prepared}
use Rattle.loan_table.proofs.Rooms.{count_set}
use Rattle.loan_table.proofs.loans.open.Goals as goal

pub returns-in-Some-clause-opened : goal.returns-in-Some-clause-opened
returns-in-Some-clause-opened c =
    let es = c.args.loans.now.entries in
    let found = sym c.get_mut.ensures.value ∙ ap option_copied_mut c.in-Some.is in
    let there = is_there false es c.args.map c.requires in
    loans_in-change true es _ c.args.map (Some (record { is_open = true; row = c.in-Some.slot.now.row }))
    (((c.get_mut.follows.holds (record { is_open = true; row = c.in-Some.slot.now.row })).3 there).0)
    ∙ ap (insert (loans_in true es) c.args.map)
    (sym (loan_prepared es c.args.map c.in-Some.slot.now found
    (closed_there es c.args.map c.in-Some.slot.now found c.requires)))

pub returns-in-Some-clause-closed : goal.returns-in-Some-clause-closed
returns-in-Some-clause-closed c =
    let es = c.args.loans.now.entries in
    loans_in-change false es _ c.args.map (Some (record { is_open = true; row = c.in-Some.slot.now.row }))
    (((c.get_mut.follows.holds (record { is_open = true; row = c.in-Some.slot.now.row })).3
    (is_there false es c.args.map c.requires)).0)

pub returns-in-Some-clause-count : goal.returns-in-Some-clause-count
returns-in-Some-clause-count c =
    let found = sym c.get_mut.ensures.value ∙ ap option_copied_mut c.in-Some.is in
    ap position_count ((c.get_mut.follows.holds (record { is_open = true; row = c.in-Some.slot.now.row })).0)
    ∙ count_set c.args.loans.now.entries _ c.in-Some.slot.now
    (record { is_open = true; row = c.in-Some.slot.now.row }) found refl

pub returns-in_default-clause-opened : goal.returns-in_default-clause-opened
returns-in_default-clause-opened c =
    absurd (not_missing false c.args.loans.now.entries c.args.map c.requires
    (sym c.get_mut.ensures.value ∙ ap option_copied_mut c.in_default.is))

pub returns-in_default-clause-closed : goal.returns-in_default-clause-closed
returns-in_default-clause-closed c =
    absurd (not_missing false c.args.loans.now.entries c.args.map c.requires
    (sym c.get_mut.ensures.value ∙ ap option_copied_mut c.in_default.is))
