use Rattle.std.proofs.Common.{◌≡◌, true, false, ap, sym, ◌∙◌, arith, length, Some}
use Rattle.std.specs.Option.{option_copied_mut}
use Rattle.std.proofs.lemmas.Map.Steps.{set_value_same}
use Rattle.loan_table.specs.declared.slot.Slot.{Slot}
use Rattle.loan_table.specs.Kept.{position_count}
use Rattle.loan_table.specs.Trees.{loans_in, with_value, loan_if}
use Rattle.loan_table.proofs.LoansInTree.{loan_found, synced_open, synced_coherent}
use Rattle.loan_table.proofs.Rooms.{count_set, length-marked_range}
use Rattle.loan_table.proofs.Trees.{loans_in-change, closed_stay, open_there, is_there, not_missing}
use Rattle.loan_table.proofs.sync.mark.Goals as goal

pub mark-requires : goal.mark-requires
mark-requires c =
    let at = sym c.get_mut.ensures.value ∙ ap option_copied_mut c.in-Some.is in
    let found = loan_found c.args.loans.now.entries c.args.map _ at
    (open_there c.args.loans.now.entries c.args.map _ at c.requires.there) in
    omega (arith, ap (λ l. length l.positions) found)

pub returns-then-not-is_coherent-clause-marks : goal.returns-then-not-is_coherent-clause-marks
returns-then-not-is_coherent-clause-marks c =
    let es = c.args.loans.now.entries in
    let at = sym c.get_mut.ensures.value ∙ ap option_copied_mut c.in-Some.is in
    let is_open = open_there es c.args.map _ at c.requires.there in
    let new : Slot = record { is_open = c.in-Some.slot.now.is_open; row = c.mark.new.self } in
    loans_in-change true es _ c.args.map (Some new)
    (((c.get_mut.follows.holds new).3 (is_there true es c.args.map c.requires.there)).0)
    ∙ ap (λ b. with_value (loans_in true es) c.args.map (loan_if true (record { is_open = b; row = c.mark.new.self })))
    is_open
    ∙ synced_open _ _ c.args.off c.args.len c.args.ops.0 _ _ (loan_found es c.args.map _ at is_open)
    (sym (rw c.as_row.ensures at c.is_coherent.ensures) ∙ c.if-not-is_coherent.true) c.mark.ensures.coherent
    c.mark.ensures.positions

pub returns-then-not-is_coherent-clause-prepared : goal.returns-then-not-is_coherent-clause-prepared
returns-then-not-is_coherent-clause-prepared c =
    let es = c.args.loans.now.entries in
    let at = sym c.get_mut.ensures.value ∙ ap option_copied_mut c.in-Some.is in
    let is_open = open_there es c.args.map _ at c.requires.there in
    let new : Slot = record { is_open = c.in-Some.slot.now.is_open; row = c.mark.new.self } in
    closed_stay es _ c.args.map c.in-Some.slot.now (Some new) at is_open
    (ap (λ b. loan_if false (record { is_open = b; row = c.mark.new.self })) is_open)
    (((c.get_mut.follows.holds new).3 (is_there true es c.args.map c.requires.there)).0)

pub returns-else-not-is_coherent-clause-marks : goal.returns-else-not-is_coherent-clause-marks
returns-else-not-is_coherent-clause-marks c =
    let es = c.args.loans.now.entries in
    let at = sym c.get_mut.ensures.value ∙ ap option_copied_mut c.in-Some.is in
    ap (loans_in true) ((c.get_mut.follows.holds c.in-Some.slot.now).0 ∙ set_value_same _ _ _ at)
    ∙ synced_coherent _ _ c.args.off c.args.len c.args.ops.0 _
    (loan_found es c.args.map _ at (open_there es c.args.map _ at c.requires.there))
    (sym (rw c.as_row.ensures at c.is_coherent.ensures) ∙ c.if-not-is_coherent.false)

pub returns-else-not-is_coherent-clause-prepared : goal.returns-else-not-is_coherent-clause-prepared
returns-else-not-is_coherent-clause-prepared c =
    ap (loans_in false) ((c.get_mut.follows.holds c.in-Some.slot.now).0
    ∙ set_value_same _ _ _ (sym c.get_mut.ensures.value ∙ ap option_copied_mut c.in-Some.is))

pub returns-in_default-clause-marks : goal.returns-in_default-clause-marks
returns-in_default-clause-marks c =
    absurd (not_missing true c.args.loans.now.entries c.args.map c.requires.there (sym c.get_mut.ensures.value
    ∙ ap option_copied_mut c.in_default.is))

pub returns-in_default-clause-prepared : goal.returns-in_default-clause-prepared
returns-in_default-clause-prepared c =
    absurd (not_missing true c.args.loans.now.entries c.args.map c.requires.there (sym c.get_mut.ensures.value
    ∙ ap option_copied_mut c.in_default.is))

pub returns-then-not-is_coherent-clause-count : goal.returns-then-not-is_coherent-clause-count
returns-then-not-is_coherent-clause-count c =
    let new : Slot = record { is_open = c.in-Some.slot.now.is_open; row = c.mark.new.self } in
    ap position_count ((c.get_mut.follows.holds new).0)
    ∙ count_set c.args.loans.now.entries _ c.in-Some.slot.now new (sym c.get_mut.ensures.value
    ∙ ap option_copied_mut c.in-Some.is)
    (ap length c.mark.ensures.positions
    ∙ length-marked_range c.args.ops.0 c.args.off c.args.len c.in-Some.slot.now.row.positions)

pub returns-else-not-is_coherent-clause-count : goal.returns-else-not-is_coherent-clause-count
returns-else-not-is_coherent-clause-count c =
    let same : (c.get_mut.follows.lender c.in-Some.slot.now).entries ≡ c.args.loans.now.entries =
    (c.get_mut.follows.holds c.in-Some.slot.now).0
    ∙ set_value_same _ _ _ (sym c.get_mut.ensures.value ∙ ap option_copied_mut c.in-Some.is) in
    ap position_count same
