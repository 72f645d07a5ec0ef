use Rattle.std.proofs.Common.{◌<◌, ◌≤◌, ◌^◌, length, slice_index, IsSome, ap, sym, ◌∙◌, subst, arith}
use Rattle.std.proofs.lemmas.List.{length-map}
use Rattle.std.specs.FinMap.{get}
use Rattle.busdma_machine.specs.Machine.Wire.{stretch}
use Rattle.busdma_rules.specs.Lending.Loans.{Loan, addresses_of, loan_of}
use Rattle.loan_table.specs.Trees.{opened}
use Rattle.loan_table.proofs.Addresses.{AreIn-at}
use Rattle.loan_table.proofs.Pieces.{begins_with}
use Rattle.loan_table.proofs.table.LoanTable.extent.Goals as goal

pub returns-clause-extent : goal.returns-clause-extent
returns-clause-extent c =
    let loan = loan_of (opened c.self.inside.loans) c.args.map.made_at in
    let range : c.args.end ≤ length loan.positions = rw (← c.self.view_is) at c.requires.range in
    let here : c.args.at < length (addresses_of loan.positions) =
    rw (length-map) (omega (arith, range, c.requires.some)) in
    let first =
    ap (λ p. p.0) c.in_one_frame.ensures.pa ∙ c.stretch-run.ensures.first
    ∙ ap (λ (l : Loan). slice_index (addresses_of l.positions) c.args.at) c.row_of.ensures in
    let low : c.in_one_frame.result.pa.0 < 2 ^ 42 =
    c.self.invariant.low c.in_one_frame.result.pa.0
    (subst (λ a. IsSome (get c.self.inside.bytes.bytes a)) (sym first)
    (AreIn-at _ (addresses_of loan.positions) c.args.at (c.self.invariant.inside c.args.map.made_at) here)) in
    record {
      some = c.in_one_frame.ensures.some;
      in_frame = c.in_one_frame.ensures.in_frame;
      numbered = low;
    }

pub returns-clause-bytes : goal.returns-clause-bytes
returns-clause-bytes c =
    let row = c.row_of.result.now in
    rw (← c.self.view_is)
    (ap (λ (l : Loan). addresses_of (stretch c.args.at c.in_one_frame.result.len l.positions)) (sym c.row_of.ensures)
    ∙ begins_with c.args.at c.args.end c.stretch-run.result.len c.stretch-run.result.pa.0 row.positions
    c.in_one_frame.result c.stretch-run.ensures.is c.stretch-run.ensures.within c.in_one_frame.ensures.short
    (ap (λ p. p.0) c.in_one_frame.ensures.pa))
