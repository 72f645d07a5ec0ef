use Rattle.std.proofs.Common.{◌≡◌, [], false, ap, sym, ◌∙◌}
use Rattle.std.specs.List.{filter}
use Rattle.busdma_rules.specs.Lending.Loans.{addresses_of, to_write}
use Rattle.loan_table.specs.Table.{set_all}
use Rattle.loan_table.proofs.PlacedBytes.{none_to_write}
use Rattle.loan_table.proofs.row.LoanRow.lose_lent.Goals as goal

pub returns-then-is_unlent-clause-bytes : goal.returns-then-is_unlent-clause-bytes
returns-then-is_unlent-clause-bytes c =
    let none : filter to_write c.args.self.now.positions ≡ [] =
    ap (filter to_write) (c.is_unlent.ensures c.if-is_unlent.true)
    ∙ none_to_write (addresses_of c.args.self.now.positions) in
    ap (λ ps. set_all c.args.bytes.now.bytes (addresses_of ps) false) (sym none)
