use Rattle.std.proofs.Common.{false, ap, sym, ◌∙◌}
use Rattle.busdma_rules.specs.Lending.Loans.{addresses_of}
use Rattle.loan_table.specs.Table.{set_all}
use Rattle.loan_table.proofs.MarkLaws.{none_lost}
use Rattle.loan_table.proofs.losing.lose_by_call.Goals as goal

pub returns-else-contains-clause-bytes : goal.returns-else-contains-clause-bytes
returns-else-contains-clause-bytes c =
    sym (ap (λ ps. set_all c.args.bytes.now.bytes (addresses_of ps) false)
    (none_lost c.args.ops.0 _ (sym (c.contains.ensures tt) ∙ c.if-contains.false)))
