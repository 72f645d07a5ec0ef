use Rattle.std.proofs.Common.{◌≡◌, ◌+◌, ap, subst, sym}
use Rattle.run_set.specs.Counts.{count}
use Rattle.loan_table.specs.Counted.{counts_of, counted_places}
use Rattle.loan_table.specs.Kinds.{test_of}
use Rattle.busdma_rules.specs.Lending.Loans.{addresses_of}
use Rattle.loan_table.proofs.Recounting.{none_lent}
use Rattle.loan_table.proofs.row.LoanRow.uncount.Goals as goal

pub returns-then-is_unlent-clause-counts : goal.returns-then-is_unlent-clause-counts
returns-then-is_unlent-clause-counts c way a =
    ap (λ n. count (counts_of c.args.lent.now way) a + n)
    (subst (λ ps. counted_places (test_of way) a ps ≡ 0) (sym (c.is_unlent.ensures c.if-is_unlent.true))
    (none_lent way a (addresses_of c.args.self.now.positions)))
