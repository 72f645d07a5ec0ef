use Rattle.std.proofs.Common.{◌≡◌, map, ap, arith}
use Rattle.std.proofs.lemmas.List.{take_all}
use Rattle.busdma_machine.specs.Machine.Wire.{stretch}
use Rattle.loan_table.specs.Counted.{counted_places}
use Rattle.loan_table.specs.Kinds.{test_of}
use Rattle.busdma_rules.specs.Lending.SyncEffects.{marked}
use Rattle.loan_table.proofs.Recounting.{all_back}
use Rattle.loan_table.proofs.lent.LentCounts.forget.Goals as goal

pub returns-clause-counts : goal.returns-clause-counts
returns-clause-counts c way a =
    let ps = c.args.row.now.positions in
    let all : stretch 0 c.len.result ps ≡ ps = take_all c.len.result ps (omega (arith, c.len.ensures)) in
    let before = ap (counted_places (test_of way) a) all in
    let after = ap (λ xs. counted_places (test_of way) a (map (marked 10) xs)) all in
    omega (arith, c.mark.ensures.counts way a, before, after, all_back way a ps)
