use Rattle.std.proofs.Common.{◌-◌, get_or, sym, ◌∙◌, arith}
use Rattle.std.proofs.lemmas.Bool.{ltb-true, ltb-false}
use Rattle.run_set.proofs.Lines.{is_counted}
use Rattle.run_set.proofs.numbers.is_count.Goals.{then-count-gt0, else-count-gt0}
use Rattle.run_set.proofs.numbers.is_count.Goals as goal

pub returns-then-count-list-2-clause-is : goal.returns-then-count-list-2-clause-is
returns-then-count-list-2-clause-is c p =
    is_counted c.args.list.now c.args.count c.args.n c.requires (omega arith)
    (λ some. elim c.if-count-gt0.branch [
      | then-count-gt0 w ↦ ltb-false c.args.n (get_or c.args.list.now (c.args.count - 1) 0)
          (sym w.value-is ∙ c.if-list-count.false)
      | else-count-gt0 w ↦ absurd (omega arith)
    ])
    (λ more. absurd (omega arith))

pub returns-else-count-list-2-clause-is : goal.returns-else-count-list-2-clause-is
returns-else-count-list-2-clause-is c p =
    is_counted c.args.list.now c.args.count c.args.n c.requires (omega arith)
    (λ some. elim c.if-count-gt0.branch [
      | then-count-gt0 w ↦ ltb-false c.args.n (get_or c.args.list.now (c.args.count - 1) 0)
          (sym w.value-is ∙ c.if-list-count.false)
      | else-count-gt0 w ↦ absurd (omega arith)
    ])
    (λ more. ltb-true c.args.n (get_or c.args.list.now c.args.count 0) p)
