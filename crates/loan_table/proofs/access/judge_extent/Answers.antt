use Rattle.std.proofs.Common.{refl, sym, ap, ◌∙◌}
use Rattle.busdma_machine.specs.Judging.{judged}
use Rattle.busdma_machine.specs.Runs.{run_of}
use Rattle.loan_table.specs.Kinds.{cpu_refusal}
use Rattle.loan_table.specs.Table.{is_marked}
use Rattle.loan_table.proofs.Unlent.{writes_pass}
use Rattle.loan_table.proofs.access.judge_extent.Goals as goal

pub returns-then-has-clause-is : goal.returns-then-has-clause-is
returns-then-has-clause-is c loans counted =
    let known = is_marked c.args.bytes.now.bytes in
    let extent = c.args.extent.now in
    sym (ap (λ access. judged (cpu_refusal access known loans) c.args.place (run_of extent.pa.0 extent.len))
    c.in-Write.is
    ∙ writes_pass c.args.lent.now loans counted known c.args.place extent.pa.0 extent.len
    (c.if-has.ensures.run refl))
