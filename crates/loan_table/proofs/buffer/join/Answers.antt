use Rattle.std.proofs.Common.{◌≡◌, ◌+◌, ◌++◌, ap, ◌∙◌, arith}
use Rattle.busdma_machine.specs.Runs.{run_of}
use Rattle.loan_table.proofs.Stretches.{run_of_sum}
use Rattle.loan_table.proofs.buffer.join.Goals as goal

pub returns-clause-joined : goal.returns-clause-joined
returns-clause-joined c _ =
    let run = c.args.run.now in
    let next = c.args.next.now in
    let behind : run.pa.0 + run.len ≡ next.pa.0 = omega arith in
    run_of_sum run.pa.0 run.len next.len ∙ ap (λ b. run_of run.pa.0 run.len ++ run_of b next.len) behind
