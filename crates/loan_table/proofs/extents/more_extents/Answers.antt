use Rattle.std.proofs.Common.{◌+◌, ◌-◌, ◌/◌, cond, ap, sym, ◌∙◌, arith}
use Rattle.loan_table.proofs.Frames.{more_of_run}
use Rattle.loan_table.proofs.extents.more_extents.Goals as goal

pub returns-then-is_next-clause-is : goal.returns-then-is_next-clause-is
returns-then-is_next-clause-is c =
    let pa = c.args.bytes.now.pa.0 in
    let n = c.args.bytes.now.len in
    let all = more_of_run c.args.before pa n c.requires.some
    ∙ ap (λ b. cond b 0 1 + ((pa + n - 1) / 4096 - pa / 4096)) (sym c.is_next.ensures ∙ c.if-is_next.true) in
    omega (arith, all)

pub returns-else-is_next-clause-is : goal.returns-else-is_next-clause-is
returns-else-is_next-clause-is c =
    let pa = c.args.bytes.now.pa.0 in
    let n = c.args.bytes.now.len in
    let all = more_of_run c.args.before pa n c.requires.some
    ∙ ap (λ b. cond b 0 1 + ((pa + n - 1) / 4096 - pa / 4096)) (sym c.is_next.ensures ∙ c.if-is_next.false) in
    omega (arith, all)
