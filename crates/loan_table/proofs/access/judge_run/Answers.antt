use Rattle.std.proofs.Common.{◌≡◌, ◌+◌, ◌-◌, None, ap, sym, ◌∙◌, arith}
use Rattle.busdma_machine.specs.Judging.{judged}
use Rattle.busdma_machine.specs.Runs.{run_of}
use Rattle.loan_table.specs.Kinds.{cpu_refusal}
use Rattle.loan_table.specs.Table.{is_marked}
use Rattle.loan_table.proofs.Addresses.{run_more, run_none}
use Rattle.loan_table.proofs.Judgement.{judged-some}
use Rattle.loan_table.proofs.SameRefusals.{run_passed, same_for_driver}
use Rattle.loan_table.proofs.access.judge_run.Goals as goal

pub loop-pa-init : goal.loop-pa-init
loop-pa-init c =
    let run = c.args.run.now in
    let long : run.pa.0 + run.len - run.pa.0 ≡ run.len = omega arith in
    record {
      judged_so_far = λ loans counted.
          ap (λ k. judged (cpu_refusal c.args.access (is_marked c.args.bytes.now.bytes) loans) c.args.place
          (run_of run.pa.0 k)) long;
      in_place = omega arith;
      to = omega arith;
    }

pub returns-in-Some : goal.returns-in-Some
returns-in-Some c loans counted = judged-some _ _ _ _ _ _ _ (run_more c.loop-pa.pa _ c.loop-pa-test.true)
    (sym (c.cpu_refusal.ensures loans counted) ∙ c.in-Some.is) (c.loop-pa.invariant.judged_so_far loans counted)

pub loop-pa-preserved : goal.loop-pa-preserved
loop-pa-preserved c =
    let pa = c.loop-pa.pa in
    let known = is_marked c.args.bytes.now.bytes in
    let t = c.turn_near-turn.result in
    record {
      judged_so_far = λ loans counted.
          let refusal = cpu_refusal c.args.access known loans in
          let passed : refusal pa ≡ None = sym (c.cpu_refusal.ensures loans counted) ∙ c.in_default.is in
          sym (run_passed refusal c.loop-pa.at pa t _ (omega arith) (omega arith)
          (λ a from to. same_for_driver c.args.lent.now loans counted c.args.access known a pa
          (c.turn-turn.ensures.same a from (omega arith)) (λ way. c.turn_near-turn.ensures.same way a from to)
          ∙ passed))
          ∙ c.loop-pa.invariant.judged_so_far loans counted;
      in_place = omega arith;
      to = omega arith;
    }

pub returns : goal.returns
returns c loans counted =
    let refusal = cpu_refusal c.args.access (is_marked c.args.bytes.now.bytes) loans in
    sym (ap (judged refusal c.loop-pa.at) (run_none c.loop-pa.pa _ (omega arith)))
    ∙ c.loop-pa.invariant.judged_so_far loans counted
