use Rattle.std.proofs.Common.{refl, ap, sym, ◌∙◌, arith}
use Rattle.busdma_machine.specs.Judging.{judged}
use Rattle.busdma_rules.specs.Lending.SyncEffects.{sync_refusal}
use Rattle.loan_table.proofs.Hulls.{fine_range}
use Rattle.loan_table.proofs.Pieces.{nothing, whole}
use Rattle.loan_table.proofs.sync.judge_each.Goals as goal

pub returns-then-passes_whole : goal.returns-then-passes_whole
returns-then-passes_whole c lender of =
    sym (fine_range (sync_refusal lender.loans lender.map c.args.ops.0) c.args.off c.args.len c.args.row.now.positions
    c.requires.range (c.if-passes_whole.ensures refl lender of))

pub loop-at-init : goal.loop-at-init
loop-at-init c = record {
  judged_so_far = λ lender of. ap (judged (sync_refusal lender.loans lender.map c.args.ops.0) c.args.off)
      (whole c.args.off c.args.len c.end_of-end.result c.args.row.now.positions c.end_of-end.ensures);
  unlent = λ a from to. absurd (omega (arith, c.nothing-unlent.ensures));
  to = omega arith;
}

pub returns : goal.returns
returns c lender of =
    let refusal = sync_refusal lender.loans lender.map c.args.ops.0 in
    sym (ap (judged refusal c.loop-at.at)
    (nothing c.loop-at.at c.end_of-end.result c.args.row.now.positions (omega arith)))
    ∙ c.loop-at.invariant.judged_so_far lender of

pub returns-in-Err : goal.returns-in-Err
returns-in-Err c lender of =
    sym (c.in-Err.ensures.refused lender of) ∙ c.loop-at.invariant.judged_so_far lender of

pub loop-at-preserved : goal.loop-at-preserved
loop-at-preserved c = record {
  judged_so_far = λ lender of.
      sym (c.in-Ok.ensures.passed lender of) ∙ c.loop-at.invariant.judged_so_far lender of;
  unlent = c.judge_next.ensures.unlent;
  to = c.in-Ok.ensures.within;
}
