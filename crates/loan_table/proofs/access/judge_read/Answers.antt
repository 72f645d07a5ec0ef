use Rattle.std.proofs.Common.{◌≡◌, ◌+◌, ◌-◌, ℕ, None, ap, sym, ◌∙◌, arith}
use Rattle.busdma_machine.specs.Judging.{judged}
use Rattle.busdma_machine.specs.Machine.Wire.{stretch}
use Rattle.loan_table.specs.declared.access.Access.TheVariants.{Read}
use Rattle.busdma_rules.specs.Lending.Access.{dev_read_refusal}
use Rattle.loan_table.specs.Table.{is_marked}
use Rattle.loan_table.proofs.Pieces.{first_refused, lent_as, none_refused, nothing, shorter, whole}
use Rattle.loan_table.proofs.SameRefusals.{same_for_device}
use Rattle.loan_table.proofs.access.judge_read.Goals as goal

pub loop-at-init : goal.loop-at-init
loop-at-init c =
    let refusal = dev_read_refusal (is_marked c.args.bytes.now.bytes) c.args.coherent in
    let start : c.args.off - c.args.off ≡ 0 = omega arith in
    record {
      judged_so_far = ap (λ k. judged refusal k
          (stretch c.args.off (c.end_of-end.result - c.args.off) c.args.row.now.positions)) start
          ∙ ap (judged refusal 0)
          (whole c.args.off c.args.len c.end_of-end.result c.args.row.now.positions c.end_of-end.ensures);
      from = omega arith;
      to = omega arith;
    }

pub returns-in-Some : goal.returns-in-Some
returns-in-Some c =
    let refusal = dev_read_refusal (is_marked c.args.bytes.now.bytes) c.args.coherent in
    let piece = c.piece-piece.result in
    let rest = stretch (c.loop-at.at + piece.len) (c.end_of-end.result - (c.loop-at.at + piece.len))
    c.args.row.now.positions in
    let at : ℕ = c.loop-at.at - c.args.off in
    sym (first_refused refusal (lent_as piece.first) at piece.first.pa piece.len rest c.in-Some.name
    c.piece-piece.ensures.some
    (sym c.dev_read_refusal.ensures ∙ c.in-Some.is))
    ∙ sym (ap (judged refusal at) c.piece-piece.ensures.is)
    ∙ c.loop-at.invariant.judged_so_far

pub loop-at-preserved : goal.loop-at-preserved
loop-at-preserved c =
    let known = is_marked c.args.bytes.now.bytes in
    let row = c.args.row.now in
    let refusal = dev_read_refusal known c.args.coherent in
    let piece = c.piece-piece.result in
    let first = piece.first in
    let m : ℕ = c.turn.result - first.pa in
    let end = c.end_of-end.result in
    let rest = stretch (c.loop-at.at + m) (end - (c.loop-at.at + m)) row.positions in
    let at : ℕ = c.loop-at.at - c.args.off in
    let passed : refusal (lent_as first first.pa) ≡ None =
    sym c.dev_read_refusal.ensures ∙ c.in_default.is in
    let on : at + m ≡ c.loop-at.at + m - c.args.off = omega (arith, c.loop-at.invariant.from) in
    record {
      judged_so_far =
          sym (ap (λ k. judged refusal k rest) on)
          ∙ sym (ap (judged refusal at) (shorter c.loop-at.at end piece.len m first row.positions
          c.piece-piece.ensures.is (omega (arith, c.turn.ensures.to)) c.piece-piece.ensures.within)
          ∙ none_refused refusal (lent_as first) at first.pa m rest
          (λ a from to. same_for_device Read known c.args.coherent first a first.pa
          (c.turn.ensures.same a from (omega arith)) ∙ passed))
          ∙ c.loop-at.invariant.judged_so_far;
      from = omega arith;
      to = omega arith;
    }

pub returns : goal.returns
returns c =
    let refusal = dev_read_refusal (is_marked c.args.bytes.now.bytes) c.args.coherent in
    sym (ap (judged refusal (c.loop-at.at - c.args.off))
    (nothing c.loop-at.at c.end_of-end.result c.args.row.now.positions (omega arith)))
    ∙ c.loop-at.invariant.judged_so_far
