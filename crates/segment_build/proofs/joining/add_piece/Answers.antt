use Rattle.std.proofs.Common.{length, ap, sym, ◌∙◌, arith}
use Rattle.segment_build.specs.Joining.{extents_joined}
use Rattle.segment_build.proofs.JoinLaws.{added_joins, added_begins, longer_by_one, not_refused}
use Rattle.segment_build.proofs.joining.add_piece.Goals as goal

pub returns-in-Some-clause-added : goal.returns-in-Some-clause-added
returns-in-Some-clause-added c =
    let last = c.copied-last.ensures ∙ c.last.ensures in
    let joins = ap (λ o. extents_joined c.args.limits.now o c.args.piece) (sym last)
    ∙ (sym c.joined.ensures ∙ c.in-Some.is) in
    λ _. c.set_last.ensures.items
    ∙ sym (added_joins c.args.limits.now c.args.list.now.items c.args.piece c.in-Some.joint joins)

pub returns-then-len-limits-clause-many : goal.returns-then-len-limits-clause-many
returns-then-len-limits-clause-many c =
    let last = c.copied-last.ensures ∙ c.last.ensures in
    let begins =
    ap (λ o. extents_joined c.args.limits.now o c.args.piece) (sym last) ∙ (sym c.joined.ensures ∙ c.in_default.is) in
    λ _. omega (
      arith,
      ap length (added_begins c.args.limits.now c.args.list.now.items c.args.piece begins),
      longer_by_one c.args.list.now.items c.args.piece,
    )

pub returns-in_err-push-clause-within : goal.returns-in_err-push-clause-within
returns-in_err-push-clause-within c =
    let last = c.copied-last.ensures ∙ c.last.ensures in
    let begins =
    ap (λ o. extents_joined c.args.limits.now o c.args.piece) (sym last) ∙ (sym c.joined.ensures ∙ c.in_default.is) in
    λ h. absurd (not_refused c.push.result c.in_err-push.field-0.0 c.in_err-push.was
    (c.push.ensures.within
    (omega (
      arith,
      h,
      ap length (added_begins c.args.limits.now c.args.list.now.items c.args.piece begins),
      longer_by_one c.args.list.now.items c.args.piece,
    ))))

pub returns-clause-added : goal.returns-clause-added
returns-clause-added c =
    let last = c.copied-last.ensures ∙ c.last.ensures in
    let begins =
    ap (λ o. extents_joined c.args.limits.now o c.args.piece) (sym last) ∙ (sym c.joined.ensures ∙ c.in_default.is) in
    λ _. c.in_ok-push.ensures.items ∙ sym (added_begins c.args.limits.now c.args.list.now.items c.args.piece begins)
