use Rattle.std.proofs.Common.{rules, ◌≡◌, ◌++◌, [], ◌∷◌, All, ap, ◌∙◌, sym, subst, append_assoc}
use Rattle.std.proofs.lemmas.List.Elements.{All-tail}
use Rattle.lane_threads.specs.Closing.{LanePass}
use Rattle.lane_threads.proofs.ClosingLaws.{joins_none, joins-more}
use Rattle.lane_threads.proofs.closing.join_all.Goals as goal

pub loop-pass-init : goal.loop-pass-init
loop-pass-init c = (tt, tt, ([], search rules, joins_none c.args.first), search rules)

pub loop-pass-preserved : goal.loop-pass-preserved
loop-pass-preserved c =
    let pass = c.in-Some.pass in let rest = c.next.new.self.rest.items in let done = c.loop-pass.invariant.2.0 in
    let IsHere : LanePass → Type 0 = (λ p. p.turnstile ≡ c.args.first.turnstile) in
    let step = c.in-Some.ensures.steps.0 in (
      tt,
      tt,
      (
        done ++ pass ∷ [],
        append_assoc done (pass ∷ []) rest ∙ (ap (λ ps. done ++ ps) (sym step) ∙ c.loop-pass.invariant.2.1),
        joins-more c.args.first c.loop-pass.into pass c.join.new.into done
            c.join.ensures.joined c.loop-pass.invariant.2.2,
      ),
      All-tail IsHere pass rest (subst (All IsHere) step c.loop-pass.invariant.3),
    )
