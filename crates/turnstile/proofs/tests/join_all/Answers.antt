use Rattle.std.proofs.Common.{rules, ℕ, ◌≡◌, All, subst}
use Rattle.std.proofs.lemmas.List.Elements.{All-tail}
use Rattle.turnstile.specs.Pass.{PassView}
use Rattle.turnstile.proofs.tests.join_all.Goals as goal

pub loop-pass-preserved : goal.loop-pass-preserved
loop-pass-preserved c = let IsHere : PassView ℕ (Unit {0}) → Type 0 =
    (λ p. p.turnstile ≡ c.args.into.now.turnstile) in (
      tt,
      tt,
      search rules,
      All-tail IsHere c.in-Some.pass c.next.new.self.rest.items
          (subst (All IsHere) c.in-Some.ensures.steps.0 c.loop-pass.invariant.3),
    )
