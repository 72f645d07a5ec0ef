use Rattle.std.proofs.Common.{◌≡◌, All}
use Rattle.turnstile.proofs.tests.four_passes.Given as goal

abbrev pub invariant-loop-name : goal.invariant-loop-name
invariant-loop-name l = (l.first.turnstile ≡ l.initial.first.turnstile)
    × All (λ p. p.turnstile ≡ l.initial.first.turnstile) l.passes.items
