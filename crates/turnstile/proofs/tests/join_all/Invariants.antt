use Rattle.std.proofs.Common.{◌≡◌, All}
use Rattle.turnstile.proofs.tests.join_all.Given as goal

abbrev pub invariant-loop-pass : goal.invariant-loop-pass
invariant-loop-pass l =
    (goal.iterator-loop-pass).can_next l.pass-iterator ×
    (goal.iterator-loop-pass).is_finite l.pass-iterator ×
    (l.into.turnstile ≡ l.initial.into.turnstile) ×
    All (λ p. p.turnstile ≡ l.initial.into.turnstile) l.pass-iterator.rest.items
