use Rattle.std.proofs.Common.{◌≡◌}
use Rattle.turnstile.proofs.tests.add_thousand.Given as goal

abbrev pub invariant-loop-i : goal.invariant-loop-i
invariant-loop-i g l = l.pass.turnstile ≡ l.initial.pass.turnstile
