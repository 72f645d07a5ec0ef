use Rattle.std.proofs.Common.{◌≡◌, ◌++◌, List, All}
use Rattle.lane_threads.specs.Closing.{LanePass, Joins}
use Rattle.lane_threads.proofs.closing.join_all.Given as goal

abbrev pub invariant-loop-pass : goal.invariant-loop-pass
invariant-loop-pass l =
    (goal.iterator-loop-pass).can_next l.pass-iterator ×
    (goal.iterator-loop-pass).is_finite l.pass-iterator ×
    ((done : List LanePass) × (done ++ l.pass-iterator.rest.items ≡ l.fn.passes.items)
    × Joins l.initial.into done l.into) ×
    All (λ p. p.turnstile ≡ l.initial.into.turnstile) l.pass-iterator.rest.items
