use Rattle.std.proofs.Common.{◌≡◌, ◌+◌, ◌-◌, ◌≤◌, ◌++◌, length, map}
use Rattle.std.specs.List.{All, sum_by}
use Rattle.busdma_machine.specs.Bounce.Serving.{completed, left_waiting}
use Rattle.wait_list.specs.Reserved.{IsWaiting}
use Rattle.wait_list.proofs.waiting.WaitList.serve.Given as goal

-- what was done, followed by what is still to do, gives the complete result
abbrev pub invariant-loop-load : goal.invariant-loop-load
invariant-loop-load l =
    let waiters = map (λ d. d.waiter) l.self-inside.kept.items in
    record {
      left : left_waiting l.pages waiters ≡ left_waiting l.free l.fn.self;
      done : l.ready.items ++ completed l.pages waiters ≡ l.fn.ready.items ++ completed l.free l.fn.self;
      count : l.moved + length (completed l.pages waiters) ≡ length (completed l.free l.fn.self);
      given : sum_by (λ w. w.have) l.fn.self + (l.free - l.pages) + sum_by (λ w. w.need) (completed l.pages waiters)
          ≡ sum_by (λ w. w.have) waiters + sum_by (λ w. w.need) (completed l.free l.fn.self);
      below : l.pages ≤ l.free;
      few : l.moved + l.pages ≤ l.free;
      spare : l.ready.spare + l.moved ≡ l.fn.ready.spare;
      seen : length l.self-inside.kept.items + l.moved ≡ length l.fn.self;
      waiting : All IsWaiting l.self-inside.kept.items;
    }

abbrev pub decreases-loop-load : goal.decreases-loop-load
decreases-loop-load l = length l.self-inside.kept.items
