use Rattle.std.proofs.Common.{◌≡◌, ◌++◌}
use Rattle.std.specs.Vec.Iter.{into_iter_items}
use Rattle.std.specs.VecDeque.{deque_capacity}
use Rattle.bounce_zone.proofs.zone.append.Given as goal

abbrev pub invariant-loop-page : goal.invariant-loop-page
invariant-loop-page l = record {
  can_next : (goal.iterator-loop-page).can_next l.page-iterator;
  is_finite : (goal.iterator-loop-page).is_finite l.page-iterator;
  together : l.queue.items ++ into_iter_items l.page-iterator ≡ l.fn.queue.items ++ l.fn.pages.items;
  capacity : deque_capacity l.queue ≡ deque_capacity l.fn.queue;
}
