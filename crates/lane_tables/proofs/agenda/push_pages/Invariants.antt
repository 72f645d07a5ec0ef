use Rattle.std.proofs.Common.{◌≡◌, ◌+◌, ◌≤◌, ◌++◌, length}
use Rattle.std.specs.Vec.Iter.{into_iter_items}
use Rattle.std.specs.VecDeque.{deque_capacity}
use Rattle.lane_tables.specs.Queues.{queued_pages}
use Rattle.lane_tables.proofs.agenda.push_pages.Given as goal

-- what was pushed, followed by what is left to push, is everything, and there is room for what is left
abbrev pub invariant-loop-page : goal.invariant-loop-page
invariant-loop-page l = record {
  can_next : (goal.iterator-loop-page).can_next l.page-iterator;
  is_finite : (goal.iterator-loop-page).is_finite l.page-iterator;
  all : l.queue.items ++ queued_pages l.map l.zone (into_iter_items l.page-iterator) ≡ l.fn.queue.items
      ++ queued_pages l.map l.zone l.fn.pages.items;
  room : length l.queue.items + length (into_iter_items l.page-iterator) ≤ deque_capacity l.queue;
  capacity : deque_capacity l.queue ≡ deque_capacity l.fn.queue;
}
