use Rattle.std.proofs.Common.{◌≡◌, ◌+◌, ◌≤◌, ◌++◌, length}
use Rattle.std.specs.Vec.Iter.{into_iter_items}
use Rattle.std.specs.VecDeque.{deque_capacity}
use Rattle.busdma_base.specs.Scenarios.Queues.{queued_items, queued_from}
use Rattle.lane_tables.proofs.agenda.push_all.Given as goal

-- what was pushed, followed by what is left to push, is everything, and there is room for what is left
abbrev pub invariant-loop-item : goal.invariant-loop-item
invariant-loop-item l = record {
  can_next : (goal.iterator-loop-item).can_next l.item-iterator;
  is_finite : (goal.iterator-loop-item).is_finite l.item-iterator;
  all : l.queue.items ++ queued_from l.load_at l.place (into_iter_items l.item-iterator)
      ≡ l.fn.queue.items ++ queued_items l.load_at l.fn.items;
  room : length l.queue.items + length (into_iter_items l.item-iterator) ≤ deque_capacity l.queue;
  capacity : deque_capacity l.queue ≡ deque_capacity l.fn.queue;
  few : l.place + length (into_iter_items l.item-iterator) ≡ length l.fn.items;
}
