use Rattle.std.proofs.Common.{◌≡◌, ◌++◌, take, drop}
use Rattle.std.specs.VecDeque.{deque_capacity}
use Rattle.busdma_machine.proofs.machine.page_list.PageList.take_first.Given as goal

abbrev pub invariant-loop : goal.invariant-loop
invariant-loop l = record {
  taken : l.self ≡ record l.fn.self { items = l.fn.self.items ++ take l.counter l.fn.queue.items };
  left : l.queue.items ≡ drop l.counter l.fn.queue.items;
  capacity : deque_capacity l.queue ≡ deque_capacity l.fn.queue;
}
