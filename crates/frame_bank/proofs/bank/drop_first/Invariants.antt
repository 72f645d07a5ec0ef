use Rattle.std.proofs.Common.{◌≡◌, drop}
use Rattle.std.specs.VecDeque.{deque_capacity}
use Rattle.frame_bank.proofs.bank.drop_first.Given as goal

abbrev pub invariant-loop : goal.invariant-loop
invariant-loop l = record {
  left : l.free.items ≡ drop l.counter l.fn.free.items;
  capacity : deque_capacity l.free ≡ deque_capacity l.fn.free;
}
