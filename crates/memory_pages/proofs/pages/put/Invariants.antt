use Rattle.std.specs.Vec.Iter.{into_iter_items}
use Rattle.memory_pages.proofs.Coming.{IsPart}
use Rattle.memory_pages.proofs.pages.put.Given as goal

abbrev pub invariant-loop-page : goal.invariant-loop-page
invariant-loop-page l = record {
  can_next : (goal.iterator-loop-page).can_next l.page-iterator;
  is_finite : (goal.iterator-loop-page).is_finite l.page-iterator;
  part : IsPart l.fn.memory.memory l.memory.memory l.fn.first.0 l.fn.len l.clear l.fn.pages.items
      (into_iter_items l.page-iterator) l.left l.memory.spare;
}
