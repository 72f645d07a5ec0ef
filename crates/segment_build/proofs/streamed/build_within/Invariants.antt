use Rattle.std.proofs.Common.{◌≡◌, ◌+◌, ◌≤◌, length}
use Rattle.segment_build.specs.Building.{IsSoFar}
use Rattle.segment_build.specs.Cutting.{cut_after, closed, uncut}
use Rattle.segment_build.proofs.streamed.build_within.Given as goal

abbrev pub invariant-loop-part : goal.invariant-loop-part
invariant-loop-part g l = record {
  can : (goal.iterator-loop-part g).can_next l.part-iterator;
  finite : (goal.iterator-loop-part g).is_finite l.part-iterator;
  cutter : l.cutter ≡ cut_after l.tag l.maxmem uncut l.yielded;
  so_far : IsSoFar l.tag l.pages (closed l.tag l.maxmem uncut l.yielded) l.list.items l.bounced.items l.few;
  room : l.initial.list.spare ≤ l.list.spare + length l.list.items;
  bounced_room : l.initial.bounced.spare ≤ l.bounced.spare + length l.bounced.items;
}
