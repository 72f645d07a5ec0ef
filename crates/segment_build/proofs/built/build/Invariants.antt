use Rattle.std.proofs.Common.{◌≡◌, ◌≤◌, [], drop, length}
use Rattle.segment_build.specs.Joining.{added_all}
use Rattle.segment_build.proofs.built.build.Given as goal

abbrev pub invariant-loop-piece : goal.invariant-loop-piece
invariant-loop-piece l = record {
  is : added_all l.tag l.list.items (drop l.piece-index l.piece-items) ≡ added_all l.tag [] l.piece-items;
  few : length l.list.items ≤ l.tag.nsegments;
}
