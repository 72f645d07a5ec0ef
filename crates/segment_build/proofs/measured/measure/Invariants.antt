use Rattle.std.proofs.Common.{◌≡◌, [], length}
use Rattle.busdma_machine.specs.Machine.Entry.{unmapped_of}
use Rattle.busdma_rules.specs.Segments.Building.{placed_pieces}
use Rattle.busdma_rules.specs.Segments.Chunks.{need_of}
use Rattle.segment_build.specs.Cutting.{cut_after, closed, uncut}
use Rattle.segment_build.proofs.measured.measure.Given as goal

abbrev pub invariant-loop-part : goal.invariant-loop-part
invariant-loop-part g l = record {
  can : (goal.iterator-loop-part g).can_next l.part-iterator;
  finite : (goal.iterator-loop-part g).is_finite l.part-iterator;
  cutter : l.cutter ≡ cut_after l.tag l.maxmem uncut l.yielded;
  need : l.tally.need ≡ need_of (closed l.tag l.maxmem uncut l.yielded);
  pieces : l.tally.pieces ≡ length (placed_pieces l.tag (closed l.tag l.maxmem uncut l.yielded) []);
  unmapped : l.unmapped ≡ unmapped_of l.yielded;
}
