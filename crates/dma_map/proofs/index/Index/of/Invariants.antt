use Rattle.std.proofs.Common.{◌≡◌, ◌-◌, ◌*◌, length, take}
use Rattle.dma_map.specs.Parts.{ArePartsOf}
use Rattle.dma_map.proofs.index.Index.of.Given as goal

abbrev pub invariant-loop-part : goal.invariant-loop-part
invariant-loop-part l = record {
  sixteen : length l.part-items ≡ 16;
  cut : ArePartsOf l.most (take l.part-index l.part-items) l.fn.segments l.rest;
  left : length l.rest ≡ length l.fn.segments - l.part-index * l.most;
}
