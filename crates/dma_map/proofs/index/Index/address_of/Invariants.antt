use Rattle.std.proofs.Common.{◌≡◌, ◌^◌, ◌<◌, [], drop}
use Rattle.std.specs.List.{AllByRecursion}
use Rattle.ring_device.specs.Ends.{EndsLow}
use Rattle.busdma_rules.specs.Rings.Ranges.{address_of, segments_byte_count}
use Rattle.dma_map.specs.Parts.{ArePartsOf}
use Rattle.dma_map.proofs.index.Index.address_of.Given as goal

abbrev pub invariant-loop-part : goal.invariant-loop-part
invariant-loop-part l = record {
  cut : ArePartsOf l.most (drop l.part-index l.part-items) l.rest [];
  short : segments_byte_count l.rest < 2 ^ 64;
  low : AllByRecursion EndsLow l.rest;
  address : address_of l.off l.len l.fn.segments ≡ address_of l.inside l.len l.rest;
}
