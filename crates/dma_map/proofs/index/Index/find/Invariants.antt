use Rattle.std.proofs.Common.{◌≡◌, ◌+◌, [], drop}
use Rattle.std.specs.Option.{option_map}
use Rattle.busdma_rules.specs.Rings.Ranges.{segments_byte_count, place_of}
use Rattle.dma_map.specs.Parts.{ArePartsOf}
use Rattle.dma_map.proofs.index.Index.find.Given as goal

abbrev pub invariant-loop-part : goal.invariant-loop-part
invariant-loop-part l = record {
  cut : ArePartsOf l.most (drop l.part-index l.part-items) l.rest [];
  bytes : l.before + segments_byte_count l.rest ≡ segments_byte_count l.fn.segments;
  place : place_of l.addr l.len l.fn.segments ≡ option_map (λ at. l.before + at) (place_of l.addr l.len l.rest);
}
