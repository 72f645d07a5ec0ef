-- What is kept of the segments of a load apart from them, so that a search for a range skips those that cannot have it.
use Rattle.std.specs.Prelude.{◌≡◌, ℕ, ◌+◌, ◌-◌, ◌/◌, ◌^◌, ◌<◌, ◌≤◌, List, [], ◌∷◌, length, take, drop, min}
use Rattle.std.specs.List.{All}
use Rattle.busdma_machine.specs.declared.machine.address.Segment.{Segment}
use Rattle.busdma_rules.specs.Rings.Ranges.{segments_byte_count}
use Rattle.dma_map.specs.declared.index.Index.{Index}
use Rattle.dma_map.specs.declared.part.Part.{Part}
use Rattle.dma_map.specs.Pages.{HasPages}

-- a segment begins at an address or later, and ends at another or before; an end of 2^64 or more counts as the greatest
-- address
pub record IsBetween (least end : ℕ) (s : Segment) : Type 0 where
  pub begins : least ≤ s.addr.0
  pub ends : min (s.addr.0 + s.len) (2 ^ 64 - 1) ≤ end

-- what is known of some segments: how many bytes they have, if the number fits in a `u64`, between which addresses all
-- of them lie, and in which pages
pub record IsMapPart (segments : List Segment) (part : Part) : Type 0 where
  pub bytes : segments_byte_count segments < 2 ^ 64 → part.bytes ≡ segments_byte_count segments
  pub between : All (IsBetween part.least part.end) segments
  pub pages : All (HasPages part.pages) segments

-- each part is of the next `most` segments, and `rest` are the segments after the last part
abbrev pub ArePartsOf : ℕ → List Part → List Segment → List Segment → Type 0
ArePartsOf most [] segments rest = segments ≡ rest
ArePartsOf most (p ∷ ps) segments rest = IsMapPart (take most segments) p × ArePartsOf most ps (drop most segments) rest

-- how many segments a part has, if these are cut into sixteen parts
abbrev pub part_len : List Segment → ℕ
part_len segments = length segments / 16 + 1

-- what is known of all segments of a load, and of each of the sixteen parts that they are cut into
pub record IsIndexed (segments : List Segment) (index : Index) : Type 0 where
  pub all : IsMapPart segments index.whole
  pub sixteen : length index.parts ≡ 16
  pub cut : ArePartsOf (part_len segments) index.parts segments []
