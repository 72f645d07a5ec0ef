-- When the segments that a load answers are its bytes and obey its tag: after bus_dmamap_load(9).
use Rattle.std.specs.Prelude.{◌≡◌, ℕ, List, length, map, Option, Some}
use Rattle.std.specs.List.{AllByRecursion}
use Rattle.busdma_base.specs.declared.journals.answer.Answer.{Answer}
use Rattle.busdma_base.specs.declared.journals.answer.Answer.TheVariants as answer
use Rattle.busdma_machine.specs.declared.machine.address.Segment.{Segment}
use Rattle.busdma_machine.specs.declared.machine.chunk.Chunk.{Chunk}
use Rattle.busdma_machine.specs.declared.tags.tag.TagLimits.{TagLimits}
use Rattle.busdma_machine.specs.Bounce.AccountStep.{as_pages}
use Rattle.busdma_machine.specs.Machine.Wire.{buffers, buses}
use Rattle.busdma_rules.specs.Segments.Building.{tag_placed}
use Rattle.busdma_rules.specs.Segments.Chunks.{need_of}
use Rattle.busdma_rules.specs.Segments.Obeying.{IsReachable, Obeys}
use Rattle.busdma_rules.specs.Segments.Segmentation.{segment_bytes}
use Rattle.ideal_lane.specs.State.{LaneState}
use Rattle.ideal_wire.specs.Traces.{traces_of}

-- pages are as many as chunks need, and the device of a tag reaches each of them
pub record ArePagesFor (t : TagLimits) (chunks : List Chunk) (pages : List ℕ) : Type 0 where
  pub count : length pages ≡ need_of chunks
  pub reachable : AllByRecursion (IsReachable t) (as_pages pages)

-- the load of a map is of these bytes, in order; the device finds, at the bytes of its segments, the addresses at which
-- it reaches these bytes, in order; and the segments obey the tag for these chunks in these pages
pub record IsAcceptedLoad (l : LaneState) (m : ℕ) (find : ℕ → Option ℕ) (t : TagLimits) (bytes : List ℕ)
    (chunks : List Chunk) (pages : List ℕ) (segments : List Segment) : Type 0 where
  pub buffer : buffers (traces_of l m) ≡ bytes
  pub trace : map find (segment_bytes segments) ≡ map (λ a. Some a) (buses (traces_of l m))
  pub obeys : Obeys t (tag_placed t chunks (as_pages pages)) segments

-- P holds of the segments that an answer has, if it has segments
abbrev pub IfSegments : Answer → (List Segment → Type 0) → Type 0
IfSegments (answer.Segments segments) P = P segments
IfSegments _ P = Unit {0}
