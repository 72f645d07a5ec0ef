-- What is built of pieces: the segments, if the tag allows as many.
use Rattle.std.specs.Prelude.{List}
use Rattle.busdma_machine.specs.declared.machine.address.Segment.{Segment}
use Rattle.busdma_machine.specs.declared.tags.tag.TagLimits.{TagLimits}
use Rattle.segment_build.specs.declared.built.Built.{Built}
use Rattle.segment_build.specs.declared.built.Built.TheVariants.{Segments, TooMany}
use Rattle.busdma_rules.specs.Segments.Built.{IsFew, AreTooMany}

-- the segments of pieces, or TooMany if there are more than the tag's nsegments
abbrev pub IsBuilt : TagLimits → List Segment → Built → Type 0
IsBuilt t pieces (Segments segments) = IsFew t pieces segments
IsBuilt t pieces TooMany = AreTooMany t pieces
