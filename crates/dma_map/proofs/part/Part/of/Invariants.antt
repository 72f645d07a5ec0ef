use Rattle.std.proofs.Common.{take}
use Rattle.dma_map.specs.Parts.{IsMapPart}
use Rattle.dma_map.proofs.part.Part.of.Given as goal

abbrev pub invariant-loop-segment : goal.invariant-loop-segment
invariant-loop-segment l = IsMapPart (take l.segment-index l.segments) l.part
