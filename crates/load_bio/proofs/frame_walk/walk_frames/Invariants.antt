use Rattle.std.proofs.Common.{◌≡◌, false, []}
use Rattle.busdma_machine.specs.Machine.Spans.{one_span}
use Rattle.phys_memory.specs.VectorStreams.{spans_stream}
use Rattle.phys_memory.specs.Walk.{walked}
use Rattle.busdma_rules.specs.Memory.BioFrames.{in_frames}
use Rattle.load_bio.proofs.frame_walk.walk_frames.Given as goal

abbrev pub invariant-loop-part : goal.invariant-loop-part
invariant-loop-part l = walked l.parts.items l.part-iterator
    ≡ walked [] (spans_stream false (in_frames l.fn.frames) (one_span l.fn.off l.fn.len))
