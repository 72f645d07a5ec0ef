use Rattle.std.proofs.Common.{false, sym, subst}
use Rattle.busdma_machine.specs.Machine.Entry.{IsStream}
use Rattle.phys_memory.proofs.VectorLaws.{spans_one}
use Rattle.busdma_rules.specs.Memory.BioFrames.{in_frames}
use Rattle.load_bio.proofs.FrameWalks.{frames_load}
use Rattle.load_bio.proofs.frames.frame_parts.Goals as goal

pub returns-clause-parts : goal.returns-clause-parts
returns-clause-parts c = sym (spans_one false (in_frames c.args.frames.now) c.args.off c.args.len)

pub returns-clause-stream : goal.returns-clause-stream
returns-clause-stream c = λ small.
    subst IsStream (spans_one false (in_frames c.args.frames.now) c.args.off c.args.len)
    (frames_load c.args.frames.now c.args.off c.args.len c.requires.frames small)
