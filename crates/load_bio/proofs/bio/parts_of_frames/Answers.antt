use Rattle.phys_memory.proofs.Loads.{along_loads}
use Rattle.load_bio.proofs.bio.parts_of_frames.Goals as goal

pub returns-clause-along : goal.returns-clause-along
returns-clause-along c = λ small. along_loads c.frame_parts.result (c.frame_parts.ensures.stream small)
