use Rattle.memory_load.proofs.Parts.{run_is_stream}
use Rattle.memory_load.proofs.run_parts.run_parts.Goals as goal

pub returns-clause-stream : goal.returns-clause-stream
returns-clause-stream c = λ small. run_is_stream c.args.first.0 c.args.len c.requires small
