use Rattle.std.proofs.Common.{List, sym, subst}
use Rattle.busdma_machine.specs.declared.machine.chunk.Part.{Part}
use Rattle.phys_memory.proofs.Loads.{along_loads}
use Rattle.segment_build.specs.Streams.{IsMeasured}
use Rattle.segment_build.proofs.Iterating.{drained_first}
use Rattle.lane_state.proofs.buffers.measure_parts.Goals as goal

pub measure-requires-clause-stream : goal.measure-requires-clause-stream
measure-requires-clause-stream c = along_loads c.args.parts c.requires

pub returns : goal.returns
returns c =
    let ran = c.measure.ensures in
    subst (λ (ps : List Part). IsMeasured c.args.tag.now c.args.maxmem ps c.measure.result)
    (sym (drained_first (λ (ps : List Part). ps) c.args.parts ran.0 ran.1)) ran.2
