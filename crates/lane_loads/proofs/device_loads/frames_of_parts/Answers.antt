use Rattle.std.proofs.Common.{List, ap, sym, ◌∙◌}
use Rattle.busdma_machine.specs.declared.machine.chunk.Part.{Part}
use Rattle.iommu_load.specs.DeviceStreams.{stream_frames}
use Rattle.phys_memory.proofs.Loads.{along_loads}
use Rattle.segment_build.proofs.Iterating.{drained_first}
use Rattle.lane_state.proofs.Doors.{ok-map}
use Rattle.lane_loads.proofs.device_loads.frames_of_parts.Goals as goal

pub frames_of-requires-clause-stream : goal.frames_of-requires-clause-stream
frames_of-requires-clause-stream c = along_loads c.args.parts c.requires

pub returns-clause-frames : goal.returns-clause-frames
returns-clause-frames c =
    ok-map c.frames_of.result _ _ (λ frames h. h.2
    ∙ ap stream_frames (sym (drained_first (λ (ps : List Part). ps) c.args.parts h.0 h.1))) c.frames_of.ensures.frames
