use Rattle.std.proofs.Common.{List, length, ap, sym, ◌∙◌}
use Rattle.busdma_machine.specs.declared.machine.chunk.Part.{Part}
use Rattle.iommu_load.specs.DeviceStreams.{IsInDevicePages, device_pieces}
use Rattle.iommu_load.proofs.DeviceFronts.{IsInDevicePages-front}
use Rattle.segment_build.proofs.Iterating.{along_first, drained_first}
use Rattle.lane_loads.proofs.device_loads.measure_in_pages.Goals as goal

pub measure_device-requires-clause-paged : goal.measure_device-requires-clause-paged
measure_device-requires-clause-paged c =
    along_first (λ (ps : List Part). ps) (IsInDevicePages c.args.first) (IsInDevicePages-front c.args.first)
    c.args.parts c.requires

pub returns : goal.returns
returns c =
    let ran = c.measure_device.ensures in
    ran.2 ∙ ap (λ ps. length (device_pieces c.args.tag.now c.args.first ps))
    (sym (drained_first (λ (ps : List Part). ps) c.args.parts ran.0 ran.1))
