use Rattle.std.proofs.Common.{Some, map, ap, ◌∙◌}
use Rattle.busdma_rules.specs.Iommu.Space.{entered, translated}
use Rattle.busdma_rules.specs.Segments.Pieces.{chunk_pieces}
use Rattle.busdma_rules.specs.Segments.Segmentation.{segmentation}
use Rattle.busdma_rules.proofs.Segments.Bytes.{pieces_bytes, segmentation_bytes}
use Rattle.busdma_rules.proofs.Segments.Cuts.{cut_is}
use Rattle.busdma_rules.specs.Iommu.Device.{device_chunks, load_frames}
use Rattle.busdma_rules.proofs.Iommu.Carrying.{device-rises, entries-carried}
use Rattle.busdma_rules.proofs.Iommu.DeviceObeying.{device-obeys}
use Rattle.busdma_rules.proofs.Iommu.SpaceLaws.{entered-carries}
use Rattle.iommu_load.proofs.laws.device_segments_are_the_load.Goals as goal

pub returns-clause-bytes : goal.returns-clause-bytes
returns-clause-bytes c s first h some e =
    let t = c.args.tag.now in
    let es = c.args.entries.now in
    let cs = device_chunks first 0 es in
    let pieces = chunk_pieces t cs in
    ap (map (translated (entered (Some first) (load_frames es) s)))
    (segmentation_bytes t (segmentation t pieces) pieces (cut_is t pieces)
    ∙ pieces_bytes t cs c.limits.ensures.effective.maxsegsz (device-rises first 0 es))
    ∙ entries-carried (translated (entered (Some first) (load_frames es) s)) first 0 es
    (entered-carries s (load_frames es) first h.runs some e) c.requires.entries

pub returns-clause-obeys : goal.returns-clause-obeys
returns-clause-obeys c =
    device-obeys c.args.tag.now c.limits.ensures.effective c.args.entries.now c.requires.entries
