use Rattle.iommu_load.proofs.DeviceFronts.{fronts_ask}
use Rattle.iommu_load.proofs.laws.device_fronts_ask_no_more.Goals as goal

pub returns : goal.returns
returns c = fronts_ask c.args.tag.now c.args.first c.limits.ensures.effective
