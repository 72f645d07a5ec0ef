use Rattle.busdma_rules.proofs.Iommu.Entering.{frame-left}
use Rattle.busdma_rules.proofs.Iommu.Members.{left-others, place-in}
use Rattle.iommu_map.proofs.laws.ended_runs_take_their_own_pages.Goals as goal

pub returns-clause-others : goal.returns-clause-others
returns-clause-others c s p r h there off =
    let at = place-in s.runs r there in frame-left 1 s.pages p at.0 r s.runs h.runs at.1 off

pub returns-clause-live : goal.returns-clause-live
returns-clause-live c s first r there off = left-others first r s.runs there off
