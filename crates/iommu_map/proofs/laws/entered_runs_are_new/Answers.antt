use Rattle.std.proofs.Common.{length, refl}
use Rattle.busdma_rules.proofs.Iommu.Members.{gap-new}
use Rattle.busdma_rules.proofs.Iommu.Runs.{taken-gap}
use Rattle.iommu_map.proofs.laws.entered_runs_are_new.Goals as goal

pub returns : goal.returns
returns c s frames first p r h some e there has =
    gap-new 1 s.pages (length frames) p (record { first = first; frames = frames }) r s.runs h.runs some
    (taken-gap s (length frames) first h.runs some e) refl there has
