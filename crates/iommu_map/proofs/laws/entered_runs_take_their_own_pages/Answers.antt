use Rattle.std.proofs.Common.{length, ap}
use Rattle.busdma_rules.proofs.Iommu.Entering.{entered-live, frame-other, frame-own, left-entered}
use Rattle.busdma_rules.proofs.Iommu.Members.{put-in, put-others}
use Rattle.busdma_rules.proofs.Iommu.Runs.{taken-gap}
use Rattle.iommu_map.proofs.laws.entered_runs_take_their_own_pages.Goals as goal

pub returns-clause-live : goal.returns-clause-live
returns-clause-live c s frames first = entered-live (record { first = first; frames = frames }) s.runs

pub returns-clause-there : goal.returns-clause-there
returns-clause-there c s frames first = put-in (record { first = first; frames = frames }) s.runs

pub returns-clause-others_live : goal.returns-clause-others_live
returns-clause-others_live c s frames first r h = put-others (record { first = first; frames = frames }) r s.runs h

pub returns-clause-own : goal.returns-clause-own
returns-clause-own c s frames first p h some e has =
    frame-own 1 s.pages (length frames) p (record { first = first; frames = frames }) s.runs h.runs some
    (taken-gap s (length frames) first h.runs some e) has

pub returns-clause-others : goal.returns-clause-others
returns-clause-others c s frames first p off =
    frame-other p (record { first = first; frames = frames }) s.runs off

pub returns-clause-back : goal.returns-clause-back
returns-clause-back c s frames first h some e =
    ap (λ rs. record s { runs = rs })
    (left-entered 1 s.pages (length frames) (record { first = first; frames = frames }) s.runs h.runs some
    (taken-gap s (length frames) first h.runs some e))
