use Rattle.std.proofs.Common.{◌≡◌, List, Option, IfSome, subst, sym}
use Rattle.std.proofs.lemmas.Result.{IfOk-weaker}
use Rattle.busdma_machine.specs.declared.machine.address.Span.{Span}
use Rattle.busdma_base.specs.Scenarios.Buffers.{AreClustersFor}
use Rattle.busdma_rules.specs.Memory.Clusters.{plan}
use Rattle.script_read.proofs.Clusters.{plan_for}
use Rattle.script_read.proofs.sends.planned.Goals as goal

pub returns-clause-for_chain : goal.returns-clause-for_chain
returns-clause-for_chain c =
    IfOk-weaker c.plan.result (λ spans. spans ≡ plan c.args.chain.now c.args.clusters.now)
    (λ spans. IfSome spans (AreClustersFor c.args.chain.now))
    (λ spans is. subst (λ (x : Option (List Span)). IfSome x (AreClustersFor c.args.chain.now)) (sym is)
    (plan_for c.args.chain.now c.args.clusters.now c.requires.valid c.requires.few)) c.plan.ensures.plan
