use Rattle.std.proofs.Common.{◌≡◌, Some, ap, sym, ◌∙◌, arith}
use Rattle.busdma_rules.specs.Iommu.Space.{Space, first_free, gap}
use Rattle.busdma_rules.proofs.Iommu.Runs.{free-is, free-none}
use Rattle.iommu_map.proofs.iommu.Iommu.first_free.Goals as goal

pub returns-then-end-self-clause-is : goal.returns-then-end-self-clause-is
returns-then-end-self-clause-is c =
    let k = c.args.count in
    let s : Space = record { pages = c.self.inside.pages; runs = c.self.inside.runs.items } in
    let at : c.gap-first.result.first ≡ gap 1 k s.runs =
    c.gap-first.ensures.first ∙ ap (λ (x : Space). gap 1 k x.runs) (sym c.self.view_is) in
    ap (λ x. Some x) at
    ∙ sym (ap (λ x. first_free x k) (sym c.self.view_is)
    ∙ free-is s k c.self.invariant.runs c.requires.some (omega (arith, at, c.if-end-self.true)))

pub returns-else-end-self-clause-is : goal.returns-else-end-self-clause-is
returns-else-end-self-clause-is c =
    let k = c.args.count in
    let s : Space = record { pages = c.self.inside.pages; runs = c.self.inside.runs.items } in
    let at : c.gap-first.result.first ≡ gap 1 k s.runs =
    c.gap-first.ensures.first ∙ ap (λ (x : Space). gap 1 k x.runs) (sym c.self.view_is) in
    sym (ap (λ x. first_free x k) (sym c.self.view_is)
    ∙ free-none s k c.self.invariant.runs c.requires.some (omega (arith, at, c.if-end-self.false)))
