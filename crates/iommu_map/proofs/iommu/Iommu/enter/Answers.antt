use Rattle.std.proofs.Common.{◌≡◌, length, Some, refl, ap, sym, subst, ◌∙◌, arith}
use Rattle.std.specs.List.{insert}
use Rattle.busdma_rules.specs.Iommu.Space.{AreSpaceRuns, DeviceRun, Space, first_free, gap, put_run}
use Rattle.busdma_rules.proofs.Iommu.Runs.{free-is, free-none, gap-low, runs-put}
use Rattle.iommu_map.proofs.iommu.Iommu.enter.Goals as goal

pub returns-then-self-gap-clause-first : goal.returns-then-self-gap-clause-first
returns-then-self-gap-clause-first c =
    let k = length c.args.frames.now in
    let s : Space = record { pages = c.self.inside.pages; runs = c.self.inside.runs.items } in
    let at : c.gap-gap.result.first ≡ gap 1 k s.runs =
    c.gap-gap.ensures.first ∙ ap (λ (x : Space). gap 1 k x.runs) (sym c.self.view_is) in
    sym (ap (λ x. first_free x k) (sym c.self.view_is)
    ∙ free-none s k c.self.invariant.runs (omega (arith, c.requires.some)) (omega (arith, at)))

pub invariant_of-self-2 : goal.invariant_of-self-2
invariant_of-self-2 c =
    let k = length c.args.frames.now in
    let s : Space = record { pages = c.self.inside.pages; runs = c.self.inside.runs.items } in
    let at : c.gap-gap.result.first ≡ gap 1 k s.runs =
    c.gap-gap.ensures.first ∙ ap (λ (x : Space). gap 1 k x.runs) (sym c.self.view_is) in
    let run : DeviceRun = record { first = c.gap-gap.result.first; frames = c.args.frames.now } in
    let put : c.insert.new.self.items ≡ put_run run s.runs =
    c.in_ok-insert.ensures.items ∙ ap (insert s.runs c.gap-gap.result.at) c.in_ok-run.ensures
    ∙ subst (λ (x : Space). insert x.runs c.gap-gap.result.at run ≡ put_run run x.runs) (sym c.self.view_is)
    (c.gap-gap.ensures.placed c.args.frames.now refl) in
    record {
      few = c.self.invariant.few;
      runs =
          subst (λ rs. AreSpaceRuns 1 c.self.inside.pages rs) (sym put)
          (runs-put 1 s.pages k run s.runs c.self.invariant.runs (omega (arith, c.requires.some)) at refl
          (record {
            behind = omega (arith, at, gap-low 1 s.pages k s.runs c.self.invariant.runs);
            some = c.requires.some;
            reached = omega arith;
            numbered = c.requires.numbered;
          }));
    }

pub returns-clause-first : goal.returns-clause-first
returns-clause-first c =
    let k = length c.args.frames.now in
    let s : Space = record { pages = c.self.inside.pages; runs = c.self.inside.runs.items } in
    let at : c.gap-gap.result.first ≡ gap 1 k s.runs =
    c.gap-gap.ensures.first ∙ ap (λ (x : Space). gap 1 k x.runs) (sym c.self.view_is) in
    ap (λ x. Some x) at
    ∙ sym (ap (λ x. first_free x k) (sym c.self.view_is)
    ∙ free-is s k c.self.invariant.runs (omega (arith, c.requires.some)) (omega (arith, at)))
