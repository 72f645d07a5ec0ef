use Rattle.std.proofs.Common.{◌≡◌, List, not, ap, sym, subst, ◌∙◌, arith}
use Rattle.std.specs.List.{filter, remove}
use Rattle.busdma_rules.specs.Iommu.Space.{AreSpaceRuns, DeviceRun, Space}
use Rattle.busdma_rules.specs.Iommu.Space.{begins_at, is_live, run_unmapped}
use Rattle.iommu_map.specs.Space.{run_place}
use Rattle.iommu_map.proofs.Runs.{leaves}
use Rattle.busdma_rules.proofs.Iommu.Runs.{runs-left}
use Rattle.iommu_map.proofs.iommu.Iommu.leave.Goals as goal

pub remove-requires : goal.remove-requires
remove-requires c =
    let items = c.self.inside.runs.items in
    let t =
    leaves 1 c.self.inside.pages c.args.first items c.self.invariant.runs
    (ap (λ (s : Space). is_live s c.args.first) c.self.view_is ∙ c.requires) in
    let at = c.place_of-at.ensures.is ∙ ap (λ (s : Space). run_place c.args.first s.runs) (sym c.self.view_is) in
    omega (arith, t.inside, at)

pub invariant_of-self : goal.invariant_of-self
invariant_of-self c =
    let items = c.self.inside.runs.items in
    let t =
    leaves 1 c.self.inside.pages c.args.first items c.self.invariant.runs
    (ap (λ (s : Space). is_live s c.args.first) c.self.view_is ∙ c.requires) in
    let at = c.place_of-at.ensures.is ∙ ap (λ (s : Space). run_place c.args.first s.runs) (sym c.self.view_is) in
    let gone : c.remove.new.self.items ≡ filter (λ r. not (begins_at c.args.first r)) items =
    c.remove.ensures.items ∙ ap (remove items) at ∙ t.gone in
    record {
      few = c.self.invariant.few;
      runs =
          subst (λ rs. AreSpaceRuns 1 c.self.inside.pages rs) (sym gone)
          (runs-left 1 c.self.inside.pages c.args.first items c.self.invariant.runs);
    }

pub returns : goal.returns
returns c =
    let items = c.self.inside.runs.items in
    let t =
    leaves 1 c.self.inside.pages c.args.first items c.self.invariant.runs
    (ap (λ (s : Space). is_live s c.args.first) c.self.view_is ∙ c.requires) in
    let at = c.place_of-at.ensures.is ∙ ap (λ (s : Space). run_place c.args.first s.runs) (sym c.self.view_is) in
    let gone : c.remove.new.self.items ≡ filter (λ r. not (begins_at c.args.first r)) items =
    c.remove.ensures.items ∙ ap (remove items) at ∙ t.gone in
    let with : List DeviceRun → Space = λ rs. record { pages = c.self.inside.pages; runs = rs } in
    ap with gone ∙ ap (run_unmapped c.args.first) c.self.view_is
