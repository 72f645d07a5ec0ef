use Rattle.std.proofs.Common.{◌+◌, ◌*◌, ◌/◌, ◌%◌, ◌-◌, None, option_map, slice_get, length, cond, ap, sym, ◌∙◌, arith}
use Rattle.std.proofs.lemmas.Bool.{le-leb, lt-leb}
use Rattle.busdma_rules.specs.Iommu.Space.{Space, frame_of_page}
use Rattle.iommu_map.specs.Space.{run_place}
use Rattle.iommu_map.proofs.Runs.{ends-past, found, frame-found, get-past}
use Rattle.busdma_rules.proofs.Iommu.Runs.{get-at}
use Rattle.iommu_map.proofs.iommu.Iommu.translate.Goals as goal

pub returns-then-at-len-clause-is : goal.returns-then-at-len-clause-is
returns-then-at-len-clause-is c =
    let items = c.self.inside.runs.items in
    let page = c.args.dev / 4096 in
    let at = c.place_of-at.ensures.is ∙ ap (λ (s : Space). run_place page s.runs) (sym c.self.view_is) in
    sym (ap (option_map (λ f. 4096 * f + c.args.dev % 4096))
    (ap (λ (s : Space). frame_of_page s.runs page) (sym c.self.view_is)
    ∙ frame-found 1 c.self.inside.pages page items c.self.invariant.runs
    ∙ ap (λ i. found (slice_get items i) page) (sym at)
    ∙ ap (λ o. found o page) (get-past items c.place_of-at.result (omega arith))))

pub returns-then-page-first-clause-is : goal.returns-then-page-first-clause-is
returns-then-page-first-clause-is c =
    let items = c.self.inside.runs.items in
    let page = c.args.dev / 4096 in
    let at = c.place_of-at.ensures.is ∙ ap (λ (s : Space). run_place page s.runs) (sym c.self.view_is) in
    let run = c.index-run.result.now in
    sym (ap (option_map (λ f. 4096 * f + c.args.dev % 4096))
    (ap (λ (s : Space). frame_of_page s.runs page) (sym c.self.view_is)
    ∙ frame-found 1 c.self.inside.pages page items c.self.invariant.runs
    ∙ ap (λ i. found (slice_get items i) page) (sym at)
    ∙ ap (λ o. found o page) (get-at items c.place_of-at.result run
    (omega (arith, ap (λ (x : Space). length x.runs) c.self.view_is)) c.index-run.ensures)
    ∙ ap (λ b. cond b (slice_get run.frames (page - run.first)) None)
    (lt-leb run.first page (omega arith))))

pub frame_of-requires-clause-before : goal.frame_of-requires-clause-before
frame_of-requires-clause-before c =
    let items = c.self.inside.runs.items in
    let page = c.args.dev / 4096 in
    let at = c.place_of-at.ensures.is ∙ ap (λ (s : Space). run_place page s.runs) (sym c.self.view_is) in
    ends-past page items c.index-run.result.now (ap (slice_get items) (sym at)
    ∙ get-at items c.place_of-at.result c.index-run.result.now
    (omega (arith, ap (λ (x : Space). length x.runs) c.self.view_is)) c.index-run.ensures)

pub returns-clause-is : goal.returns-clause-is
returns-clause-is c =
    let items = c.self.inside.runs.items in
    let page = c.args.dev / 4096 in
    let at = c.place_of-at.ensures.is ∙ ap (λ (s : Space). run_place page s.runs) (sym c.self.view_is) in
    let run = c.index-run.result.now in
    sym (ap (option_map (λ f. 4096 * f + c.args.dev % 4096))
    (ap (λ (s : Space). frame_of_page s.runs page) (sym c.self.view_is)
    ∙ frame-found 1 c.self.inside.pages page items c.self.invariant.runs
    ∙ ap (λ i. found (slice_get items i) page) (sym at)
    ∙ ap (λ o. found o page) (get-at items c.place_of-at.result run
    (omega (arith, ap (λ (x : Space). length x.runs) c.self.view_is)) c.index-run.ensures)
    ∙ ap (λ b. cond b (slice_get run.frames (page - run.first)) None)
    (le-leb run.first page (omega arith))
    ∙ c.frame_of.ensures.is))
