use Rattle.std.proofs.Common.{◌≡◌, ◌≤◌, [], true, length, ap, sym, ◌∙◌, subst, IfSome}
use Rattle.busdma_rules.specs.Iommu.Space.{is_live, run_unmapped}
use Rattle.ideal_lane.specs.Tags.{with_space}
use Rattle.ideal_lane.specs.Unloads.{first_of, segments_in, unmapped}
use Rattle.lane_state.specs.Covered.{has_load}
use Rattle.lane_state.specs.Ideal.{ideal_of}
use Rattle.lane_state.specs.Kept.{map_of}
use Rattle.lane_loads.proofs.EndedRuns.{none-ends, run-live, segments-are}
use Rattle.lane_state.proofs.MapValues.{image-some}
use Rattle.lane_state.proofs.Spaces.{spaces-same}
use Rattle.lane_loads.proofs.unloads.end_run.Goals as goal

pub returns-in_default-first_page-clause-done : goal.returns-in_default-first_page-clause-done
returns-in_default-first_page-clause-done c other found =
    let h = c.args.holdings.now in
    let l = ideal_of h in
    let o = c.in-Some.kept.now in
    let there = image-some map_of h.maps.map c.args.map o (sym c.in-Some.ensures) in
    let same : map_of o ≡ other = cc in
    let none : segments_in (map_of o).stage ≡ [] =
    segments-are o.map.stage ∙ sym c.segments.ensures ∙ c.in_default-first_page.ensures.none in
    let ends : l ≡ unmapped (map_of o) l =
    (λ i. record l {
      spaces = sym (ap (λ ss. with_space o.tag (run_unmapped (first_of ss) (l.spaces o.tag)) l.spaces) none
          ∙ spaces-same l.spaces o.tag (run_unmapped 0 (l.spaces o.tag)) (sym (none-ends h o.tag c.requires.spaced))) i;
    }) in
    subst (λ x. l ≡ unmapped x l) same ends

pub leave_run-requires : goal.leave_run-requires
leave_run-requires c t found =
    let h = c.args.holdings.now in
    let o = c.in-Some.kept.now in
    let there = image-some map_of h.maps.map c.args.map o (sym c.in-Some.ensures) in
    let are : segments_in (map_of o).stage ≡ c.segments.result.now = segments-are o.map.stage
    ∙ sym c.segments.ensures in
    let some : 1 ≤ length (segments_in (map_of o).stage) =
    subst (λ (ss : _). 1 ≤ length ss) (sym are) c.in-Some-first_page.ensures.long in
    subst (λ p. IfSome t.space (λ s. is_live s p ≡ true))
    (ap first_of are ∙ sym c.in-Some-first_page.ensures.some)
    (run-live h c.args.map (map_of o) there (ap has_load c.in-Some.ensures ∙ c.requires.loaded) t found
    c.requires.mapped
    some)

pub returns-clause-done : goal.returns-clause-done
returns-clause-done c other found =
    let h = c.args.holdings.now in
    let l = ideal_of h in
    let o = c.in-Some.kept.now in
    let there = image-some map_of h.maps.map c.args.map o (sym c.in-Some.ensures) in
    let same : map_of o ≡ other = cc in
    let are : segments_in (map_of o).stage ≡ c.segments.result.now = segments-are o.map.stage
    ∙ sym c.segments.ensures in
    let first : c.in-Some-first_page.first ≡ first_of (segments_in (map_of o).stage) =
    c.in-Some-first_page.ensures.some ∙ ap first_of (sym are) in
    subst (λ x. ideal_of c.leave_run.new.holdings ≡ unmapped x l) same
    (c.leave_run.ensures.done
    ∙ ap (λ p. record l { spaces = with_space o.tag (run_unmapped p (l.spaces o.tag)) l.spaces }) first)
