use Rattle.std.proofs.Common.{◌≡◌, false, Some}
use Rattle.std.proofs.Common.{ap, sym, ◌∙◌}
use Rattle.dma_map.specs.MapView as held
use Rattle.busdma_rules.specs.Rings.Ranges.{place_of}
use Rattle.ideal_lane.specs.Rings.{is_left_out}
use Rattle.lane_state.specs.Ideal.{ideal_of}
use Rattle.lane_state.specs.Kept.{map_of}
use Rattle.lane_state.proofs.MapValues.{image-some}
use Rattle.lane_rings.proofs.Candidates.{candidate-at, candidate-within, left-out, none-behind, short-segments}
use Rattle.lane_access.proofs.RawPlaces.{segments-same}
use Rattle.lane_rings.proofs.rings.candidate_in.Goals as goal

pub returns-then-is_left_out-clause-is : goal.returns-then-is_left_out-clause-is
returns-then-is_left_out-clause-is c =
    let h = c.args.holdings.now in
    let o = c.args.kept.now in
    let there = image-some map_of h.maps.map c.args.map o c.requires.there in
    left-out (ideal_of h) c.args.descriptor c.args.own c.args.map (map_of o)
    (sym (c.is_left_out.ensures (map_of o) there) ∙ c.if-is_left_out.true)

pub find-requires : goal.find-requires
find-requires c =
    let h = c.args.holdings.now in
    let o = c.args.kept.now in
    let there = image-some map_of h.maps.map c.args.map o c.requires.there in
    let kept : is_left_out c.args.own (ideal_of h) (c.args.map, map_of o) ≡ false =
    sym (c.is_left_out.ensures (map_of o) there) ∙ c.if-is_left_out.false in
    short-segments h c.requires.wired c.args.map o c.requires.there
    (none-behind h c.args.own c.args.map o c.requires.there kept) c.requires.short

pub returns-clause-is : goal.returns-clause-is
returns-clause-is c =
    let h = c.args.holdings.now in
    let o = c.args.kept.now in
    let d = c.args.descriptor in
    let there = image-some map_of h.maps.map c.args.map o c.requires.there in
    let place : place_of d.addr d.len (held.segments_of o.map.stage) ≡ Some c.in_ok-off.off =
    sym c.find.ensures ∙ c.in_ok-off.was in
    candidate-at (ideal_of h) d c.args.own c.args.map (map_of o)
    (sym (c.is_left_out.ensures (map_of o) there) ∙ c.if-is_left_out.false) c.in_ok-off.off
    (ap (place_of d.addr d.len) (segments-same o.map.stage) ∙ place)

pub returns-clause-within : goal.returns-clause-within
returns-clause-within c =
    let h = c.args.holdings.now in
    let o = c.args.kept.now in
    let d = c.args.descriptor in
    let there = image-some map_of h.maps.map c.args.map o c.requires.there in
    let kept : is_left_out c.args.own (ideal_of h) (c.args.map, map_of o) ≡ false =
    sym (c.is_left_out.ensures (map_of o) there) ∙ c.if-is_left_out.false in
    let place : place_of d.addr d.len (held.segments_of o.map.stage) ≡ Some c.in_ok-off.off =
    sym c.find.ensures ∙ c.in_ok-off.was in
    candidate-within h c.requires.wired c.args.map o c.requires.there
    (none-behind h c.args.own c.args.map o c.requires.there kept) d c.in_ok-off.off place
