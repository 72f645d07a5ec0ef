use Rattle.std.proofs.Common.{Some, true, false, ap, sym, ◌∙◌}
use Rattle.std.specs.FinMap.{get}
use Rattle.ideal_lane.specs.Maps.{bounces, map}
use Rattle.ideal_lane.specs.Outcomes.{gives}
use Rattle.lane_state.specs.Ideal.{given, ideal_of}
use Rattle.lane_state.specs.Kept.{tag_of}
use Rattle.lane_state.proofs.Doors.{asked, done-gives, unasked}
use Rattle.lane_state.proofs.Keeping.{told-none, told-some}
use Rattle.lane_objects.proofs.MapSteps.{map-absent, map-created, map-plain}
use Rattle.lane_state.proofs.MapValues.{image-none, image-some}
use Rattle.lane_objects.proofs.maps.make_map.Goals as goal

pub returns-in-None-clause-done : goal.returns-in-None-clause-done
returns-in-None-clause-done g c =
    let h = c.args.holdings.now in
    let l = ideal_of h in
    done-gives (g.D.HubDoor.seen c.args.door.now) h.id.0 (map c.args.tag l) (given h c.report.result)
    (map-absent l c.args.tag (image-none tag_of h.tags.map c.args.tag
    (told-none (λ t. bounces h.maxmem (tag_of t)) (get h.tags.map c.args.tag)
    (sym c.bounces.ensures ∙ c.in-None.is)))
    ∙ ap (gives l) (sym c.report.ensures))

pub returns-in-None-clause-held : goal.returns-in-None-clause-held
returns-in-None-clause-held g c =
    let h = c.args.holdings.now in
    let l = ideal_of h in
    unasked (map c.args.tag l) _
    (map-absent l c.args.tag (image-none tag_of h.tags.map c.args.tag
    (told-none (λ t. bounces h.maxmem (tag_of t)) (get h.tags.map c.args.tag)
    (sym c.bounces.ensures ∙ c.in-None.is))))

pub returns-in_ok-keep_map-in-Some-false-clause-done : goal.returns-in_ok-keep_map-in-Some-false-clause-done
returns-in_ok-keep_map-in-Some-false-clause-done g c =
    let h = c.args.holdings.now in
    let l = ideal_of h in
    let told =
    told-some (λ t. bounces h.maxmem (tag_of t)) (get h.tags.map c.args.tag) false
    (sym c.bounces.ensures ∙ c.in-Some-false.is ∙ ap Some c.in-Some-false.field-0-test) in
    let plain =
    map-plain l c.args.tag (tag_of told.0) (image-some tag_of h.tags.map c.args.tag told.0 told.1) told.2 in
    done-gives (g.D.HubDoor.seen c.args.door.now) h.id.0 (map c.args.tag l) _
    (plain ∙ sym c.in_ok-keep_map-in-Some-false.ensures.done)

pub returns-in_ok-keep_map-in-Some-false-clause-held : goal.returns-in_ok-keep_map-in-Some-false-clause-held
returns-in_ok-keep_map-in-Some-false-clause-held g c =
    let h = c.args.holdings.now in
    let l = ideal_of h in
    let told =
    told-some (λ t. bounces h.maxmem (tag_of t)) (get h.tags.map c.args.tag) false
    (sym c.bounces.ensures ∙ c.in-Some-false.is ∙ ap Some c.in-Some-false.field-0-test) in
    unasked (map c.args.tag l) _
    (map-plain l c.args.tag (tag_of told.0) (image-some tag_of h.tags.map c.args.tag told.0 told.1) told.2)

pub returns-in_ok-create_map-in-Some-true-clause-held : goal.returns-in_ok-create_map-in-Some-true-clause-held
returns-in_ok-create_map-in-Some-true-clause-held g c =
    let h = c.args.holdings.now in
    let l = ideal_of h in
    let told =
    told-some (λ t. bounces h.maxmem (tag_of t)) (get h.tags.map c.args.tag) true
    (sym c.bounces.ensures ∙ c.in-Some-true.is ∙ ap Some c.in-Some-true.field-0-test) in
    asked (map c.args.tag l) _ _
    (map-created l c.args.tag (tag_of told.0) (image-some tag_of h.tags.map c.args.tag told.0 told.1) told.2)
