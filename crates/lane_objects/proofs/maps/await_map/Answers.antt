use Rattle.std.proofs.Common.{ap, sym, ◌∙◌}
use Rattle.ideal_lane.specs.Asking.{Gives}
use Rattle.lane_state.specs.Ideal.{given, ideal_of}
use Rattle.lane_state.specs.Kept.{map_of}
use Rattle.lane_objects.proofs.MapSteps.{await-absent, await-tried, await-untried}
use Rattle.lane_state.proofs.MapValues.{image-none, image-some}
use Rattle.lane_objects.proofs.maps.await_map.Goals as goal

pub returns-in-None : goal.returns-in-None
returns-in-None c =
    let h = c.args.holdings.now in
    ap (λ a. Gives (given h a)) c.report.ensures
    ∙ sym (await-absent (ideal_of h) c.args.map (image-none map_of h.maps.map c.args.map (sym c.in-None.ensures)))

pub returns-in-Some : goal.returns-in-Some
returns-in-Some c =
    let h = c.args.holdings.now in
    sym (await-tried (ideal_of h) c.args.map (map_of c.in-Some.kept.now)
    (image-some map_of h.maps.map c.args.map c.in-Some.kept.now (sym c.in-Some.ensures))
    (sym c.tried.ensures ∙ c.if-tried.true))

pub returns-in-Some-2 : goal.returns-in-Some-2
returns-in-Some-2 c =
    let h = c.args.holdings.now in
    ap (λ a. Gives (given h a)) c.report-in-Some-2.ensures
    ∙ sym (await-untried (ideal_of h) c.args.map (map_of c.in-Some.kept.now)
    (image-some map_of h.maps.map c.args.map c.in-Some.kept.now (sym c.in-Some.ensures))
    (sym c.tried.ensures ∙ c.if-tried.false))
