use Rattle.std.proofs.Common.{◌≡◌, sym, ap}
use Rattle.ideal_lane.specs.State.{LaneMap}
use Rattle.lane_state.specs.Kept.{map_of}
use Rattle.lane_state.proofs.MapValues.{image-none, image-some}
use Rattle.lane_loads.proofs.device_loads.tag_of.Goals as goal

pub returns-in-Some : goal.returns-in-Some
returns-in-Some c o found =
    let kept = c.in-Some.kept.now in
    let is = image-some map_of c.args.holdings.now.maps.map c.args.map kept (sym c.in-Some.ensures) in
    let same : map_of kept ≡ o = cc in
    ap (λ (x : LaneMap). x.tag) same

pub returns-in-None : goal.returns-in-None
returns-in-None c o found =
    let none = image-none map_of c.args.holdings.now.maps.map c.args.map (sym c.in-None.ensures) in absurd (cc)
