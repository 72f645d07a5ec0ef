use Rattle.std.proofs.Common.{◌≡◌, sym, ap, ◌∙◌}
use Rattle.ideal_lane.specs.Loads.{is_device}
use Rattle.lane_state.specs.Ideal.{ideal_of}
use Rattle.lane_state.specs.Kept.{map_of}
use Rattle.lane_state.proofs.MapValues.{image-none, image-some}
use Rattle.lane_state.proofs.Spaces.{device-none, device-of}
use Rattle.lane_state.proofs.holdings.Holdings.is_device.Goals as goal

pub returns-in_default : goal.returns-in_default
returns-in_default c o found =
    let none = image-none map_of c.args.self.now.maps.map c.args.map (sym c.in_default.ensures) in absurd (cc)

pub returns-in-Some-get : goal.returns-in-Some-get
returns-in-Some-get c o found =
    let h = c.args.self.now in
    let kept = c.in-Some.kept.now in
    let is = image-some map_of h.maps.map c.args.map kept (sym c.in-Some.ensures) in
    let same : map_of kept ≡ o = cc in
    let made = c.in-Some-get.made.now in
    c.is_some.ensures ∙ sym (device-of h (map_of kept) made (sym c.in-Some-get.ensures))
    ∙ ap (is_device (ideal_of h)) same

pub returns-in-None : goal.returns-in-None
returns-in-None c o found =
    let h = c.args.self.now in
    let kept = c.in-Some.kept.now in
    let is = image-some map_of h.maps.map c.args.map kept (sym c.in-Some.ensures) in
    let same : map_of kept ≡ o = cc in
    sym (device-none h (map_of kept) (sym c.in-None.ensures)) ∙ ap (is_device (ideal_of h)) same
