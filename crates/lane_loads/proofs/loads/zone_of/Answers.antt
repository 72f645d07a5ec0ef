use Rattle.std.proofs.Common.{◌≡◌, unwrap_or, sym, ap, ◌∙◌}
use Rattle.std.specs.FinMap.{get}
use Rattle.busdma_machine.specs.declared.name.ZoneId.{ZoneId}
use Rattle.ideal_lane.specs.Loads.{zone_of_map}
use Rattle.lane_state.specs.Kept.{map_of}
use Rattle.lane_state.proofs.Keeping.{idle-there}
use Rattle.lane_state.proofs.MapValues.{image-some}
use Rattle.lane_loads.proofs.UnloadSteps.{zone-is}
use Rattle.lane_loads.proofs.loads.zone_of.Goals as goal

pub unreachable-requires : goal.unreachable-requires
unreachable-requires c =
    let idle = idle-there (get c.args.holdings.now.maps.map c.args.map) c.requires in
    let none = c.in_default.ensures ∙ idle.1 in absurd (cc)

pub returns : goal.returns
returns c other found =
    let o = c.in-Some.kept.now in
    let is = image-some map_of c.args.holdings.now.maps.map c.args.map o (sym c.in-Some.ensures) in
    let same : map_of o ≡ other = cc in
    ap (λ (z : ZoneId). z.0) (c.unwrap_or.ensures ∙ ap (λ z. unwrap_or z (record { 0 = 0 })) c.zone.ensures)
    ∙ zone-is o.map.zone ∙ ap zone_of_map same
