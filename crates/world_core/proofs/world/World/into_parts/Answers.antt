use Rattle.std.proofs.Common.{◌≡◌, ◌∙◌, ap, Some, slice_get, map}
use Rattle.std.specs.Prelude.{option_map}
use Rattle.std.proofs.lemmas.Option.{slice_get-map}
use Rattle.lane_core.specs.LaneIdeal.{ideal}
use Rattle.world_core.proofs.Agreeing.{number-of}
use Rattle.world_core.proofs.Taking.{serves}
use Rattle.world_core.proofs.world.World.into_parts.Goals as goal

pub returns-clause-served : goal.returns-clause-served
returns-clause-served c i lane there =
    let w = c.args.self in
    serves w.scenario.now w.lanes.items w.hub i lane
    (slice_get-map ideal w.lanes.items i ∙ ap (option_map ideal) there) w.kept
    c.hub_is_sound.ensures.form c.hub_is_sound.ensures.sound

pub returns-clause-numbered : goal.returns-clause-numbered
returns-clause-numbered c i lane there =
    let w = c.args.self in
    let found : slice_get (map ideal w.lanes.items) i ≡ Some (ideal lane) =
    slice_get-map ideal w.lanes.items i ∙ ap (option_map ideal) there in
    number-of (ideal lane) i w.kept (λ k. (k.well.each i (ideal lane) found).number)
