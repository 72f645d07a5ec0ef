use Rattle.std.proofs.Common.{refl, ap, sym, ◌∙◌, subst}
use Rattle.std.specs.Option.{option_map}
use Rattle.busdma_machine.specs.declared.bounce.hold.HubCall.TheVariants.{DestroyMap}
use Rattle.busdma_machine.specs.declared.bounce.hold.HubReply.TheVariants.{Nothing}
use Rattle.busdma_base.specs.declared.journals.answer.Answer.TheVariants.{Done}
use Rattle.busdma_machine.specs.declared.name.MapId.{MapId}
use Rattle.busdma_machine.specs.declared.name.ZoneId.{ZoneId}
use Rattle.busdma_machine.specs.Bounce.Door.{Allows, HoldsAtDoor}
use Rattle.ideal_lane.specs.Maps.{map_destroy, without_map}
use Rattle.ideal_lane.specs.Outcomes.{gives}
use Rattle.ideal_lane.specs.State.{named}
use Rattle.lane_state.specs.Ideal.{given, ideal_of}
use Rattle.lane_state.specs.Kept.{map_of}
use Rattle.lane_state.proofs.Doors.{allowed-asks, asked, done-asks, done-gives, unasked}
use Rattle.lane_state.proofs.Keeping.{bytes-same, state-busy, state-idle}
use Rattle.lane_objects.proofs.MapSteps.{destroy-absent, destroy-busy, destroy-plain, destroy-zoned}
use Rattle.lane_state.proofs.MapValues.{image-none, image-some}
use Rattle.lane_objects.proofs.maps.destroy_map.Goals as goal

pub returns-in_default-clause-done : goal.returns-in_default-clause-done
returns-in_default-clause-done g c =
    let h = c.args.holdings.now in
    let l = ideal_of h in
    done-gives (g.D.HubDoor.seen c.args.door.now) h.id.0 (map_destroy c.args.map l) (given h c.report.result)
    (destroy-absent l c.args.map (image-none map_of h.maps.map c.args.map (sym c.in_default.ensures))
    ∙ ap (gives l) (sym c.report.ensures))

pub returns-in_default-clause-held : goal.returns-in_default-clause-held
returns-in_default-clause-held g c =
    let h = c.args.holdings.now in
    let l = ideal_of h in
    unasked (map_destroy c.args.map l) _
    (destroy-absent l c.args.map (image-none map_of h.maps.map c.args.map (sym c.in_default.ensures)))

pub returns-in_default-state : goal.returns-in_default-state
returns-in_default-state g c =
    let h = c.args.holdings.now in
    let l = ideal_of h in
    let o = c.in-Some.kept.now in
    record {
      done = done-gives (g.D.HubDoor.seen c.args.door.now) h.id.0 (map_destroy c.args.map l) _
          (destroy-busy l c.args.map (map_of o)
          (image-some map_of h.maps.map c.args.map o (sym c.in-Some.ensures))
          (state-busy o.map.stage (λ e. c.in_default-state.not-Idle (c.state.ensures ∙ e))));
      held = unasked (map_destroy c.args.map l) _
          (destroy-busy l c.args.map (map_of o)
          (image-some map_of h.maps.map c.args.map o (sym c.in-Some.ensures))
          (state-busy o.map.stage (λ e. c.in_default-state.not-Idle (c.state.ensures ∙ e))));
      bytes = bytes-same h;
      script = refl;
      memories = refl;
      agenda = refl;
      fixed = refl;
    }

pub returns-in_default-zone-clause-done : goal.returns-in_default-zone-clause-done
returns-in_default-zone-clause-done g c =
    let h = c.args.holdings.now in
    let l = ideal_of h in
    let o = c.in-Some.kept.now in
    done-gives (g.D.HubDoor.seen c.args.door.now) h.id.0 (map_destroy c.args.map l) (given c.drop_map.new.holdings Done)
    (destroy-plain l c.args.map (map_of o)
    (image-some map_of h.maps.map c.args.map o (sym c.in-Some.ensures))
    (state-idle o.map.stage (sym c.state.ensures ∙ c.in-Idle.is))
    (ap (option_map (λ (z : ZoneId). z.0)) (sym c.zone.ensures ∙ c.in_default-zone.is))
    ∙ ap (λ x. gives x Done) (sym c.drop_map.ensures.done))

pub returns-in_default-zone-clause-held : goal.returns-in_default-zone-clause-held
returns-in_default-zone-clause-held g c =
    let h = c.args.holdings.now in
    let l = ideal_of h in
    let o = c.in-Some.kept.now in
    unasked (map_destroy c.args.map l) _
    (destroy-plain l c.args.map (map_of o)
    (image-some map_of h.maps.map c.args.map o (sym c.in-Some.ensures))
    (state-idle o.map.stage (sym c.state.ensures ∙ c.in-Idle.is))
    (ap (option_map (λ (z : ZoneId). z.0)) (sym c.zone.ensures ∙ c.in_default-zone.is)))

pub destroy_map-requires : goal.destroy_map-requires
destroy_map-requires g c =
    let h = c.args.holdings.now in
    let l = ideal_of h in
    let o = c.in-Some.kept.now in
    let z = c.in-Some-zone.zone in
    let d = g.D.HubDoor.seen c.args.door.now in
    subst (λ (m : MapId). Allows d m.lane.0 (DestroyMap m z)) (sym c.map_id.ensures)
    (allowed-asks d h.id.0 (map_destroy c.args.map l) (DestroyMap (named l c.args.map) (record { 0 = z.0 })) _
    (destroy-zoned l c.args.map (map_of o) z.0
    (image-some map_of h.maps.map c.args.map o (sym c.in-Some.ensures))
    (state-idle o.map.stage (sym c.state.ensures ∙ c.in-Idle.is))
    (ap (option_map (λ (z : ZoneId). z.0)) (sym c.zone.ensures ∙ c.in-Some-zone.is)))
    c.requires)

pub returns-clause-done : goal.returns-clause-done
returns-clause-done g c =
    let h = c.args.holdings.now in
    let l = ideal_of h in
    let o = c.in-Some.kept.now in
    let z = c.in-Some-zone.zone in
    let d = g.D.HubDoor.seen c.args.door.now in
    let e = g.D.HubDoor.seen c.destroy_map.new.self in
    done-asks d h.id.0 (map_destroy c.args.map l) (DestroyMap (named l c.args.map) (record { 0 = z.0 }))
    (λ r. record { lane = without_map c.args.map l; answer = Done }) (given c.drop_map-2.new.holdings Done) e
    (destroy-zoned l c.args.map (map_of o) z.0
    (image-some map_of h.maps.map c.args.map o (sym c.in-Some.ensures))
    (state-idle o.map.stage (sym c.state.ensures ∙ c.in-Idle.is))
    (ap (option_map (λ (z : ZoneId). z.0)) (sym c.zone.ensures ∙ c.in-Some-zone.is)))
    (record {
      reply = Nothing;
      holds = subst (λ (m : MapId). HoldsAtDoor d m.lane.0 (DestroyMap m z) Nothing e) c.map_id.ensures
          c.destroy_map.ensures.held;
      is = λ i. record { lane = c.drop_map-2.ensures.done i; answer = Done };
    })

pub returns-clause-held : goal.returns-clause-held
returns-clause-held g c =
    let h = c.args.holdings.now in
    let l = ideal_of h in
    let o = c.in-Some.kept.now in
    let z = c.in-Some-zone.zone in
    asked (map_destroy c.args.map l) _ _
    (destroy-zoned l c.args.map (map_of o) z.0
    (image-some map_of h.maps.map c.args.map o (sym c.in-Some.ensures))
    (state-idle o.map.stage (sym c.state.ensures ∙ c.in-Idle.is))
    (ap (option_map (λ (z : ZoneId). z.0)) (sym c.zone.ensures ∙ c.in-Some-zone.is)))
