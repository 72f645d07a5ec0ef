use Rattle.std.proofs.Common.{◌≡◌, Some, true, ap, sym, ◌∙◌, subst, if◌then◌else◌}
use Rattle.std.specs.Option.{option_map}
use Rattle.busdma_machine.specs.declared.bounce.hold.HubCall.TheVariants.{CreateMap}
use Rattle.busdma_machine.specs.declared.bounce.hold.HubReply.TheVariants as reply
use Rattle.busdma_base.specs.declared.journals.answer.Answer.TheVariants.{Grown}
use Rattle.busdma_machine.specs.declared.name.MapId.{MapId}
use Rattle.busdma_machine.specs.declared.tags.tag.TagLimits.{TagLimits}
use Rattle.busdma_machine.specs.Bounce.Door.{Allows, HoldsAtDoor}
use Rattle.ideal_lane.specs.Maps.{bounces, map_by_reply, map, with_map}
use Rattle.ideal_lane.specs.State.{LaneState, named}
use Rattle.ideal_lane.specs.Tags.{with_tag}
use Rattle.lane_state.specs.Held.{devices_of, held}
use Rattle.lane_state.specs.Ideal.{given, ideal_of}
use Rattle.lane_state.specs.Kept.{map_of, tag_of}
use Rattle.lane_state.specs.MapValues.{map_values}
use Rattle.lane_state.proofs.Doors.{allowed-asks, done-asks}
use Rattle.lane_objects.proofs.MapSteps.{map-created}
use Rattle.lane_state.proofs.MapValues.{image-some}
use Rattle.lane_state.proofs.Spaces.{bounces-unspaced}
use Rattle.lane_objects.proofs.maps.create_map.Goals as goal

pub create_map-requires : goal.create_map-requires
create_map-requires g c =
    let h = c.args.holdings.now in
    let l = ideal_of h in
    let t = c.in-Some.kept.now in
    let d = g.D.HubDoor.seen c.args.door.now in
    let could : Some (bounces h.maxmem (tag_of t)) ≡ Some true =
    ap (option_map (λ t. bounces h.maxmem (tag_of t))) c.in-Some.ensures ∙ c.requires.bounces in
    let on : bounces h.maxmem (tag_of t) ≡ true = cc in
    let id : c.map_id-id.result ≡ named l l.place =
    c.map_id-id.ensures ∙ (λ i. record { lane = h.id; made_at = c.place.ensures i }) in
    subst (λ (m : MapId). Allows d m.lane.0 (CreateMap m c.limits.result.now t.first_done)) (sym id)
    (subst (λ (x : TagLimits). Allows d h.id.0 (CreateMap (named l l.place) x t.first_done))
    (sym c.limits.ensures.limits)
    (allowed-asks d h.id.0 (map c.args.tag l) (CreateMap (named l l.place) t.tag t.first_done) _
    (map-created l c.args.tag (tag_of t) (image-some tag_of h.tags.map c.args.tag t (sym c.in-Some.ensures)) on)
    c.requires.allowed))

pub returns-clause-done : goal.returns-clause-done
returns-clause-done g c =
    let h = c.args.holdings.now in
    let l = ideal_of h in
    let t = c.in-Some.kept.now in
    let d = g.D.HubDoor.seen c.args.door.now in
    let e = g.D.HubDoor.seen c.create_map.new.self in
    let r = c.in_ok-grown.grown in
    let could : Some (bounces h.maxmem (tag_of t)) ≡ Some true =
    ap (option_map (λ t. bounces h.maxmem (tag_of t))) c.in-Some.ensures ∙ c.requires.bounces in
    let on : bounces h.maxmem (tag_of t) ≡ true = cc in
    let id : c.map_id-id.result ≡ named l l.place =
    c.map_id-id.ensures ∙ (λ i. record { lane = h.id; made_at = c.place.ensures i }) in
    let kept = c.in_ok-reserve.ensures.kept in
    let roomy : ◌≡◌ {A = LaneState} (record l {
      maps = map_values map_of c.reserve.new.self.map;
      memory = held h.loans.bytes h.loans.loans (devices_of c.reserve.new.self.map) h.memory.memory;
    }) l =
    (λ i. record l {
      maps = map_values map_of (kept i).map;
      memory = held h.loans.bytes h.loans.loans (devices_of (kept i).map) h.memory.memory;
    }) in
    done-asks d h.id.0 (map c.args.tag l) (CreateMap (named l l.place) t.tag t.first_done)
    (map_by_reply c.args.tag (tag_of t) l) (given c.keep_created.new.holdings (Grown r)) e
    (map-created l c.args.tag (tag_of t) (image-some tag_of h.tags.map c.args.tag t (sym c.in-Some.ensures)) on)
    (record {
      reply = reply.Grown r;
      holds =
          subst (λ (m : MapId). HoldsAtDoor d m.lane.0 (CreateMap m t.tag t.first_done) (reply.Grown r) e) id
          (subst (λ (x : TagLimits). HoldsAtDoor d c.map_id-id.result.lane.0
          (CreateMap c.map_id-id.result x t.first_done) (reply.Grown r) e) c.limits.ensures.limits
          c.in_ok-grown.ensures.held);
      is = ap (λ x. record { lane = x; answer = Grown r })
          (c.keep_created.ensures.done t (sym c.in-Some.ensures) (bounces-unspaced h.maxmem t on)
          ∙ ap (λ x. if r.made then with_tag c.args.tag t.tag true (with_map c.args.tag (Some r.zone.0) x) else x)
          roomy);
    })

pub returns-clause-bytes : goal.returns-clause-bytes
returns-clause-bytes g c =
    let kept = c.in_ok-reserve.ensures.kept in
    let bytes = c.keep_created.ensures.bytes in
    record {
      own = bytes.own;
      pages = λ m. bytes.pages m ∙ ap (λ t. (devices_of t.map m).pages) kept;
    }
