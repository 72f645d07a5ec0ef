use Rattle.std.proofs.Common.{◌≡◌, ◌<◌, ◌≤◌, List, true, refl, sym, ap, ◌∙◌, subst, arith}
use Rattle.busdma_machine.specs.declared.bounce.hold.HubCall.{HubCall}
use Rattle.busdma_machine.specs.declared.bounce.hold.HubCall.TheVariants.{Grab}
use Rattle.busdma_base.specs.declared.journals.answer.Answer.TheVariants.{Refused}
use Rattle.busdma_machine.specs.declared.report.Errno.TheVariants.{EINVAL}
use Rattle.busdma_machine.specs.declared.machine.chunk.Chunk.{Chunk}
use Rattle.ideal_lane.specs.Loads.{granted, limits_of, zone_of_map}
use Rattle.ideal_lane.specs.Asking.{Gives}
use Rattle.ideal_lane.specs.Outcomes.{gives, is_idle}
use Rattle.ideal_lane.specs.State.{LaneMap, named}
use Rattle.lane_state.specs.declared.holdings.Answered.{Answered}
use Rattle.lane_state.specs.Covered.{is_idle_map}
use Rattle.lane_state.specs.Ideal.{given, ideal_of}
use Rattle.lane_state.specs.Kept.{map_of, memory_of}
use Rattle.lane_state.specs.Loading.{IsWanted, bio_bytes, bio_chunks, bio_of}
use Rattle.lane_loads.proofs.Asked.{few-wanted, load-absent, load-bounced, load-busy, load-device, load-direct}
use Rattle.lane_loads.proofs.Asked.{load-long}
use Rattle.lane_loads.proofs.Asked.{load-refused, plain-chunks, plain-wanted, x}
use Rattle.lane_loads.proofs.Chunked.{all-reached}
use Rattle.lane_state.proofs.Doors.{allowed-asks, asked, done-asks, done-gives, unasked}
use Rattle.lane_state.proofs.Following.{stays-all}
use Rattle.lane_state.proofs.IdlePages.{stays-idle, stays-same}
use Rattle.lane_state.proofs.Keeping.{state-busy, state-idle}
use Rattle.lane_state.proofs.MapValues.{image-none, image-some}
use Rattle.lane_state.proofs.OperationSteps.{vacant}
use Rattle.lane_loads.proofs.OwnLoads.{first-loaded}
use Rattle.lane_loads.proofs.AwaitedLoads.{fine-bytes}
use Rattle.ideal_wire.proofs.Loads.Asked.{are-in-pages, direct-bytes}
use Rattle.lane_loads.proofs.loads.load.Goals as goal

pub returns-in_default-clause-done : goal.returns-in_default-clause-done
returns-in_default-clause-done g c =
    let h = c.args.holdings.now in
    let l = ideal_of h in
    done-gives (g.D.HubDoor.seen c.args.door.now) h.id.0 _ (given h c.report.result)
    (load-absent l c.args.map (bio_of c.args.bytes) c.args.nowait c.args.items.now
    (image-none map_of h.maps.map c.args.map (sym c.in_default.ensures))
    ∙ ap (gives l) (sym c.report.ensures))

pub returns-in_default-state-clause-done : goal.returns-in_default-state-clause-done
returns-in_default-state-clause-done g c =
    let h = c.args.holdings.now in
    let l = ideal_of h in
    let o = c.in-Some.kept.now in
    done-gives (g.D.HubDoor.seen c.args.door.now) h.id.0 _ (given h c.report-in_default-state.result)
    (load-busy l c.args.map (bio_of c.args.bytes) c.args.nowait c.args.items.now (map_of o)
    (image-some map_of h.maps.map c.args.map o (sym c.in-Some.ensures))
    (state-busy o.map.stage (λ e. c.in_default-state.not-Idle (c.state.ensures ∙ e)))
    ∙ ap (gives l) (sym c.report-in_default-state.ensures))

pub returns-in-Refused-clause-done : goal.returns-in-Refused-clause-done
returns-in-Refused-clause-done g c =
    let h = c.args.holdings.now in
    let l = ideal_of h in
    let o = c.in-Some.kept.now in
    done-gives (g.D.HubDoor.seen c.args.door.now) h.id.0 _ _
    (load-refused l c.args.map (bio_of c.args.bytes) c.args.nowait c.args.items.now (map_of o)
    (image-some map_of h.maps.map c.args.map o (sym c.in-Some.ensures))
    (state-idle o.map.stage (sym c.state.ensures ∙ c.in-Idle.is)) c.in-Refused.refusal
    (sym c.judge_load.ensures ∙ c.in-Refused.is))

pub measure_load-requires-clause-reached : goal.measure_load-requires-clause-reached
measure_load-requires-clause-reached g c =
    all-reached (ideal_of c.args.holdings.now) c.args.map (bio_of c.args.bytes)
    (sym c.judge_load.ensures ∙ c.in_default-judge_load.is)

pub load_direct-requires-clause-reached : goal.load_direct-requires-clause-reached
load_direct-requires-clause-reached g c =
    all-reached (ideal_of c.args.holdings.now) c.args.map (bio_of c.args.bytes)
    (sym c.judge_load.ensures ∙ c.in_default-judge_load.is)

pub measure_load-requires-clause-first : goal.measure_load-requires-clause-first
measure_load-requires-clause-first g c =
    let h = c.args.holdings.now in
    let o = c.in-Some.kept.now in
    first-loaded (ideal_of h) c.requires.laid c.requires.machine c.requires.stands c.args.map (map_of o)
    (image-some map_of h.maps.map c.args.map o (sym c.in-Some.ensures)) (bio_of c.args.bytes)
    (sym c.judge_load.ensures ∙ c.in_default-judge_load.is)

pub load_direct-requires-clause-first : goal.load_direct-requires-clause-first
load_direct-requires-clause-first g c =
    let h = c.args.holdings.now in
    let o = c.in-Some.kept.now in
    first-loaded (ideal_of h) c.requires.laid c.requires.machine c.requires.stands c.args.map (map_of o)
    (image-some map_of h.maps.map c.args.map o (sym c.in-Some.ensures)) (bio_of c.args.bytes)
    (sym c.judge_load.ensures ∙ c.in_default-judge_load.is)

pub load_bounced-requires-clause-own : goal.load_bounced-requires-clause-own
load_bounced-requires-clause-own g c =
    let h = c.args.holdings.now in
    let o = c.in-Some.kept.now in
    let need = c.in-Some-measure_load.wanted.need in
    let there = image-some map_of h.maps.map c.args.map o (sym c.in-Some.ensures) in
    let wanted = c.in-Some-measure_load.ensures.wanted (map_of o) there in
    vacant memory_of h.memories.map c.args.map
    (plain-wanted (ideal_of h) c.args.map (map_of o) (bio_of c.args.bytes) need
    (c.requires.stands.each c.args.map (map_of o) there) wanted.need (omega (arith, c.if-wanted-eq0.false)))

pub load_bounced-requires-clause-wanted : goal.load_bounced-requires-clause-wanted
load_bounced-requires-clause-wanted g c other found =
    let h = c.args.holdings.now in
    let l = ideal_of h in
    let need = c.in-Some-measure_load.wanted.need in
    let b = bio_of c.args.bytes in
    let wanted = c.in-Some-measure_load.ensures.wanted other found in
    subst
    (λ (cs : List Chunk). IsWanted (limits_of l other) cs (bio_bytes b) need c.in-Some-measure_load.wanted.segments)
    (plain-chunks l c.args.map other b (plain-wanted l c.args.map other b need
    (c.requires.stands.each c.args.map other found) wanted.need (omega (arith, c.if-wanted-eq0.false)))) wanted

pub returns-in_default-measure_load-clause-done : goal.returns-in_default-measure_load-clause-done
returns-in_default-measure_load-clause-done g c =
    let h = c.args.holdings.now in
    let l = ideal_of h in
    let o = c.in-Some.kept.now in
    let there = image-some map_of h.maps.map c.args.map o (sym c.in-Some.ensures) in
    done-gives (g.D.HubDoor.seen c.args.door.now) h.id.0 _ _
    (load-long l c.args.map (bio_of c.args.bytes) c.args.nowait c.args.items.now (map_of o) there
    (state-idle o.map.stage (sym c.state.ensures ∙ c.in-Idle.is))
    (sym c.judge_load.ensures ∙ c.in_default-judge_load.is)
    (c.in_default-measure_load.ensures.long (map_of o) there)
    ∙ ap (λ k. gives k (Refused EINVAL)) (sym (c.note_tried.ensures.done (map_of o) there)))

pub returns-then-wanted-eq0-clause-done : goal.returns-then-wanted-eq0-clause-done
returns-then-wanted-eq0-clause-done g c =
    let h = c.args.holdings.now in
    let l = ideal_of h in
    let o = c.in-Some.kept.now in
    let there = image-some map_of h.maps.map c.args.map o (sym c.in-Some.ensures) in
    let wanted = c.in-Some-measure_load.ensures.wanted (map_of o) there in
    done-gives (g.D.HubDoor.seen c.args.door.now) h.id.0 _ (given c.load_direct.new.holdings c.in_ok-answer.answer)
    (load-direct l c.args.map (bio_of c.args.bytes) c.args.nowait c.args.items.now (map_of o) there
    (state-idle o.map.stage (sym c.state.ensures ∙ c.in-Idle.is))
    (sym c.judge_load.ensures ∙ c.in_default-judge_load.is) (sym (c.is_device.ensures (map_of o) there)
    ∙ c.if-is_device.false) wanted.short (sym wanted.need ∙ c.if-wanted-eq0.true)
    ∙ ap Gives (sym (c.in_ok-answer.ensures.done (map_of o)
    (x l c.args.map (bio_of c.args.bytes) c.args.nowait c.args.items.now) there refl refl)))

pub load_bounced-requires-clause-few_pages : goal.load_bounced-requires-clause-few_pages
load_bounced-requires-clause-few_pages g c =
    let h = c.args.holdings.now in
    let l = ideal_of h in
    let o = c.in-Some.kept.now in
    let b = bio_of c.args.bytes in
    let there = image-some map_of h.maps.map c.args.map o (sym c.in-Some.ensures) in
    let wanted = c.in-Some-measure_load.ensures.wanted (map_of o) there in
    let few : c.in-Some-measure_load.wanted.need ≤ bio_bytes b =
    few-wanted l c.args.map (map_of o) b c.in-Some-measure_load.wanted.need wanted.need in
    let all = c.requires.few_pages in
    omega (arith, few, all)

pub load_bounced-requires-clause-allowed : goal.load_bounced-requires-clause-allowed
load_bounced-requires-clause-allowed g c other found =
    let h = c.args.holdings.now in
    let l = ideal_of h in
    let m = c.args.map in
    let o = c.in-Some.kept.now in
    let d = g.D.HubDoor.seen c.args.door.now in
    let need = c.in-Some-measure_load.wanted.need in
    let there = image-some map_of h.maps.map m o (sym c.in-Some.ensures) in
    let same : map_of o ≡ other = cc in
    let on : is_idle other.stage ≡ true =
    ap (λ (y : LaneMap). is_idle y.stage) (sym same)
    ∙ state-idle o.map.stage (sym c.state.ensures ∙ c.in-Idle.is) in
    let wanted = c.in-Some-measure_load.ensures.wanted other found in
    let some : 0 < need = omega (arith, c.if-wanted-eq0.false) in
    allowed-asks d h.id.0 _ (Grab (named l m) (record { 0 = zone_of_map other }) need c.args.nowait) _
    (load-bounced l m (bio_of c.args.bytes) c.args.nowait c.args.items.now other found on
    (sym c.judge_load.ensures ∙ c.in_default-judge_load.is) (sym (c.is_device.ensures other found)
    ∙ c.if-is_device.false) wanted.short
    (plain-wanted l m other (bio_of c.args.bytes) need (c.requires.stands.each m other found) wanted.need some) need
    wanted.need some)
    c.requires.allowed

pub returns-clause-done : goal.returns-clause-done
returns-clause-done g c =
    let h = c.args.holdings.now in
    let l = ideal_of h in
    let m = c.args.map in
    let o = c.in-Some.kept.now in
    let d = g.D.HubDoor.seen c.args.door.now in
    let k_door = c.load_bounced.new.door in
    let e = g.D.HubDoor.seen k_door in
    let need = c.in-Some-measure_load.wanted.need in
    let there = image-some map_of h.maps.map m o (sym c.in-Some.ensures) in
    let wanted = c.in-Some-measure_load.ensures.wanted (map_of o) there in
    let some : 0 < need = omega (arith, c.if-wanted-eq0.false) in
    let ask = x l m (bio_of c.args.bytes) c.args.nowait c.args.items.now in
    let k = granted m (map_of o) ask (bio_chunks l (map_of o) (bio_of c.args.bytes)) l in
    let call : HubCall = Grab (named l m) (record { 0 = zone_of_map (map_of o) }) need c.args.nowait in
    let end = given c.load_bounced.new.holdings c.in_ok-answer-2.answer in
    done-asks d h.id.0 _ call k end e
    (load-bounced l m (bio_of c.args.bytes) c.args.nowait c.args.items.now (map_of o) there
    (state-idle o.map.stage (sym c.state.ensures ∙ c.in-Idle.is))
    (sym c.judge_load.ensures ∙ c.in_default-judge_load.is) (sym (c.is_device.ensures (map_of o) there)
    ∙ c.if-is_device.false) wanted.short
    (plain-wanted l m (map_of o) (bio_of c.args.bytes) need (c.requires.stands.each m (map_of o) there) wanted.need
    some) need wanted.need some)
    (c.in_ok-answer-2.ensures.done (map_of o) ask there refl refl refl)

pub returns-clause-promised : goal.returns-clause-promised
returns-clause-promised g c =
    let l = ideal_of c.args.holdings.now in
    let o = c.in-Some.kept.now in
    let b = bio_of c.args.bytes in
    let there = image-some map_of c.args.holdings.now.maps.map c.args.map o (sym c.in-Some.ensures) in
    let wanted = c.in-Some-measure_load.ensures.wanted (map_of o) there in
    let few : c.in-Some-measure_load.wanted.need ≤ bio_bytes b =
    few-wanted l c.args.map (map_of o) b c.in-Some-measure_load.wanted.need wanted.need in
    let more = c.load_bounced.ensures.promised in
    omega (arith, few, more)

pub returns-in_default-clause-held : goal.returns-in_default-clause-held
returns-in_default-clause-held g c =
    let h = c.args.holdings.now in
    unasked _ _ (load-absent (ideal_of h) c.args.map (bio_of c.args.bytes) c.args.nowait c.args.items.now
    (image-none map_of h.maps.map c.args.map (sym c.in_default.ensures)))

pub returns-in_default-state-clause-held : goal.returns-in_default-state-clause-held
returns-in_default-state-clause-held g c =
    let h = c.args.holdings.now in
    let o = c.in-Some.kept.now in
    unasked _ _ (load-busy (ideal_of h) c.args.map (bio_of c.args.bytes) c.args.nowait c.args.items.now
    (map_of o) (image-some map_of h.maps.map c.args.map o (sym c.in-Some.ensures))
    (state-busy o.map.stage (λ e. c.in_default-state.not-Idle (c.state.ensures ∙ e))))

pub returns-in-Refused-clause-held : goal.returns-in-Refused-clause-held
returns-in-Refused-clause-held g c =
    let h = c.args.holdings.now in
    let o = c.in-Some.kept.now in
    unasked _ _ (load-refused (ideal_of h) c.args.map (bio_of c.args.bytes) c.args.nowait
    c.args.items.now (map_of o) (image-some map_of h.maps.map c.args.map o (sym c.in-Some.ensures))
    (state-idle o.map.stage (sym c.state.ensures ∙ c.in-Idle.is)) c.in-Refused.refusal
    (sym c.judge_load.ensures ∙ c.in-Refused.is))

pub returns-in_default-measure_load-clause-held : goal.returns-in_default-measure_load-clause-held
returns-in_default-measure_load-clause-held g c =
    let h = c.args.holdings.now in
    let o = c.in-Some.kept.now in
    let there = image-some map_of h.maps.map c.args.map o (sym c.in-Some.ensures) in
    unasked _ _ (load-long (ideal_of h) c.args.map (bio_of c.args.bytes) c.args.nowait c.args.items.now
    (map_of o) there (state-idle o.map.stage (sym c.state.ensures ∙ c.in-Idle.is))
    (sym c.judge_load.ensures ∙ c.in_default-judge_load.is)
    (c.in_default-measure_load.ensures.long (map_of o) there))

pub returns-then-wanted-eq0-clause-held : goal.returns-then-wanted-eq0-clause-held
returns-then-wanted-eq0-clause-held g c =
    let h = c.args.holdings.now in
    let o = c.in-Some.kept.now in
    let there = image-some map_of h.maps.map c.args.map o (sym c.in-Some.ensures) in
    let wanted = c.in-Some-measure_load.ensures.wanted (map_of o) there in
    unasked _ _ (load-direct (ideal_of h) c.args.map (bio_of c.args.bytes) c.args.nowait c.args.items.now
    (map_of o) there (state-idle o.map.stage (sym c.state.ensures ∙ c.in-Idle.is))
    (sym c.judge_load.ensures ∙ c.in_default-judge_load.is) (sym (c.is_device.ensures (map_of o) there)
    ∙ c.if-is_device.false) wanted.short (sym wanted.need ∙ c.if-wanted-eq0.true))

pub returns-clause-held : goal.returns-clause-held
returns-clause-held g c =
    let h = c.args.holdings.now in
    let o = c.in-Some.kept.now in
    let need = c.in-Some-measure_load.wanted.need in
    let there = image-some map_of h.maps.map c.args.map o (sym c.in-Some.ensures) in
    let wanted = c.in-Some-measure_load.ensures.wanted (map_of o) there in
    let some : 0 < need = omega (arith, c.if-wanted-eq0.false) in
    asked _ _ _ (load-bounced (ideal_of h) c.args.map (bio_of c.args.bytes) c.args.nowait
    c.args.items.now (map_of o) there (state-idle o.map.stage (sym c.state.ensures ∙ c.in-Idle.is))
    (sym c.judge_load.ensures ∙ c.in_default-judge_load.is) (sym (c.is_device.ensures (map_of o) there)
    ∙ c.if-is_device.false) wanted.short
    (plain-wanted (ideal_of h) c.args.map (map_of o) (bio_of c.args.bytes) need
    (c.requires.stands.each c.args.map (map_of o) there) wanted.need some) need wanted.need some)

pub returns-in_default-clause-bytes : goal.returns-in_default-clause-bytes
returns-in_default-clause-bytes g c = stays-same c.args.holdings.now

pub returns-in_default-state-clause-bytes : goal.returns-in_default-state-clause-bytes
returns-in_default-state-clause-bytes g c = stays-same c.args.holdings.now

pub returns-in-Refused-clause-bytes : goal.returns-in-Refused-clause-bytes
returns-in-Refused-clause-bytes g c = stays-same c.args.holdings.now

pub returns-in_default-measure_load-clause-bytes : goal.returns-in_default-measure_load-clause-bytes
returns-in_default-measure_load-clause-bytes g c =
    stays-all c.args.holdings.now c.note_tried.new.holdings c.note_tried.ensures.bytes

pub returns-then-wanted-eq0-clause-bytes : goal.returns-then-wanted-eq0-clause-bytes
returns-then-wanted-eq0-clause-bytes g c =
    let o = c.in-Some.kept.now in
    stays-idle c.args.holdings.now c.load_direct.new.holdings c.args.map
    (ap is_idle_map (sym c.in-Some.ensures) ∙ state-idle o.map.stage (sym c.state.ensures ∙ c.in-Idle.is))
    c.load_direct.ensures.bytes

pub returns-in_err-answer-clause-bytes : goal.returns-in_err-answer-clause-bytes
returns-in_err-answer-clause-bytes g c =
    let o = c.in-Some.kept.now in
    stays-idle c.args.holdings.now c.load_direct.new.holdings c.args.map
    (ap is_idle_map (sym c.in-Some.ensures) ∙ state-idle o.map.stage (sym c.state.ensures ∙ c.in-Idle.is))
    c.load_direct.ensures.bytes

pub returns-clause-bytes : goal.returns-clause-bytes
returns-clause-bytes g c =
    let o = c.in-Some.kept.now in
    stays-idle c.args.holdings.now c.load_bounced.new.holdings c.args.map
    (ap is_idle_map (sym c.in-Some.ensures) ∙ state-idle o.map.stage (sym c.state.ensures ∙ c.in-Idle.is))
    c.load_bounced.ensures.bytes

pub returns-in_err-answer-2-clause-bytes : goal.returns-in_err-answer-2-clause-bytes
returns-in_err-answer-2-clause-bytes g c =
    let o = c.in-Some.kept.now in
    stays-idle c.args.holdings.now c.load_bounced.new.holdings c.args.map
    (ap is_idle_map (sym c.in-Some.ensures) ∙ state-idle o.map.stage (sym c.state.ensures ∙ c.in-Idle.is))
    c.load_bounced.ensures.bytes

pub returns-in_err-answer-2-clause-promised : goal.returns-in_err-answer-2-clause-promised
returns-in_err-answer-2-clause-promised g c =
    let l = ideal_of c.args.holdings.now in
    let o = c.in-Some.kept.now in
    let b = bio_of c.args.bytes in
    let there = image-some map_of c.args.holdings.now.maps.map c.args.map o (sym c.in-Some.ensures) in
    let wanted = c.in-Some-measure_load.ensures.wanted (map_of o) there in
    let few : c.in-Some-measure_load.wanted.need ≤ bio_bytes b =
    few-wanted l c.args.map (map_of o) b c.in-Some-measure_load.wanted.need wanted.need in
    let more = c.load_bounced.ensures.promised in
    omega (arith, few, more)

pub load_direct-requires-clause-mine : goal.load_direct-requires-clause-mine
load_direct-requires-clause-mine g c =
    let h = c.args.holdings.now in
    let o = c.in-Some.kept.now in
    fine-bytes (ideal_of h) c.requires.laid c.requires.machine c.requires.stands c.args.map (map_of o)
    (image-some map_of h.maps.map c.args.map o (sym c.in-Some.ensures)) (bio_of c.args.bytes) c.requires.loadable.own
    (sym c.judge_load.ensures ∙ c.in_default-judge_load.is)

pub load_bounced-requires-clause-mine : goal.load_bounced-requires-clause-mine
load_bounced-requires-clause-mine g c =
    let h = c.args.holdings.now in
    let o = c.in-Some.kept.now in
    fine-bytes (ideal_of h) c.requires.laid c.requires.machine c.requires.stands c.args.map (map_of o)
    (image-some map_of h.maps.map c.args.map o (sym c.in-Some.ensures)) (bio_of c.args.bytes) c.requires.loadable.own
    (sym c.judge_load.ensures ∙ c.in_default-judge_load.is)

pub load_bounced-requires-clause-paged : goal.load_bounced-requires-clause-paged
load_bounced-requires-clause-paged g c =
    let l = ideal_of c.args.holdings.now in
    let o = c.in-Some.kept.now in
    let b = bio_of c.args.bytes in
    let need = c.in-Some-measure_load.wanted.need in
    let there = image-some map_of c.args.holdings.now.maps.map c.args.map o (sym c.in-Some.ensures) in
    let wanted = c.in-Some-measure_load.ensures.wanted (map_of o) there in
    are-in-pages l b (direct-bytes l c.args.map b
    (plain-wanted l c.args.map (map_of o) b need (c.requires.stands.each c.args.map (map_of o) there) wanted.need
    (omega (arith, c.if-wanted-eq0.false))) (sym c.judge_load.ensures ∙ c.in_default-judge_load.is))

pub returns-in_default-measure_load-clause-due : goal.returns-in_default-measure_load-clause-due
returns-in_default-measure_load-clause-due g c =
    omega (arith, c.note_tried.ensures.due, ap (λ a. a.promised) c.note_tried.ensures.agenda)

pub load_device-requires-clause-reached : goal.load_device-requires-clause-reached
load_device-requires-clause-reached g c =
    all-reached (ideal_of c.args.holdings.now) c.args.map (bio_of c.args.bytes)
    (sym c.judge_load.ensures ∙ c.in_default-judge_load.is)

pub load_device-requires-clause-mine : goal.load_device-requires-clause-mine
load_device-requires-clause-mine g c =
    let h = c.args.holdings.now in
    let o = c.in-Some.kept.now in
    fine-bytes (ideal_of h) c.requires.laid c.requires.machine c.requires.stands c.args.map (map_of o)
    (image-some map_of h.maps.map c.args.map o (sym c.in-Some.ensures)) (bio_of c.args.bytes) c.requires.loadable.own
    (sym c.judge_load.ensures ∙ c.in_default-judge_load.is)

pub returns-then-is_device-clause-done : goal.returns-then-is_device-clause-done
returns-then-is_device-clause-done g c =
    let h = c.args.holdings.now in
    let l = ideal_of h in
    let o = c.in-Some.kept.now in
    let there = image-some map_of h.maps.map c.args.map o (sym c.in-Some.ensures) in
    let wanted = c.in-Some-measure_load.ensures.wanted (map_of o) there in
    done-gives (g.D.HubDoor.seen c.args.door.now) h.id.0 _ (given c.load_device.new.holdings c.unheld.result.answer)
    (load-device l c.args.map (bio_of c.args.bytes) c.args.nowait c.args.items.now (map_of o) there
    (state-idle o.map.stage (sym c.state.ensures ∙ c.in-Idle.is))
    (sym c.judge_load.ensures ∙ c.in_default-judge_load.is)
    (sym (c.is_device.ensures (map_of o) there) ∙ c.if-is_device.true) wanted.short
    ∙ ap Gives (sym (c.in_ok-loaded.ensures.done (map_of o)
    (x l c.args.map (bio_of c.args.bytes) c.args.nowait c.args.items.now) there refl refl))
    ∙ ap (λ (r : Answered). Gives (given c.load_device.new.holdings r.answer)) (sym c.unheld.ensures))

pub returns-then-is_device-clause-held : goal.returns-then-is_device-clause-held
returns-then-is_device-clause-held g c =
    let h = c.args.holdings.now in
    let o = c.in-Some.kept.now in
    let there = image-some map_of h.maps.map c.args.map o (sym c.in-Some.ensures) in
    let wanted = c.in-Some-measure_load.ensures.wanted (map_of o) there in
    ap (λ (r : Answered). r.held) c.unheld.ensures
    ∙ unasked _ _ (load-device (ideal_of h) c.args.map (bio_of c.args.bytes) c.args.nowait c.args.items.now
    (map_of o) there (state-idle o.map.stage (sym c.state.ensures ∙ c.in-Idle.is))
    (sym c.judge_load.ensures ∙ c.in_default-judge_load.is)
    (sym (c.is_device.ensures (map_of o) there) ∙ c.if-is_device.true) wanted.short)

pub returns-then-is_device-clause-bytes : goal.returns-then-is_device-clause-bytes
returns-then-is_device-clause-bytes g c =
    let o = c.in-Some.kept.now in
    stays-idle c.args.holdings.now c.load_device.new.holdings c.args.map
    (ap is_idle_map (sym c.in-Some.ensures) ∙ state-idle o.map.stage (sym c.state.ensures ∙ c.in-Idle.is))
    c.load_device.ensures.bytes

pub returns-in_err-loaded-clause-bytes : goal.returns-in_err-loaded-clause-bytes
returns-in_err-loaded-clause-bytes g c =
    let o = c.in-Some.kept.now in
    stays-idle c.args.holdings.now c.load_device.new.holdings c.args.map
    (ap is_idle_map (sym c.in-Some.ensures) ∙ state-idle o.map.stage (sym c.state.ensures ∙ c.in-Idle.is))
    c.load_device.ensures.bytes
