use Rattle.std.proofs.Common.{◌≡◌, refl, ap, sym, ◌∙◌, subst}
use Rattle.std.specs.FinMap.{remove}
use Rattle.busdma_machine.specs.Bounce.MemoryRuns.{in_run}
use Rattle.ideal_lane.specs.IdealMemory.{parted}
use Rattle.busdma_machine.specs.declared.bounce.hold.HubCall.TheVariants.{MemFree}
use Rattle.busdma_machine.specs.declared.bounce.hold.HubReply.TheVariants.{Nothing}
use Rattle.busdma_base.specs.declared.journals.answer.Answer.TheVariants.{Done}
use Rattle.busdma_machine.specs.declared.name.MapId.{MapId}
use Rattle.busdma_machine.specs.Bounce.Door.{Allows, ArePagesOf, HoldsAtDoor}
use Rattle.busdma_machine.specs.Machine.PageList.{page_addresses}
use Rattle.ideal_lane.specs.Maps.{without_map}
use Rattle.ideal_lane.specs.Memories.{dmamem_free, without_memory}
use Rattle.ideal_lane.specs.Outcomes.{gives}
use Rattle.ideal_lane.specs.State.{LaneState, named}
use Rattle.lane_state.specs.declared.holdings.Answered.{Answered}
use Rattle.lane_state.specs.Held.{devices_of, held}
use Rattle.lane_state.specs.Ideal.{given, ideal_of}
use Rattle.lane_state.specs.Kept.{map_of, memory_of}
use Rattle.lane_state.proofs.Doors.{allowed-asks, asked, done-asks, done-gives, unasked}
use Rattle.lane_state.proofs.Following.{beside-same}
use Rattle.lane_state.proofs.Keeping.{bytes-same, state-busy, state-idle}
use Rattle.lane_state.proofs.MapValues.{image-none, image-some}
use Rattle.lane_objects.proofs.MemorySteps.{free-absent, free-asks, free-busy, free-mapless, free-pages}
use Rattle.lane_objects.proofs.RoomSteps.{beside-after, beside-then}
use Rattle.lane_objects.proofs.memories.end_memory.Goals as goal

pub returns-in_default-clause-done : goal.returns-in_default-clause-done
returns-in_default-clause-done g c =
    let h = c.args.holdings.now in
    let l = ideal_of h in
    done-gives (g.D.HubDoor.seen c.args.door.now) h.id.0 (dmamem_free c.args.mem l) (given h c.unheld.result.answer)
    (free-absent l c.args.mem (image-none memory_of h.memories.map c.args.mem (sym c.in_default.ensures))
    ∙ ap (gives l) (sym (ap (λ (x : Answered). x.answer) c.unheld.ensures ∙ c.report.ensures)))

pub returns-in_default-clause-held : goal.returns-in_default-clause-held
returns-in_default-clause-held g c =
    let h = c.args.holdings.now in
    let l = ideal_of h in
    ap (λ (x : Answered). x.held) c.unheld.ensures ∙ unasked (dmamem_free c.args.mem l) _
    (free-absent l c.args.mem (image-none memory_of h.memories.map c.args.mem (sym c.in_default.ensures)))

pub returns-in_default-get-clause-done : goal.returns-in_default-get-clause-done
returns-in_default-get-clause-done g c =
    let h = c.args.holdings.now in
    let l = ideal_of h in
    done-gives (g.D.HubDoor.seen c.args.door.now) h.id.0 (dmamem_free c.args.mem l)
    (given h c.unheld-in_default-get.result.answer)
    (free-mapless l c.args.mem (memory_of c.in-Some.kept.now)
    (image-some memory_of h.memories.map c.args.mem c.in-Some.kept.now (sym c.in-Some.ensures))
    (image-none map_of h.maps.map c.args.mem (sym c.in_default-get.ensures))
    ∙ ap (gives l) (sym (ap (λ (x : Answered). x.answer) c.unheld-in_default-get.ensures
    ∙ c.report-in_default-get.ensures)))

pub returns-in_default-get-clause-held : goal.returns-in_default-get-clause-held
returns-in_default-get-clause-held g c =
    let h = c.args.holdings.now in
    let l = ideal_of h in
    ap (λ (x : Answered). x.held) c.unheld-in_default-get.ensures ∙ unasked (dmamem_free c.args.mem l) _
    (free-mapless l c.args.mem (memory_of c.in-Some.kept.now)
    (image-some memory_of h.memories.map c.args.mem c.in-Some.kept.now (sym c.in-Some.ensures))
    (image-none map_of h.maps.map c.args.mem (sym c.in_default-get.ensures)))

pub returns-in_default-state : goal.returns-in_default-state
returns-in_default-state g c =
    let h = c.args.holdings.now in
    let l = ideal_of h in
    let x = c.in-Some.kept.now in
    let o = c.in-Some-get.map.now in
    let busy = free-busy l c.args.mem (memory_of x) (map_of o)
    (image-some memory_of h.memories.map c.args.mem x (sym c.in-Some.ensures))
    (image-some map_of h.maps.map c.args.mem o (sym c.in-Some-get.ensures))
    (state-busy o.map.stage (λ e. c.in_default-state.not-Idle (c.state.ensures ∙ e))) in
    record {
      done = done-gives (g.D.HubDoor.seen c.args.door.now) h.id.0 (dmamem_free c.args.mem l) _
          (busy ∙ ap (gives l) (sym (ap (λ (y : Answered). y.answer) c.unheld-in_default-state.ensures)));
      held = ap (λ (y : Answered). y.held) c.unheld-in_default-state.ensures
          ∙ unasked (dmamem_free c.args.mem l) _ busy;
      err = tt;
      undone = tt;
      bytes = beside-same h h (record { ideal = refl; bytes = bytes-same h });
      script = refl;
      agenda = refl;
      fixed = refl;
    }

pub mem_free-requires-clause-allowed : goal.mem_free-requires-clause-allowed
mem_free-requires-clause-allowed g c =
    let h = c.args.holdings.now in
    let l = ideal_of h in
    let x = c.in-Some.kept.now in
    let o = c.in-Some-get.map.now in
    let d = g.D.HubDoor.seen c.args.door.now in
    let there = image-some memory_of h.memories.map c.args.mem x (sym c.in-Some.ensures) in
    let idle = state-idle o.map.stage (sym c.state.ensures ∙ c.in-Idle.is) in
    let asks = free-asks l c.args.mem (memory_of x) (map_of o) there
    (image-some map_of h.maps.map c.args.mem o (sym c.in-Some-get.ensures)) idle in
    let id : c.map_id.result ≡ named l c.args.mem =
    c.map_id.ensures ∙ ap (λ (y : LaneState). named y c.args.mem) c.part_memory.ensures.done in
    subst (λ (m : MapId). Allows d m.lane.0 (MemFree m)) (sym id)
    (allowed-asks d h.id.0 (dmamem_free c.args.mem l) (MemFree (named l c.args.mem)) _ asks c.requires.allowed)

pub mem_free-requires-clause-pages : goal.mem_free-requires-clause-pages
mem_free-requires-clause-pages g c =
    let h = c.args.holdings.now in
    let l = ideal_of h in
    let x = c.in-Some.kept.now in
    let d = g.D.HubDoor.seen c.args.door.now in
    let id : c.map_id.result ≡ named l c.args.mem =
    c.map_id.ensures ∙ ap (λ (y : LaneState). named y c.args.mem) c.part_memory.ensures.done in
    subst (λ (m : MapId). ArePagesOf m (page_addresses c.part_memory.new.pages.items) d) (sym id)
    (free-pages l c.args.mem (memory_of x) d c.requires.served
    (image-some memory_of h.memories.map c.args.mem x (sym c.in-Some.ensures))
    (page_addresses c.part_memory.new.pages.items) c.part_memory.ensures.pages)

pub returns-clause-done : goal.returns-clause-done
returns-clause-done g c =
    let h = c.args.holdings.now in
    let l = ideal_of h in
    let x = c.in-Some.kept.now in
    let o = c.in-Some-get.map.now in
    let d = g.D.HubDoor.seen c.args.door.now in
    let there = image-some memory_of h.memories.map c.args.mem x (sym c.in-Some.ensures) in
    let idle = state-idle o.map.stage (sym c.state.ensures ∙ c.in-Idle.is) in
    let asks = free-asks l c.args.mem (memory_of x) (map_of o) there
    (image-some map_of h.maps.map c.args.mem o (sym c.in-Some-get.ensures)) idle in
    let e = g.D.HubDoor.seen c.mem_free.new.self in
    let id : c.map_id.result ≡ named l c.args.mem =
    c.map_id.ensures ∙ ap (λ (y : LaneState). named y c.args.mem) c.part_memory.ensures.done in
    let s = c.reserve.ensures.same in
    let mid = record l {
      mems = remove l.mems c.args.mem;
      memory = parted (in_run x.first.0 x.count)
          (held c.reserve.new.self.bytes c.reserve.new.self.loans (devices_of h.maps.map) h.memory.memory);
      loans = c.reserve.new.self.loans;
    } in
    let after : without_map c.args.mem mid ≡ without_memory c.args.mem (memory_of x) l =
    λ i. without_map c.args.mem (record l {
      mems = remove l.mems c.args.mem;
      memory = parted (in_run x.first.0 x.count)
          (held (s.bytes i) (s.loans i) (devices_of h.maps.map) h.memory.memory);
      loans = s.loans i;
    }) in
    done-asks d h.id.0 (dmamem_free c.args.mem l) (MemFree (named l c.args.mem)) _
    (given c.drop_map.new.holdings Done) e
    asks (record {
      reply = Nothing;
      holds = subst (λ (m : MapId). HoldsAtDoor d m.lane.0 (MemFree m) Nothing e) id c.mem_free.ensures.held;
      is = ap (λ (y : LaneState). record { lane = y; answer = Done })
          (c.drop_map.ensures.done ∙ ap (without_map c.args.mem) c.part_memory.ensures.done ∙ after);
    })

pub returns-clause-held : goal.returns-clause-held
returns-clause-held g c =
    let h = c.args.holdings.now in
    let l = ideal_of h in
    let x = c.in-Some.kept.now in
    let o = c.in-Some-get.map.now in
    asked (dmamem_free c.args.mem l) _ _
    (free-asks l c.args.mem (memory_of x) (map_of o)
    (image-some memory_of h.memories.map c.args.mem x (sym c.in-Some.ensures))
    (image-some map_of h.maps.map c.args.mem o (sym c.in-Some-get.ensures))
    (state-idle o.map.stage (sym c.state.ensures ∙ c.in-Idle.is)))

pub returns-clause-bytes : goal.returns-clause-bytes
returns-clause-bytes g c =
    let h = c.args.holdings.now in
    let s = c.reserve.ensures.same in
    let mid = record (ideal_of h) {
      memory = held c.reserve.new.self.bytes c.reserve.new.self.loans (devices_of h.maps.map) h.memory.memory;
      loans = c.reserve.new.self.loans;
    } in
    let room : mid ≡ ideal_of h = λ i. record (ideal_of h) {
      memory = held (s.bytes i) (s.loans i) (devices_of h.maps.map) h.memory.memory;
      loans = s.loans i;
    } in
    beside-then h c.part_memory.new.holdings c.drop_map.new.holdings
    (beside-after h _ c.part_memory.new.holdings
    (record { ideal = room; bytes = record { own = refl; pages = λ m. refl } })
    c.part_memory.ensures.bytes)
    c.drop_map.ensures.bytes (ap (λ (l : LaneState). l.memory) c.drop_map.ensures.done)
