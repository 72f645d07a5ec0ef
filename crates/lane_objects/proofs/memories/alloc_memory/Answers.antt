use Rattle.std.proofs.Common.{◌≡◌, ◌≤◌, Some, length, ap, sym, ◌∙◌, subst}
use Rattle.std.specs.Prelude.{IfSome, slice_index_or}
use Rattle.std.proofs.lemmas.List.{length-map}
use Rattle.std.specs.FinMap.{get}
use Rattle.busdma_machine.specs.declared.bounce.hold.HubCall.TheVariants.{MemAlloc}
use Rattle.busdma_machine.specs.declared.bounce.hold.HubReply.TheVariants.{NoRun}
use Rattle.busdma_base.specs.declared.journals.answer.Answer.TheVariants.{Placed, Refused}
use Rattle.busdma_machine.specs.declared.report.Errno.TheVariants.{ENOMEM}
use Rattle.busdma_machine.specs.declared.name.MapId.{MapId}
use Rattle.busdma_machine.specs.Bounce.Door.{HoldsAtDoor, IsRow, memory_reply}
use Rattle.busdma_machine.specs.Bounce.MemoryRuns.{frames_from}
use Rattle.busdma_machine.specs.Machine.PageList.{RoomyPages, page_address, page_addresses}
use Rattle.busdma_rules.specs.Tags.MemFlags.{zero_filled}
use Rattle.ideal_lane.specs.Asking.{Asks}
use Rattle.ideal_lane.specs.Memories as memories
use Rattle.ideal_lane.specs.Memories.{dmamem, with_memory}
use Rattle.ideal_lane.specs.State.{LaneState, named}
use Rattle.ideal_wire.specs.NewRuns.{BringsNew, IsNewRun}
use Rattle.lane_state.specs.declared.kept.KeptTag.{KeptTag}
use Rattle.lane_state.specs.Ideal.{given, ideal_of}
use Rattle.lane_state.specs.Kept.{tag_of}
use Rattle.lane_objects.specs.Making.{ideal_memory}
use Rattle.lane_state.proofs.Doors.{done-asks}
use Rattle.lane_state.proofs.Keeping.{told-some}
use Rattle.lane_state.proofs.MapValues.{image-some}
use Rattle.lane_objects.proofs.MemorySteps.{alloc-count, first-of-run, frames-some, holds-new, make-asks, placed-memory}
use Rattle.lane_objects.proofs.RoomSteps.{beside-after, room-ideal, room-state}
use Rattle.memory_pages.proofs.Runs.{row_is}
use Rattle.lane_objects.proofs.memories.alloc_memory.Goals as goal

pub returns-in_default-clause-done : goal.returns-in_default-clause-done
returns-in_default-clause-done g c =
    let h = c.args.holdings.now in
    let l = ideal_of h in
    let n = c.reserve_memory.new.holdings in
    let d = g.D.HubDoor.seen c.args.door.now in
    let e = g.D.HubDoor.seen c.mem_alloc.new.self in
    let limits = c.args.limits.now in
    let room : ideal_of n ≡ l = room-ideal h n c.reserve_memory.ensures.rest in
    let id : c.map_id-id.result ≡ named l l.place =
    c.map_id-id.ensures ∙ ap (λ q. named (ideal_of n) q) c.place.ensures
    ∙ ap (λ (x : LaneState). named x x.place) room in
    let t = told-some (λ (x : KeptTag). x.tag) (get h.tags.map c.args.tag) limits c.requires.tag in
    let asks : dmamem c.args.tag c.args.flags l
    ≡ Asks (MemAlloc (named l l.place) limits) (memories.memory_by_reply c.args.tag limits c.args.flags l) =
    make-asks l c.args.tag c.args.flags (tag_of t.0) (image-some tag_of h.tags.map c.args.tag t.0 t.1)
    ∙ ap (λ x. Asks (MemAlloc (named l l.place) x) (memories.memory_by_reply c.args.tag x c.args.flags l)) t.2 in
    let held : HoldsAtDoor d c.map_id-id.result.lane.0 (MemAlloc c.map_id-id.result limits) NoRun e =
    subst (λ o. HoldsAtDoor d c.map_id-id.result.lane.0 (MemAlloc c.map_id-id.result limits) (memory_reply o) e)
    c.in_default.is c.in_ok-pages.ensures.held in
    done-asks d h.id.0 (dmamem c.args.tag c.args.flags l) (MemAlloc (named l l.place) limits)
    (memories.memory_by_reply c.args.tag limits c.args.flags l) (given n (Refused ENOMEM)) e asks (record {
      reply = NoRun;
      holds = subst (λ (m : MapId). HoldsAtDoor d m.lane.0 (MemAlloc m limits) NoRun e) id held;
      is = ap (λ (x : LaneState). record { lane = x; answer = Refused ENOMEM }) room;
    })

pub keep_memory-requires-clause-new : goal.keep_memory-requires-clause-new
keep_memory-requires-clause-new g c =
    let h = c.args.holdings.now in
    let l = ideal_of h in
    let n = c.reserve_memory.new.holdings in
    let d = g.D.HubDoor.seen c.args.door.now in
    let e = g.D.HubDoor.seen c.mem_alloc.new.self in
    let limits = c.args.limits.now in
    let room : ideal_of n ≡ l = room-ideal h n c.reserve_memory.ensures.rest in
    let id : c.map_id-id.result ≡ named l l.place =
    c.map_id-id.ensures ∙ ap (λ q. named (ideal_of n) q) c.place.ensures
    ∙ ap (λ (x : LaneState). named x x.place) room in
    let reply = memory_reply (Some c.in-Some.pages) in
    let held : HoldsAtDoor d c.map_id-id.result.lane.0 (MemAlloc c.map_id-id.result limits) reply e =
    subst (λ o. HoldsAtDoor d c.map_id-id.result.lane.0 (MemAlloc c.map_id-id.result limits) (memory_reply o) e)
    c.in-Some.is c.in_ok-pages.ensures.held in
    let own = subst (λ (m : MapId). HoldsAtDoor d m.lane.0 (MemAlloc m limits) reply e) id held in
    let brings : BringsNew l reply =
    holds-new l d e (MemAlloc (named l l.place) limits) reply c.requires.served c.requires.wired.laid own in
    let size = alloc-count d e h.id.0 (named l l.place) limits _ (length c.in-Some.pages.items) own in
    λ first is. subst (λ x. IsNewRun x first (length c.in-Some.pages.items)) (sym room)
    (subst (λ f. IsNewRun l f (length c.in-Some.pages.items))
    (first-of-run (length c.in-Some.pages.items) first (page_addresses c.in-Some.pages.items)
    (subst (λ q. 1 ≤ q) (sym size) (frames-some limits.maxsize)) is) brings)

pub returns-clause-done : goal.returns-clause-done
returns-clause-done g c =
    let h = c.args.holdings.now in
    let l = ideal_of h in
    let n = c.reserve_memory.new.holdings in
    let d = g.D.HubDoor.seen c.args.door.now in
    let e = g.D.HubDoor.seen c.mem_alloc.new.self in
    let limits = c.args.limits.now in
    let pages = page_addresses c.in-Some.pages.items in
    let count = length c.in-Some.pages.items in
    let room : ideal_of n ≡ l = room-ideal h n c.reserve_memory.ensures.rest in
    let id : c.map_id-id.result ≡ named l l.place =
    c.map_id-id.ensures ∙ ap (λ q. named (ideal_of n) q) c.place.ensures
    ∙ ap (λ (x : LaneState). named x x.place) room in
    let t = told-some (λ (x : KeptTag). x.tag) (get h.tags.map c.args.tag) limits c.requires.tag in
    let asks : dmamem c.args.tag c.args.flags l
    ≡ Asks (MemAlloc (named l l.place) limits) (memories.memory_by_reply c.args.tag limits c.args.flags l) =
    make-asks l c.args.tag c.args.flags (tag_of t.0) (image-some tag_of h.tags.map c.args.tag t.0 t.1)
    ∙ ap (λ x. Asks (MemAlloc (named l l.place) x) (memories.memory_by_reply c.args.tag x c.args.flags l)) t.2 in
    let reply = memory_reply (Some c.in-Some.pages) in
    let held : HoldsAtDoor d c.map_id-id.result.lane.0 (MemAlloc c.map_id-id.result limits) reply e =
    subst (λ o. HoldsAtDoor d c.map_id-id.result.lane.0 (MemAlloc c.map_id-id.result limits) (memory_reply o) e)
    c.in-Some.is c.in_ok-pages.ensures.held in
    let own = subst (λ (m : MapId). HoldsAtDoor d m.lane.0 (MemAlloc m limits) reply e) id held in
    let first = slice_index_or pages 0 0 in
    let size = alloc-count d e h.id.0 (named l l.place) limits first count own in
    let rising = subst (λ o. IfSome o (λ (ps : RoomyPages). IsRow (page_addresses ps.items))) c.in-Some.is
    c.in_ok-pages.ensures.row in
    let row : pages ≡ frames_from count first =
    row_is pages rising ∙ ap (λ q. frames_from q first) (length-map c.in-Some.pages.items page_address) in
    done-asks d h.id.0 (dmamem c.args.tag c.args.flags l) (MemAlloc (named l l.place) limits)
    (memories.memory_by_reply c.args.tag limits c.args.flags l) (given c.keep_memory.new.holdings c.keep_memory.result)
    e asks
    (record {
      reply = reply;
      holds = own;
      is = c.keep_memory.ensures.done first row
          ∙ ap (λ (x : LaneState). record {
            lane = with_memory (ideal_memory c.args.tag first limits.maxsize c.args.flags) (zero_filled c.args.flags) x;
            answer = Placed (record { 0 = first });
          }) room
          ∙ sym (placed-memory l c.args.tag first count limits c.args.flags size);
    })

pub returns-clause-bytes : goal.returns-clause-bytes
returns-clause-bytes g c =
    beside-after c.args.holdings.now c.reserve_memory.new.holdings c.keep_memory.new.holdings
    (room-state c.args.holdings.now c.reserve_memory.new.holdings c.reserve_memory.ensures.rest)
    c.keep_memory.ensures.bytes
