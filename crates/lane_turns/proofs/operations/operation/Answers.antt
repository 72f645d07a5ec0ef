use Rattle.std.proofs.Common.{◌≡◌, ◌≤◌, ◌+◌, IfOk, Some, length, refl, ap, sym, ◌∙◌, subst, arith}
use Rattle.busdma_base.specs.declared.scenarios.script.Op.{Op}
use Rattle.busdma_base.specs.Scenarios.Operations.{items_of}
use Rattle.ideal_lane.specs.Accesses.{cpu_write}
use Rattle.ideal_lane.specs.Turns.{operation}
use Rattle.ideal_wire.specs.WireStep as wires
use Rattle.lane_state.specs.Doing.{IsAllowedBy, IsDone, asks}
use Rattle.lane_state.specs.Ideal.{given, ideal_of}
use Rattle.lane_state.specs.Kept.{map_of, memory_of, kept_ring, tag_of}
use Rattle.lane_state.specs.SmallLoads.{loaded_once}
use Rattle.lane_state.specs.Wire.{wire_of}
use Rattle.lane_state.proofs.Doors.{always-ok, ok-weak}
use Rattle.lane_state.proofs.Following.{stays-all, stays-held}
use Rattle.lane_turns.proofs.ScriptTurns.{few-items}
use Rattle.lane_state.proofs.OperationSteps.{beside-wire, done-wire, paged-wire, quiet-done, quiet-held, vacant}
use Rattle.lane_state.proofs.Keeping.{tags-bytes}
use Rattle.lane_turns.proofs.Promises.{IsStillOp, done-promise, either-promise, state-promise}
use Rattle.lane_turns.proofs.operations.operation.Goals as goal

pub make_tag-requires-clause-allowed : goal.make_tag-requires-clause-allowed
make_tag-requires-clause-allowed g c =
    let h = c.args.holdings.now in
    subst (λ (o : Op). IsAllowedBy (g.D.HubDoor.seen c.args.door.now) h.id.0 (operation o (ideal_of h))) c.in-Tag.is
    c.requires.allowed

pub returns-in-Tag-clause-done : goal.returns-in-Tag-clause-done
returns-in-Tag-clause-done g c =
    let h = c.args.holdings.now in
    subst (λ (o : Op). IfOk c.make_tag.result (λ r. IsDone (g.D.HubDoor.seen c.args.door.now) h.id.0
    (operation o (ideal_of h)) (given c.make_tag.new.holdings r.answer) (g.D.HubDoor.seen c.make_tag.new.door)))
    (sym c.in-Tag.is) c.make_tag.ensures.done

pub returns-in-Tag-clause-held : goal.returns-in-Tag-clause-held
returns-in-Tag-clause-held g c =
    let h = c.args.holdings.now in
    subst (λ (o : Op). IfOk c.make_tag.result (λ r. r.held ≡ asks (operation o (ideal_of h)))) (sym c.in-Tag.is)
    c.make_tag.ensures.held

pub returns-in-Tag-clause-wire : goal.returns-in-Tag-clause-wire
returns-in-Tag-clause-wire g c =
    always-ok c.make_tag.result (paged-wire c.args.holdings.now c.make_tag.new.holdings c.args.op.now _ c.in-Tag.is
    c.make_tag.ensures.memories refl
    (stays-all c.args.holdings.now c.make_tag.new.holdings c.make_tag.ensures.bytes))

pub make_map-requires-clause-allowed : goal.make_map-requires-clause-allowed
make_map-requires-clause-allowed g c =
    let h = c.args.holdings.now in
    subst (λ (o : Op). IsAllowedBy (g.D.HubDoor.seen c.args.door.now) h.id.0 (operation o (ideal_of h))) c.in-Map.is
    c.requires.allowed

pub returns-in-Map-clause-done : goal.returns-in-Map-clause-done
returns-in-Map-clause-done g c =
    let h = c.args.holdings.now in
    subst (λ (o : Op). IfOk c.make_map.result (λ r. IsDone (g.D.HubDoor.seen c.args.door.now) h.id.0
    (operation o (ideal_of h)) (given c.make_map.new.holdings r.answer) (g.D.HubDoor.seen c.make_map.new.door)))
    (sym c.in-Map.is) c.make_map.ensures.done

pub returns-in-Map-clause-held : goal.returns-in-Map-clause-held
returns-in-Map-clause-held g c =
    let h = c.args.holdings.now in
    subst (λ (o : Op). IfOk c.make_map.result (λ r. r.held ≡ asks (operation o (ideal_of h)))) (sym c.in-Map.is)
    c.make_map.ensures.held

pub returns-in-Map-clause-wire : goal.returns-in-Map-clause-wire
returns-in-Map-clause-wire g c =
    always-ok c.make_map.result (paged-wire c.args.holdings.now c.make_map.new.holdings c.args.op.now _ c.in-Map.is
    c.make_map.ensures.memories refl
    (stays-all c.args.holdings.now c.make_map.new.holdings c.make_map.ensures.bytes))

pub make_memory-requires-clause-allowed : goal.make_memory-requires-clause-allowed
make_memory-requires-clause-allowed g c =
    let h = c.args.holdings.now in
    subst (λ (o : Op). IsAllowedBy (g.D.HubDoor.seen c.args.door.now) h.id.0 (operation o (ideal_of h)))
    c.in-Dmamem.is c.requires.allowed

pub returns-in-Dmamem-clause-done : goal.returns-in-Dmamem-clause-done
returns-in-Dmamem-clause-done g c =
    let h = c.args.holdings.now in
    subst (λ (o : Op). IfOk c.make_memory.result (λ r. IsDone (g.D.HubDoor.seen c.args.door.now) h.id.0
    (operation o (ideal_of h)) (given c.make_memory.new.holdings r.answer) (g.D.HubDoor.seen c.make_memory.new.door)))
    (sym c.in-Dmamem.is) c.make_memory.ensures.done

pub returns-in-Dmamem-clause-held : goal.returns-in-Dmamem-clause-held
returns-in-Dmamem-clause-held g c =
    let h = c.args.holdings.now in
    subst (λ (o : Op). IfOk c.make_memory.result (λ r. r.held ≡ asks (operation o (ideal_of h))))
    (sym c.in-Dmamem.is) c.make_memory.ensures.held

pub returns-in-Dmamem-clause-wire : goal.returns-in-Dmamem-clause-wire
returns-in-Dmamem-clause-wire g c =
    ok-weak c.make_memory.result
    (beside-wire c.args.holdings.now c.make_memory.new.holdings c.args.op.now _ c.in-Dmamem.is refl)
    c.make_memory.ensures.bytes

pub end_memory-requires-clause-allowed : goal.end_memory-requires-clause-allowed
end_memory-requires-clause-allowed g c =
    let h = c.args.holdings.now in
    subst (λ (o : Op). IsAllowedBy (g.D.HubDoor.seen c.args.door.now) h.id.0 (operation o (ideal_of h)))
    c.in-DmamemFree.is c.requires.allowed

pub returns-in-DmamemFree-clause-done : goal.returns-in-DmamemFree-clause-done
returns-in-DmamemFree-clause-done g c =
    let h = c.args.holdings.now in
    subst (λ (o : Op). IfOk c.end_memory.result (λ r. IsDone (g.D.HubDoor.seen c.args.door.now) h.id.0
    (operation o (ideal_of h)) (given c.end_memory.new.holdings r.answer) (g.D.HubDoor.seen c.end_memory.new.door)))
    (sym c.in-DmamemFree.is) c.end_memory.ensures.done

pub returns-in-DmamemFree-clause-held : goal.returns-in-DmamemFree-clause-held
returns-in-DmamemFree-clause-held g c =
    let h = c.args.holdings.now in
    subst (λ (o : Op). IfOk c.end_memory.result (λ r. r.held ≡ asks (operation o (ideal_of h))))
    (sym c.in-DmamemFree.is) c.end_memory.ensures.held

pub returns-in-DmamemFree-clause-wire : goal.returns-in-DmamemFree-clause-wire
returns-in-DmamemFree-clause-wire g c =
    ok-weak c.end_memory.result
    (beside-wire c.args.holdings.now c.end_memory.new.holdings c.args.op.now _ c.in-DmamemFree.is refl)
    c.end_memory.ensures.bytes

pub make_memory-requires-clause-no_map : goal.make_memory-requires-clause-no_map
make_memory-requires-clause-no_map g c =
    let h = c.args.holdings.now in
    vacant map_of h.maps.map h.agenda.place (c.requires.stands.no_map h.agenda.place (omega arith))

pub make_memory-requires-clause-vacant : goal.make_memory-requires-clause-vacant
make_memory-requires-clause-vacant g c =
    let h = c.args.holdings.now in
    vacant memory_of h.memories.map h.agenda.place (c.requires.stands.no_memory h.agenda.place (omega arith))

pub load_buffer-requires-clause-here : goal.load_buffer-requires-clause-here
load_buffer-requires-clause-here g c = c.requires.here ∙ ap (λ (o : Op). Some o) c.in-Load.is

pub load_buffer-requires-clause-few_items : goal.load_buffer-requires-clause-few_items
load_buffer-requires-clause-few_items g c =
    let h = c.args.holdings.now in
    subst (λ (o : Op). length (items_of o) ≤ h.agenda.room) c.in-Load.is
    (few-items h c.args.op.now c.requires.here c.requires.room)

pub load_buffer-requires-clause-allowed : goal.load_buffer-requires-clause-allowed
load_buffer-requires-clause-allowed g c =
    let h = c.args.holdings.now in
    subst (λ (o : Op). IsAllowedBy (g.D.HubDoor.seen c.args.door.now) h.id.0 (operation o (ideal_of h))) c.in-Load.is
    c.requires.allowed

pub returns-in-Load-clause-done : goal.returns-in-Load-clause-done
returns-in-Load-clause-done g c =
    let h = c.args.holdings.now in
    subst (λ (o : Op). IfOk c.load_buffer.result (λ r. IsDone (g.D.HubDoor.seen c.args.door.now) h.id.0
    (operation o (ideal_of h)) (given c.load_buffer.new.holdings r.answer) (g.D.HubDoor.seen c.load_buffer.new.door)))
    (sym c.in-Load.is) c.load_buffer.ensures.done

pub returns-in-Load-clause-held : goal.returns-in-Load-clause-held
returns-in-Load-clause-held g c =
    let h = c.args.holdings.now in
    subst (λ (o : Op). IfOk c.load_buffer.result (λ r. r.held ≡ asks (operation o (ideal_of h)))) (sym c.in-Load.is)
    c.load_buffer.ensures.held

pub returns-in-Load-clause-wire : goal.returns-in-Load-clause-wire
returns-in-Load-clause-wire g c =
    always-ok c.load_buffer.result (paged-wire c.args.holdings.now c.load_buffer.new.holdings c.args.op.now _
    c.in-Load.is
    c.load_buffer.ensures.memories refl
    c.load_buffer.ensures.bytes)

pub returns-in-Load-clause-promised : goal.returns-in-Load-clause-promised
returns-in-Load-clause-promised g c =
    let h = c.args.holdings.now in
    subst (λ n. c.load_buffer.new.holdings.agenda.promised ≤ h.agenda.promised + n) (sym (ap loaded_once c.in-Load.is))
    c.load_buffer.ensures.promised

pub destroy_map-requires : goal.destroy_map-requires
destroy_map-requires g c =
    let h = c.args.holdings.now in
    subst (λ (o : Op). IsAllowedBy (g.D.HubDoor.seen c.args.door.now) h.id.0 (operation o (ideal_of h)))
    c.in-MapDestroy.is
    c.requires.allowed

pub returns-in-MapDestroy-clause-done : goal.returns-in-MapDestroy-clause-done
returns-in-MapDestroy-clause-done g c =
    let h = c.args.holdings.now in
    subst (λ (o : Op). IsDone (g.D.HubDoor.seen c.args.door.now) h.id.0 (operation o (ideal_of h))
    (given c.destroy_map.new.holdings c.destroy_map.result.answer) (g.D.HubDoor.seen c.destroy_map.new.door))
    (sym c.in-MapDestroy.is)
    c.destroy_map.ensures.done

pub returns-in-MapDestroy-clause-held : goal.returns-in-MapDestroy-clause-held
returns-in-MapDestroy-clause-held g c =
    subst (λ (o : Op). c.destroy_map.result.held ≡ asks (operation o (ideal_of c.args.holdings.now)))
    (sym c.in-MapDestroy.is)
    c.destroy_map.ensures.held

pub returns-in-MapDestroy-clause-wire : goal.returns-in-MapDestroy-clause-wire
returns-in-MapDestroy-clause-wire g c =
    paged-wire c.args.holdings.now c.destroy_map.new.holdings c.args.op.now _ c.in-MapDestroy.is
    c.destroy_map.ensures.memories refl
    (stays-all c.args.holdings.now c.destroy_map.new.holdings c.destroy_map.ensures.bytes)

pub returns-in-TagDestroy-clause-done : goal.returns-in-TagDestroy-clause-done
returns-in-TagDestroy-clause-done g c =
    quiet-done c.args.holdings.now c.destroy_tag.new.holdings c.args.op.now _ c.in-TagDestroy.is c.destroy_tag.result
    c.unheld-in-TagDestroy.result
    c.unheld-in-TagDestroy.ensures c.destroy_tag.ensures.done (g.D.HubDoor.seen c.args.door.now)

pub returns-in-TagDestroy-clause-held : goal.returns-in-TagDestroy-clause-held
returns-in-TagDestroy-clause-held g c =
    quiet-held c.args.holdings.now c.destroy_tag.new.holdings c.args.op.now _ c.in-TagDestroy.is c.destroy_tag.result
    c.unheld-in-TagDestroy.result
    c.unheld-in-TagDestroy.ensures c.destroy_tag.ensures.done

pub returns-in-TagDestroy-clause-wire : goal.returns-in-TagDestroy-clause-wire
returns-in-TagDestroy-clause-wire g c =
    paged-wire c.args.holdings.now c.destroy_tag.new.holdings c.args.op.now _ c.in-TagDestroy.is
    c.destroy_tag.ensures.memories refl
    (stays-all c.args.holdings.now c.destroy_tag.new.holdings c.destroy_tag.ensures.bytes)

pub returns-in-Unload-clause-done : goal.returns-in-Unload-clause-done
returns-in-Unload-clause-done g c =
    quiet-done c.args.holdings.now c.unload.new.holdings c.args.op.now _ c.in-Unload.is c.unload.result
    c.unheld-in-Unload.result
    c.unheld-in-Unload.ensures c.unload.ensures.done (g.D.HubDoor.seen c.args.door.now)

pub returns-in-Unload-clause-held : goal.returns-in-Unload-clause-held
returns-in-Unload-clause-held g c =
    quiet-held c.args.holdings.now c.unload.new.holdings c.args.op.now _ c.in-Unload.is c.unload.result
    c.unheld-in-Unload.result
    c.unheld-in-Unload.ensures c.unload.ensures.done

pub returns-in-Unload-clause-wire : goal.returns-in-Unload-clause-wire
returns-in-Unload-clause-wire g c =
    paged-wire c.args.holdings.now c.unload.new.holdings c.args.op.now _ c.in-Unload.is
    c.unload.ensures.memories refl
    (stays-held c.args.holdings.now c.unload.new.holdings c.unload.ensures.bytes)

pub returns-in_ok-sync-in-Sync-clause-done : goal.returns-in_ok-sync-in-Sync-clause-done
returns-in_ok-sync-in-Sync-clause-done g c =
    quiet-done c.args.holdings.now c.sync.new.holdings c.args.op.now _ c.in-Sync.is c.in_ok-sync-in-Sync.field-0
    c.unheld-in-Sync.result
    c.unheld-in-Sync.ensures c.in_ok-sync-in-Sync.ensures.done (g.D.HubDoor.seen c.args.door.now)

pub returns-in_ok-sync-in-Sync-clause-held : goal.returns-in_ok-sync-in-Sync-clause-held
returns-in_ok-sync-in-Sync-clause-held g c =
    quiet-held c.args.holdings.now c.sync.new.holdings c.args.op.now _ c.in-Sync.is c.in_ok-sync-in-Sync.field-0
    c.unheld-in-Sync.result
    c.unheld-in-Sync.ensures c.in_ok-sync-in-Sync.ensures.done

pub returns-in_ok-sync-in-Sync-clause-wire : goal.returns-in_ok-sync-in-Sync-clause-wire
returns-in_ok-sync-in-Sync-clause-wire g c =
    done-wire c.args.holdings.now c.sync.new.holdings c.args.op.now _ c.in-Sync.is c.sync.ensures.memories
    c.in_ok-sync-in-Sync.ensures.wire

pub returns-in_ok-sync_range-in-SyncRange-clause-done : goal.returns-in_ok-sync_range-in-SyncRange-clause-done
returns-in_ok-sync_range-in-SyncRange-clause-done g c =
    quiet-done c.args.holdings.now c.sync_range.new.holdings c.args.op.now _ c.in-SyncRange.is
    c.in_ok-sync_range-in-SyncRange.field-0 c.unheld-in-SyncRange.result
    c.unheld-in-SyncRange.ensures c.in_ok-sync_range-in-SyncRange.ensures.done (g.D.HubDoor.seen c.args.door.now)

pub returns-in_ok-sync_range-in-SyncRange-clause-held : goal.returns-in_ok-sync_range-in-SyncRange-clause-held
returns-in_ok-sync_range-in-SyncRange-clause-held g c =
    quiet-held c.args.holdings.now c.sync_range.new.holdings c.args.op.now _ c.in-SyncRange.is
    c.in_ok-sync_range-in-SyncRange.field-0 c.unheld-in-SyncRange.result
    c.unheld-in-SyncRange.ensures c.in_ok-sync_range-in-SyncRange.ensures.done

pub returns-in_ok-sync_range-in-SyncRange-clause-wire : goal.returns-in_ok-sync_range-in-SyncRange-clause-wire
returns-in_ok-sync_range-in-SyncRange-clause-wire g c =
    done-wire c.args.holdings.now c.sync_range.new.holdings c.args.op.now _ c.in-SyncRange.is
    c.sync_range.ensures.memories
    c.in_ok-sync_range-in-SyncRange.ensures.wire

pub returns-in_ok-cpu_read-in-CpuRead-clause-done : goal.returns-in_ok-cpu_read-in-CpuRead-clause-done
returns-in_ok-cpu_read-in-CpuRead-clause-done g c =
    quiet-done c.args.holdings.now c.args.holdings.now c.args.op.now _ c.in-CpuRead.is
    c.in_ok-cpu_read-in-CpuRead.field-0
    c.unheld-in-CpuRead.result
    c.unheld-in-CpuRead.ensures c.in_ok-cpu_read-in-CpuRead.ensures (g.D.HubDoor.seen c.args.door.now)

pub returns-in_ok-cpu_read-in-CpuRead-clause-held : goal.returns-in_ok-cpu_read-in-CpuRead-clause-held
returns-in_ok-cpu_read-in-CpuRead-clause-held g c =
    quiet-held c.args.holdings.now c.args.holdings.now c.args.op.now _ c.in-CpuRead.is
    c.in_ok-cpu_read-in-CpuRead.field-0
    c.unheld-in-CpuRead.result
    c.unheld-in-CpuRead.ensures c.in_ok-cpu_read-in-CpuRead.ensures

pub returns-in_ok-cpu_read-in-CpuRead-clause-wire : goal.returns-in_ok-cpu_read-in-CpuRead-clause-wire
returns-in_ok-cpu_read-in-CpuRead-clause-wire g c =
    done-wire c.args.holdings.now c.args.holdings.now c.args.op.now _ c.in-CpuRead.is refl refl

pub returns-in_ok-cpu_write-in-CpuWrite-clause-done : goal.returns-in_ok-cpu_write-in-CpuWrite-clause-done
returns-in_ok-cpu_write-in-CpuWrite-clause-done g c =
    quiet-done c.args.holdings.now c.cpu_write.new.holdings c.args.op.now _ c.in-CpuWrite.is
    c.in_ok-cpu_write-in-CpuWrite.field-0 c.unheld-in-CpuWrite.result
    c.unheld-in-CpuWrite.ensures (c.in_ok-cpu_write-in-CpuWrite.ensures.done
    ∙ ap (λ vs. cpu_write c.in-CpuWrite.place vs (ideal_of c.args.holdings.now))
    (c.deref.ensures.value ∙ c.in_ok-bytes-in-CpuWrite.ensures)) (g.D.HubDoor.seen c.args.door.now)

pub returns-in_ok-cpu_write-in-CpuWrite-clause-held : goal.returns-in_ok-cpu_write-in-CpuWrite-clause-held
returns-in_ok-cpu_write-in-CpuWrite-clause-held g c =
    quiet-held c.args.holdings.now c.cpu_write.new.holdings c.args.op.now _ c.in-CpuWrite.is
    c.in_ok-cpu_write-in-CpuWrite.field-0 c.unheld-in-CpuWrite.result
    c.unheld-in-CpuWrite.ensures (c.in_ok-cpu_write-in-CpuWrite.ensures.done
    ∙ ap (λ vs. cpu_write c.in-CpuWrite.place vs (ideal_of c.args.holdings.now))
    (c.deref.ensures.value ∙ c.in_ok-bytes-in-CpuWrite.ensures))

pub returns-in_ok-cpu_write-in-CpuWrite-clause-wire : goal.returns-in_ok-cpu_write-in-CpuWrite-clause-wire
returns-in_ok-cpu_write-in-CpuWrite-clause-wire g c =
    done-wire c.args.holdings.now c.cpu_write.new.holdings c.args.op.now _ c.in-CpuWrite.is c.cpu_write.ensures.memories
    (c.in_ok-cpu_write-in-CpuWrite.ensures.wire
    ∙ ap (λ vs. wires.wire_cpu_write c.in-CpuWrite.place vs (ideal_of c.args.holdings.now)
    (wire_of c.args.holdings.now))
    (c.deref.ensures.value ∙ c.in_ok-bytes-in-CpuWrite.ensures))

pub returns-in-Await-clause-done : goal.returns-in-Await-clause-done
returns-in-Await-clause-done g c =
    quiet-done c.args.holdings.now c.args.holdings.now c.args.op.now _ c.in-Await.is c.await_map.result
    c.unheld-in-Await.result
    c.unheld-in-Await.ensures c.await_map.ensures (g.D.HubDoor.seen c.args.door.now)

pub returns-in-Await-clause-held : goal.returns-in-Await-clause-held
returns-in-Await-clause-held g c =
    quiet-held c.args.holdings.now c.args.holdings.now c.args.op.now _ c.in-Await.is c.await_map.result
    c.unheld-in-Await.result
    c.unheld-in-Await.ensures c.await_map.ensures

pub returns-in-Await-clause-wire : goal.returns-in-Await-clause-wire
returns-in-Await-clause-wire g c =
    done-wire c.args.holdings.now c.args.holdings.now c.args.op.now _ c.in-Await.is refl refl

pub make_tag-requires-clause-vacant : goal.make_tag-requires-clause-vacant
make_tag-requires-clause-vacant g c =
    let h = c.args.holdings.now in
    vacant tag_of h.tags.map h.agenda.place (c.requires.stands.no_tag h.agenda.place (omega arith))

pub make_map-requires-clause-vacant : goal.make_map-requires-clause-vacant
make_map-requires-clause-vacant g c =
    let h = c.args.holdings.now in
    vacant map_of h.maps.map h.agenda.place (c.requires.stands.no_map h.agenda.place (omega arith))

pub returns-in-Tag-clause-due : goal.returns-in-Tag-clause-due
returns-in-Tag-clause-due g c =
    either-promise c.args.holdings.now c.make_tag.new.holdings c.requires.stands c.args.op.now
    (g.D.HubDoor.seen c.args.door.now)
    (g.D.HubDoor.seen c.make_tag.new.door) c.make_tag.result (returns-in-Tag-clause-done g c) c.make_tag.ensures.err
    (subst IsStillOp (sym c.in-Tag.is) tt) c.make_tag.ensures.agenda

pub returns-in-Map-clause-due : goal.returns-in-Map-clause-due
returns-in-Map-clause-due g c =
    either-promise c.args.holdings.now c.make_map.new.holdings c.requires.stands c.args.op.now
    (g.D.HubDoor.seen c.args.door.now)
    (g.D.HubDoor.seen c.make_map.new.door) c.make_map.result (returns-in-Map-clause-done g c) c.make_map.ensures.err
    (subst IsStillOp (sym c.in-Map.is) tt) c.make_map.ensures.agenda

pub returns-in-Dmamem-clause-due : goal.returns-in-Dmamem-clause-due
returns-in-Dmamem-clause-due g c =
    either-promise c.args.holdings.now c.make_memory.new.holdings c.requires.stands c.args.op.now
    (g.D.HubDoor.seen c.args.door.now)
    (g.D.HubDoor.seen c.make_memory.new.door) c.make_memory.result (returns-in-Dmamem-clause-done g c)
    c.make_memory.ensures.err
    (subst IsStillOp (sym c.in-Dmamem.is) tt) c.make_memory.ensures.agenda

pub returns-in-DmamemFree-clause-due : goal.returns-in-DmamemFree-clause-due
returns-in-DmamemFree-clause-due g c =
    either-promise c.args.holdings.now c.end_memory.new.holdings c.requires.stands c.args.op.now
    (g.D.HubDoor.seen c.args.door.now)
    (g.D.HubDoor.seen c.end_memory.new.door) c.end_memory.result (returns-in-DmamemFree-clause-done g c)
    c.end_memory.ensures.err
    (subst IsStillOp (sym c.in-DmamemFree.is) tt) c.end_memory.ensures.agenda

pub returns-in-MapDestroy-clause-due : goal.returns-in-MapDestroy-clause-due
returns-in-MapDestroy-clause-due g c =
    done-promise c.args.holdings.now c.destroy_map.new.holdings c.requires.stands c.args.op.now
    c.destroy_map.result.answer
    (g.D.HubDoor.seen c.args.door.now) (g.D.HubDoor.seen c.destroy_map.new.door)
    (returns-in-MapDestroy-clause-done g c) (subst IsStillOp (sym c.in-MapDestroy.is) tt)
    (ap (λ a. a.promised) c.destroy_map.ensures.agenda)

pub returns-in-TagDestroy-clause-due : goal.returns-in-TagDestroy-clause-due
returns-in-TagDestroy-clause-due g c =
    done-promise c.args.holdings.now c.destroy_tag.new.holdings c.requires.stands c.args.op.now
    c.unheld-in-TagDestroy.result.answer
    (g.D.HubDoor.seen c.args.door.now) (g.D.HubDoor.seen c.args.door.now)
    (returns-in-TagDestroy-clause-done g c) (subst IsStillOp (sym c.in-TagDestroy.is) tt)
    (ap (λ a. a.promised) c.destroy_tag.ensures.agenda)

pub returns-in_ok-sync-in-Sync-clause-due : goal.returns-in_ok-sync-in-Sync-clause-due
returns-in_ok-sync-in-Sync-clause-due g c =
    done-promise c.args.holdings.now c.sync.new.holdings c.requires.stands c.args.op.now c.unheld-in-Sync.result.answer
    (g.D.HubDoor.seen c.args.door.now) (g.D.HubDoor.seen c.args.door.now)
    (returns-in_ok-sync-in-Sync-clause-done g c) (subst IsStillOp (sym c.in-Sync.is) tt)
    (ap (λ a. a.promised) c.sync.ensures.agenda)

pub returns-in_err-sync-in-Sync-clause-due : goal.returns-in_err-sync-in-Sync-clause-due
returns-in_err-sync-in-Sync-clause-due g c =
    state-promise c.args.holdings.now c.sync.new.holdings (ap (λ a. a.promised) c.sync.ensures.agenda)
    c.in_err-sync-in-Sync.ensures.err

pub returns-in_ok-sync_range-in-SyncRange-clause-due : goal.returns-in_ok-sync_range-in-SyncRange-clause-due
returns-in_ok-sync_range-in-SyncRange-clause-due g c =
    done-promise c.args.holdings.now c.sync_range.new.holdings c.requires.stands c.args.op.now
    c.unheld-in-SyncRange.result.answer
    (g.D.HubDoor.seen c.args.door.now) (g.D.HubDoor.seen c.args.door.now)
    (returns-in_ok-sync_range-in-SyncRange-clause-done g c) (subst IsStillOp (sym c.in-SyncRange.is) tt)
    (ap (λ a. a.promised) c.sync_range.ensures.agenda)

pub returns-in_err-sync_range-in-SyncRange-clause-due : goal.returns-in_err-sync_range-in-SyncRange-clause-due
returns-in_err-sync_range-in-SyncRange-clause-due g c =
    state-promise c.args.holdings.now c.sync_range.new.holdings (ap (λ a. a.promised) c.sync_range.ensures.agenda)
    c.in_err-sync_range-in-SyncRange.ensures.err

pub returns-in_ok-cpu_write-in-CpuWrite-clause-due : goal.returns-in_ok-cpu_write-in-CpuWrite-clause-due
returns-in_ok-cpu_write-in-CpuWrite-clause-due g c =
    done-promise c.args.holdings.now c.cpu_write.new.holdings c.requires.stands c.args.op.now
    c.unheld-in-CpuWrite.result.answer
    (g.D.HubDoor.seen c.args.door.now) (g.D.HubDoor.seen c.args.door.now)
    (returns-in_ok-cpu_write-in-CpuWrite-clause-done g c) (subst IsStillOp (sym c.in-CpuWrite.is) tt)
    (ap (λ a. a.promised) c.cpu_write.ensures.agenda)

pub returns-in_err-cpu_write-in-CpuWrite-clause-due : goal.returns-in_err-cpu_write-in-CpuWrite-clause-due
returns-in_err-cpu_write-in-CpuWrite-clause-due g c =
    state-promise c.args.holdings.now c.cpu_write.new.holdings (ap (λ a. a.promised) c.cpu_write.ensures.agenda)
    c.in_err-cpu_write-in-CpuWrite.ensures.err

pub make_iommu_tag-requires-clause-vacant : goal.make_iommu_tag-requires-clause-vacant
make_iommu_tag-requires-clause-vacant g c =
    let h = c.args.holdings.now in
    vacant tag_of h.tags.map h.agenda.place (c.requires.stands.no_tag h.agenda.place (omega arith))

pub returns-in_ok-make_iommu_tag-in-IommuTag-clause-done : goal.returns-in_ok-make_iommu_tag-in-IommuTag-clause-done
returns-in_ok-make_iommu_tag-in-IommuTag-clause-done g c =
    quiet-done c.args.holdings.now c.make_iommu_tag.new.holdings c.args.op.now _ c.in-IommuTag.is
    c.in_ok-make_iommu_tag-in-IommuTag.field-0 c.unheld.result
    c.unheld.ensures c.in_ok-make_iommu_tag-in-IommuTag.ensures.done (g.D.HubDoor.seen c.args.door.now)

pub returns-in_ok-make_iommu_tag-in-IommuTag-clause-held : goal.returns-in_ok-make_iommu_tag-in-IommuTag-clause-held
returns-in_ok-make_iommu_tag-in-IommuTag-clause-held g c =
    quiet-held c.args.holdings.now c.make_iommu_tag.new.holdings c.args.op.now _ c.in-IommuTag.is
    c.in_ok-make_iommu_tag-in-IommuTag.field-0 c.unheld.result
    c.unheld.ensures c.in_ok-make_iommu_tag-in-IommuTag.ensures.done

pub returns-in_ok-make_iommu_tag-in-IommuTag-clause-wire : goal.returns-in_ok-make_iommu_tag-in-IommuTag-clause-wire
returns-in_ok-make_iommu_tag-in-IommuTag-clause-wire g c =
    paged-wire c.args.holdings.now c.make_iommu_tag.new.holdings c.args.op.now _ c.in-IommuTag.is
    c.make_iommu_tag.ensures.rest.most.memories refl
    (stays-all c.args.holdings.now c.make_iommu_tag.new.holdings
    (tags-bytes c.args.holdings.now c.make_iommu_tag.new.holdings c.make_iommu_tag.ensures.rest))

pub returns-in_ok-make_iommu_tag-in-IommuTag-clause-due : goal.returns-in_ok-make_iommu_tag-in-IommuTag-clause-due
returns-in_ok-make_iommu_tag-in-IommuTag-clause-due g c =
    done-promise c.args.holdings.now c.make_iommu_tag.new.holdings c.requires.stands c.args.op.now
    c.unheld.result.answer (g.D.HubDoor.seen c.args.door.now) (g.D.HubDoor.seen c.args.door.now)
    (returns-in_ok-make_iommu_tag-in-IommuTag-clause-done g c) (subst IsStillOp (sym c.in-IommuTag.is) tt)
    (ap (λ a. a.promised) c.make_iommu_tag.ensures.rest.agenda)

pub returns-in_err-make_iommu_tag-in-IommuTag-clause-due : goal.returns-in_err-make_iommu_tag-in-IommuTag-clause-due
returns-in_err-make_iommu_tag-in-IommuTag-clause-due g c =
    state-promise c.args.holdings.now c.make_iommu_tag.new.holdings
    (ap (λ a. a.promised) c.make_iommu_tag.ensures.rest.agenda) c.in_err-make_iommu_tag-in-IommuTag.ensures.err

pub make_ring-requires-clause-vacant : goal.make_ring-requires-clause-vacant
make_ring-requires-clause-vacant g c =
    let h = c.args.holdings.now in
    vacant kept_ring h.rings.map h.agenda.place (c.requires.stands.no_ring h.agenda.place (omega arith))

pub returns-in_ok-make_ring-in-Ring-clause-done : goal.returns-in_ok-make_ring-in-Ring-clause-done
returns-in_ok-make_ring-in-Ring-clause-done g c =
    quiet-done c.args.holdings.now c.make_ring.new.holdings c.args.op.now _ c.in-Ring.is
    c.in_ok-make_ring-in-Ring.field-0 c.unheld-in-Ring.result
    c.unheld-in-Ring.ensures c.in_ok-make_ring-in-Ring.ensures.done (g.D.HubDoor.seen c.args.door.now)

pub returns-in_ok-make_ring-in-Ring-clause-held : goal.returns-in_ok-make_ring-in-Ring-clause-held
returns-in_ok-make_ring-in-Ring-clause-held g c =
    quiet-held c.args.holdings.now c.make_ring.new.holdings c.args.op.now _ c.in-Ring.is
    c.in_ok-make_ring-in-Ring.field-0 c.unheld-in-Ring.result
    c.unheld-in-Ring.ensures c.in_ok-make_ring-in-Ring.ensures.done

pub returns-in_ok-make_ring-in-Ring-clause-wire : goal.returns-in_ok-make_ring-in-Ring-clause-wire
returns-in_ok-make_ring-in-Ring-clause-wire g c =
    paged-wire c.args.holdings.now c.make_ring.new.holdings c.args.op.now _ c.in-Ring.is
    c.make_ring.ensures.memories refl
    (stays-all c.args.holdings.now c.make_ring.new.holdings c.make_ring.ensures.bytes)

pub returns-in_ok-make_ring-in-Ring-clause-due : goal.returns-in_ok-make_ring-in-Ring-clause-due
returns-in_ok-make_ring-in-Ring-clause-due g c =
    done-promise c.args.holdings.now c.make_ring.new.holdings c.requires.stands c.args.op.now
    c.unheld-in-Ring.result.answer (g.D.HubDoor.seen c.args.door.now) (g.D.HubDoor.seen c.args.door.now)
    (returns-in_ok-make_ring-in-Ring-clause-done g c) (subst IsStillOp (sym c.in-Ring.is) tt)
    (ap (λ a. a.promised) c.make_ring.ensures.agenda)

pub returns-in_err-make_ring-in-Ring-clause-due : goal.returns-in_err-make_ring-in-Ring-clause-due
returns-in_err-make_ring-in-Ring-clause-due g c =
    state-promise c.args.holdings.now c.make_ring.new.holdings (ap (λ a. a.promised) c.make_ring.ensures.agenda)
    c.in_err-make_ring-in-Ring.ensures.err

pub returns-in_ok-post-in-RingPost-clause-done : goal.returns-in_ok-post-in-RingPost-clause-done
returns-in_ok-post-in-RingPost-clause-done g c =
    quiet-done c.args.holdings.now c.post.new.holdings c.args.op.now _ c.in-RingPost.is
    c.in_ok-post-in-RingPost.field-0 c.unheld-in-RingPost.result
    c.unheld-in-RingPost.ensures c.in_ok-post-in-RingPost.ensures.done (g.D.HubDoor.seen c.args.door.now)

pub returns-in_ok-post-in-RingPost-clause-held : goal.returns-in_ok-post-in-RingPost-clause-held
returns-in_ok-post-in-RingPost-clause-held g c =
    quiet-held c.args.holdings.now c.post.new.holdings c.args.op.now _ c.in-RingPost.is
    c.in_ok-post-in-RingPost.field-0 c.unheld-in-RingPost.result
    c.unheld-in-RingPost.ensures c.in_ok-post-in-RingPost.ensures.done

pub returns-in_ok-post-in-RingPost-clause-wire : goal.returns-in_ok-post-in-RingPost-clause-wire
returns-in_ok-post-in-RingPost-clause-wire g c =
    done-wire c.args.holdings.now c.post.new.holdings c.args.op.now _ c.in-RingPost.is c.post.ensures.memories
    c.in_ok-post-in-RingPost.ensures.wire

pub returns-in_ok-post-in-RingPost-clause-due : goal.returns-in_ok-post-in-RingPost-clause-due
returns-in_ok-post-in-RingPost-clause-due g c =
    done-promise c.args.holdings.now c.post.new.holdings c.requires.stands c.args.op.now
    c.unheld-in-RingPost.result.answer (g.D.HubDoor.seen c.args.door.now) (g.D.HubDoor.seen c.args.door.now)
    (returns-in_ok-post-in-RingPost-clause-done g c) (subst IsStillOp (sym c.in-RingPost.is) tt)
    (ap (λ a. a.promised) c.post.ensures.agenda)

pub returns-in_err-post-in-RingPost-clause-due : goal.returns-in_err-post-in-RingPost-clause-due
returns-in_err-post-in-RingPost-clause-due g c =
    state-promise c.args.holdings.now c.post.new.holdings (ap (λ a. a.promised) c.post.ensures.agenda)
    c.in_err-post-in-RingPost.ensures.err

pub kick-requires : goal.kick-requires
kick-requires g c =
    let h = c.args.holdings.now in
    let few = few-items h c.args.op.now c.requires.here c.requires.room in
    record { room = subst (λ (o : Op). length (items_of o) ≤ h.agenda.room) c.in-Kick.is few }

pub returns-in_ok-kick-in-Kick-clause-done : goal.returns-in_ok-kick-in-Kick-clause-done
returns-in_ok-kick-in-Kick-clause-done g c =
    quiet-done c.args.holdings.now c.kick.new.holdings c.args.op.now _ c.in-Kick.is
    c.in_ok-kick-in-Kick.field-0 c.unheld-in-Kick.result
    c.unheld-in-Kick.ensures c.in_ok-kick-in-Kick.ensures.done (g.D.HubDoor.seen c.args.door.now)

pub returns-in_ok-kick-in-Kick-clause-held : goal.returns-in_ok-kick-in-Kick-clause-held
returns-in_ok-kick-in-Kick-clause-held g c =
    quiet-held c.args.holdings.now c.kick.new.holdings c.args.op.now _ c.in-Kick.is
    c.in_ok-kick-in-Kick.field-0 c.unheld-in-Kick.result
    c.unheld-in-Kick.ensures c.in_ok-kick-in-Kick.ensures.done

pub returns-in_ok-kick-in-Kick-clause-wire : goal.returns-in_ok-kick-in-Kick-clause-wire
returns-in_ok-kick-in-Kick-clause-wire g c =
    paged-wire c.args.holdings.now c.kick.new.holdings c.args.op.now _ c.in-Kick.is
    c.kick.ensures.memories refl
    (stays-all c.args.holdings.now c.kick.new.holdings c.kick.ensures.bytes)

pub returns-in_ok-kick-in-Kick-clause-due : goal.returns-in_ok-kick-in-Kick-clause-due
returns-in_ok-kick-in-Kick-clause-due g c =
    done-promise c.args.holdings.now c.kick.new.holdings c.requires.stands c.args.op.now
    c.unheld-in-Kick.result.answer (g.D.HubDoor.seen c.args.door.now) (g.D.HubDoor.seen c.args.door.now)
    (returns-in_ok-kick-in-Kick-clause-done g c) (subst IsStillOp (sym c.in-Kick.is) tt) c.kick.ensures.promised

pub returns-in_err-kick-in-Kick-clause-due : goal.returns-in_err-kick-in-Kick-clause-due
returns-in_err-kick-in-Kick-clause-due g c =
    state-promise c.args.holdings.now c.kick.new.holdings c.kick.ensures.promised c.in_err-kick-in-Kick.ensures.err
