use Rattle.std.proofs.Common.{◌+◌, List, length, inl, refl, sym, ap, ◌∙◌, subst, arith}
use Rattle.busdma_machine.specs.declared.machine.address.Extent.{Extent}
use Rattle.busdma_machine.specs.Runs.{addresses}
use Rattle.ideal_lane.specs.Sends.{load_again}
use Rattle.ideal_lane.specs.State.{LaneState}
use Rattle.lane_state.specs.Covered.{pages_due}
use Rattle.lane_state.specs.Doing.{IsAllowedBy, asks}
use Rattle.lane_state.specs.Ideal.{ideal_of}
use Rattle.lane_state.specs.Sends.{the_send}
use Rattle.lane_sends.specs.Resends.{AreCopied, AreItsExtents, MayCopy}
use Rattle.lane_sends.proofs.CopiedClusters.{bytes-alike, clusters-small, its-bytes, its-clusters, share-none}
use Rattle.lane_sends.proofs.ResendSteps.{resend-allowed, resend-asks}
use Rattle.lane_sends.proofs.Resent.{due-from, failed-resend, inside-now, keeps-room, lies-now, loaded-from}
use Rattle.lane_sends.proofs.Resent.{resent-done, resent-wire, room-due, state-from, stays-from, stopped-resent}
use Rattle.lane_sends.proofs.Resent.{unmade-resend}
use Rattle.lane_sends.proofs.resends.resend.Goals as goal

pub extents-requires-2 : goal.extents-requires-2
extents-requires-2 g c =
    clusters-small c.args.holdings.now c.requires.wired (the_send c.args.resend) c.requires.due c.requires.small

pub returns-in_err-from-clause-resent : goal.returns-in_err-from-clause-resent
returns-in_err-from-clause-resent g c =
    unmade-resend (the_send c.args.resend) c.args.holdings.now (g.D.HubDoor.seen c.args.door.now)
    c.from_residual.result c.from_residual.ensures.0

pub returns-in_err-to-clause-resent : goal.returns-in_err-to-clause-resent
returns-in_err-to-clause-resent g c =
    unmade-resend (the_send c.args.resend) c.args.holdings.now (g.D.HubDoor.seen c.args.door.now)
    c.from_residual-in_err-to.result c.from_residual-in_err-to.ensures.0

pub refusal_of-requires : goal.refusal_of-requires
refusal_of-requires g c =
    let h = c.args.holdings.now in
    let s = the_send c.args.resend in
    let from = c.in_ok-from.ensures in
    let to = c.in_ok-to.ensures in
    subst (λ (x : List Extent × List Extent). AreItsExtents h s x.0 x.1)
    (λ i. (sym c.deref.ensures.value i, sym c.deref-2.ensures.value i))
    (record {
      small = clusters-small h c.requires.wired s c.requires.due c.requires.small;
      from_own = from.there;
      from_total = from.total;
      to_own = to.there;
      to_total = to.total;
      bytes = its-bytes h c.requires.wired s c.requires.due c.in_ok-from.from.items c.in_ok-to.to.items from.bytes
          to.bytes;
    })

pub returns-in-Some-clause-resent : goal.returns-in-Some-clause-resent
returns-in-Some-clause-resent g c =
    stopped-resent c.args.holdings.now (the_send c.args.resend) (g.D.HubDoor.seen c.args.door.now) c.unheld.result
    c.in-Some.refusal c.unheld.ensures c.in-Some.ensures.refused

pub load-requires-clause-loadable : goal.load-requires-clause-loadable
load-requires-clause-loadable g c = record {
  small = clusters-small c.args.holdings.now c.requires.wired (the_send c.args.resend) c.requires.due c.requires.small;
  bio = tt;
  own = tt;
}

pub load-requires-clause-few_pages : goal.load-requires-clause-few_pages
load-requires-clause-few_pages g c =
    let s = the_send c.args.resend in
    let alike = (its-clusters c.args.holdings.now c.requires.wired s c.requires.due).alike in
    let few = c.requires.few_pages in
    omega (arith, alike, few, ap (λ a. a.promised) c.make_room.ensures.same.agenda)

pub load-requires-clause-allowed : goal.load-requires-clause-allowed
load-requires-clause-allowed g c =
    let s = the_send c.args.resend in
    let d = g.D.HubDoor.seen c.args.door.now in
    subst (λ (x : LaneState). IsAllowedBy d x.id (load_again s x)) (sym c.make_room.ensures.same.ideal)
    (resend-allowed (ideal_of c.args.holdings.now) s c.in_default.ensures.fine d c.requires.allowed)

pub copy_bytes-requires : goal.copy_bytes-requires
copy_bytes-requires g c =
    let h = c.args.holdings.now in
    let l = ideal_of h in
    let s = the_send c.args.resend in
    let u = c.in_default.ensures.fine in
    let room = c.make_room.ensures.same in
    let k = c.load.new.holdings in
    let d = g.D.HubDoor.seen c.args.door.now in
    let e = g.D.HubDoor.seen c.load.new.door in
    let a = c.in_ok-loaded.loaded.answer in
    let done = loaded-from h c.make_room.new.holdings room s k d e a c.in_ok-loaded.ensures.done in
    let stays = stays-from h c.make_room.new.holdings k room.memory room.maps c.load.ensures.bytes in
    let from = c.in_ok-from.from.items in
    let to = c.in_ok-to.to.items in
    let are = its-bytes h c.requires.wired s c.requires.due from to c.in_ok-from.ensures.bytes
    c.in_ok-to.ensures.bytes in
    subst (λ (x : List Extent × List Extent). MayCopy k x.0 x.1)
    (λ i. (sym c.deref-4.ensures.value i, sym c.deref-5.ensures.value i))
    (record {
      from_lie = lies-now h k s u d e a done stays from c.in_ok-from.ensures.lie;
      to_lie = lies-now h k s u d e a done stays to c.in_ok-to.ensures.lie;
      inside = inside-now h k s u d e a done stays (addresses to) c.in_ok-to.ensures.there;
      total = c.in_ok-to.ensures.total;
      alike = bytes-alike h c.requires.wired s c.requires.due u from to are;
      apart = share-none h c.requires.wired s c.requires.due u from to are;
      room = omega (
        arith,
        c.in_ok-make_room.ensures.room,
        c.load.ensures.spare,
        ap (λ es. length es) c.deref-3.ensures.value,
      );
    })

pub returns-in_err-make_room-clause-resent : goal.returns-in_err-make_room-clause-resent
returns-in_err-make_room-clause-resent g c =
    let h = c.args.holdings.now in
    let d = g.D.HubDoor.seen c.args.door.now in
    let room = c.make_room.ensures.same in
    failed-resend (the_send c.args.resend) h c.make_room.new.holdings d d c.from_residual-in_err-make_room.result
    c.from_residual-in_err-make_room.ensures.0 (keeps-room h c.make_room.new.holdings room) room.agenda (inl refl)
    room.memories (room-due h c.make_room.new.holdings room)

pub returns-in_err-loaded-clause-resent : goal.returns-in_err-loaded-clause-resent
returns-in_err-loaded-clause-resent g c =
    let h = c.args.holdings.now in
    let r = c.make_room.new.holdings in
    let k = c.load.new.holdings in
    let room = c.make_room.ensures.same in
    let failed = c.in_err-loaded.ensures in
    failed-resend (the_send c.args.resend) h k (g.D.HubDoor.seen c.args.door.now) (g.D.HubDoor.seen c.load.new.door)
    c.from_residual-in_err-loaded.result c.from_residual-in_err-loaded.ensures.0
    (state-from h r room k failed.err) (failed.unpromised ∙ room.agenda) failed.undone
    (c.load.ensures.memories ∙ room.memories) (due-from h r room k c.load.ensures.due)

pub returns-clause-resent : goal.returns-clause-resent
returns-clause-resent g c =
    let h = c.args.holdings.now in
    let l = ideal_of h in
    let s = the_send c.args.resend in
    let u = c.in_default.ensures.fine in
    let from = c.in_ok-from.from.items in
    let to = c.in_ok-to.to.items in
    let are = its-bytes h c.requires.wired s c.requires.due from to c.in_ok-from.ensures.bytes
    c.in_ok-to.ensures.bytes in
    let room = c.make_room.ensures.same in
    let r = c.make_room.new.holdings in
    let k = c.load.new.holdings in
    let loaded = c.load.ensures in
    let d = g.D.HubDoor.seen c.args.door.now in
    let e = g.D.HubDoor.seen c.load.new.door in
    let a = c.in_ok-loaded.loaded.answer in
    let done = loaded-from h c.make_room.new.holdings room s k d e a c.in_ok-loaded.ensures.done in
    let stays = stays-from h r k room.memory room.maps loaded.bytes in
    let n = c.copy_bytes.new.holdings in
    let copied : AreCopied from to k n =
    subst (λ (x : List Extent × List Extent). AreCopied x.0 x.1 k n)
    (λ i. (c.deref-4.ensures.value i, c.deref-5.ensures.value i)) c.copy_bytes.ensures in
    let alike = (its-clusters h c.requires.wired s c.requires.due).alike in
    let due = due-from h r room k loaded.due in
    record {
      done = resent-done h k s u d e a done stays c.requires.wired c.requires.due from to are
          c.in_ok-from.ensures.there c.in_ok-to.ensures.there n copied.ideal copied.wire;
      held = c.in_ok-loaded.ensures.held
          ∙ ap (λ (x : LaneState). asks (load_again s x)) room.ideal
          ∙ resend-asks l s u;
      wire = resent-wire h k s u d e a done stays c.requires.wired c.requires.due from to are
          c.in_ok-from.ensures.there c.in_ok-to.ensures.there n copied.ideal copied.wire copied.maps
          (copied.memories ∙ loaded.memories ∙ room.memories);
      err = tt;
      unpromised = tt;
      undone = tt;
      memories = copied.memories ∙ loaded.memories ∙ room.memories;
      agenda = record {
        place = ap (λ x. x.place) copied.agenda ∙ loaded.agenda.place ∙ ap (λ x. x.place) room.agenda;
        end = ap (λ x. x.length) copied.agenda ∙ loaded.agenda.end ∙ ap (λ x. x.length) room.agenda;
        capacity = ap (λ x. x.room + length x.queue) copied.agenda ∙ loaded.agenda.capacity
            ∙ ap (λ x. x.room + length x.queue) room.agenda;
      };
      promised = omega (
        arith,
        alike,
        loaded.promised,
        ap (λ x. x.promised) room.agenda,
        ap (λ x. x.promised) copied.agenda,
      );
      due = ap (λ x. x.promised + pages_due h.maps.map) copied.agenda ∙ due
          ∙ ap (λ t. h.agenda.promised + pages_due t.map) (sym copied.maps);
    }
