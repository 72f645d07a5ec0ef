-- What a call on a lane that takes no door leaves.
use Rattle.std.proofs.Common.{◌≡◌, ℕ, ◌≤◌, ◌==◌, true, false, List, Result, Ok, Err, IfOk, OnErr, length}
use Rattle.std.proofs.Common.{if◌then◌else◌, is_some, refl, ap, sym, ◌∙◌, subst, arith}
use Rattle.busdma_machine.specs.declared.bounce.hold.HubReply.{HubReply}
use Rattle.busdma_machine.specs.declared.bounce.hold.HubReply.TheVariants.{Nothing}
use Rattle.busdma_base.specs.declared.journals.answer.Answer.{Answer}
use Rattle.busdma_machine.specs.declared.machine.bio.Bio.TheVariants.{Vector}
use Rattle.busdma_machine.specs.declared.report.ReportName.TheVariants.{Absent}
use Rattle.busdma_machine.specs.declared.name.MapId.{MapId}
use Rattle.busdma_base.specs.declared.scenarios.script.Place.{Place}
use Rattle.busdma_machine.specs.Machine.Wire.{Wire}
use Rattle.busdma_machine.specs.Runs.{run_of}
use Rattle.busdma_rules.specs.Lending.SyncEffects.{lost}
use Rattle.busdma_rules.specs.Lending.Loans.{load_bytes}
use Rattle.busdma_rules.specs.Rings.Descriptors.{descriptor_bytes}
use Rattle.ideal_lane.specs.Accesses.{cpu_read, cpu_write, dev_write, dev_write_at, raw_bytes}
use Rattle.ideal_lane.specs.Ahead.{items_ahead}
use Rattle.ideal_lane.specs.Asking.{Asking, Gives, by_reply}
use Rattle.ideal_lane.specs.Outcomes.{Outcome, refused}
use Rattle.ideal_lane.specs.Places.{bytes_at}
use Rattle.ideal_lane.specs.Rings.{posted}
use Rattle.ideal_lane.specs.Standing.{Stands}
use Rattle.ideal_lane.specs.State.{LaneState}
use Rattle.ideal_lane.specs.Syncs.{sync, sync_range}
use Rattle.ideal_lane.specs.Unloads.{segments_in}
use Rattle.ideal_lane.proofs.Effects.{DeviceWrites, Fetches, Operation, Posts, RawWrites, Same, Syncs, Touches}
use Rattle.ideal_lane.proofs.Effects.{Transfer}
use Rattle.ideal_lane.proofs.Effects.{Work, Writes}
use Rattle.ideal_lane.proofs.Stepping.{Only}
use Rattle.ideal_lane.proofs.Stepping.{cpu_write-touches, transfer-touches}
use Rattle.ideal_wire.specs.Apart.{IsApart}
use Rattle.ideal_wire.specs.Centre.{IsFaithful}
use Rattle.ideal_wire.specs.Machine.{IsInMachine}
use Rattle.ideal_wire.specs.OneProof.{IsFaithful-prop}
use Rattle.ideal_wire.specs.WireStep as wires
use Rattle.ideal_wire.specs.WireStep.{IsRead, Reads, place_bytes}
use Rattle.ideal_wire.proofs.Devices.KeptSpaces.{touches-spaced}
use Rattle.ideal_wire.proofs.Devices.MappedTurns.{touches-mapped}
use Rattle.ideal_wire.proofs.Faithful.Calls.{cpu_write-faithful, dev_write-faithful, dev_write_at-faithful}
use Rattle.ideal_wire.proofs.Faithful.Calls.{sync-faithful, sync_range-faithful}
use Rattle.ideal_wire.proofs.Laid.SameBytes.{judged-same}
use Rattle.ideal_wire.proofs.Laid.StillLaid.{touches-laid}
use Rattle.ideal_wire.proofs.Faithful.Wiring.{own-forgotten, own-written, cpu_read-reads as reads}
use Rattle.lane_state.specs.declared.holdings.Holdings.{Holdings}
use Rattle.lane_core.specs.Calls.{unless_foreign, wire_unless_foreign}
use Rattle.lane_state.specs.Changes.{KeepsState}
use Rattle.lane_state.specs.Ideal.{given, ideal_of}
use Rattle.lane_state.specs.SmallLoads.{HasSmallLoads}
use Rattle.lane_state.specs.Wire.{IsWired, wire_of}
use Rattle.lane_turns.proofs.KeepsWired.{kept-wired}
use Rattle.lane_core.proofs.OneStanding.{stands-of}
use Rattle.lane_turns.proofs.Promises.{maps-promise}
use Rattle.lane_turns.proofs.SmallLoads.{small-same}
use mathlib.Core.Logic.{∥∥₁_elim, ∥∥₁_map}
use Rattle.busdma_base.specs.declared.scenarios.script.Bytes.TheVariants as bytes
use Rattle.busdma_base.specs.declared.scenarios.script.Item.TheVariants as item
use Rattle.busdma_base.specs.declared.scenarios.script.Op.TheVariants as op
use Rattle.busdma_base.specs.Scenarios.Operations.{bytes_of}

-- ---- what is left

-- a call changes nothing of a driver but the values of its memory, what it lends and its shares
record IsTouched (l n : LaneState) : Type 0 where
  rest : n ≡ record l { memory = n.memory; loans = n.loans; shares = n.shares }
  own : (a : ℕ) → is_some (n.memory a) ≡ is_some (l.memory a)

-- a call is not a step of a ring's device
abbrev IsCall : Work → Type 0
IsCall (Transfer (item.RingStep k)) = ⊥
IsCall _ = Unit {0}

is-touched : {l : LaneState} {d : Work} {x : Outcome} → IsCall d → Touches l d x → IsTouched l x.lane
is-touched call (Same a q u) = record { rest = refl; own = λ a. refl }
is-touched call (Fetches k f) = absurd call
is-touched {l} call (Posts k slot m off len kind fill r ring o there i may va at reaches fine) =
    record {
      rest = refl;
      own = own-written (bytes_at l (run_of va 16)) (descriptor_bytes (posted (segments_in o.stage) off len kind fill))
          l.memory;
    }
is-touched {l} call (Syncs m off len ops is o there i alone fine) =
    record { rest = refl; own = own-forgotten (lost l.loans m off len ops) l.memory }
is-touched {l} call (Writes place bs va at reaches fine) =
    record { rest = refl; own = own-written (bytes_at l (run_of va (length (bytes_of bs)))) (bytes_of bs) l.memory }
is-touched {l} call (RawWrites t addr bs g there fine) =
    record {
      rest = refl;
      own = own-written (raw_bytes l t (run_of addr (length (bytes_of bs)))) (bytes_of bs)
          l.memory;
    }
is-touched {l} call (DeviceWrites m off bs o there i fine) =
    record { rest = refl; own = own-written (load_bytes l.loans m off (length (bytes_of bs))) (bytes_of bs) l.memory }

-- ---- the driver after a call

-- a driver is wired and satisfies `Stands`, and has as many items ahead and the same maps
pub record IsCalledOn (h k : Holdings) : Type 0 where
  pub stands : Stands (ideal_of h) → Stands (ideal_of k)
  pub wired : IsWired k
  pub ahead : items_ahead (ideal_of k) ≡ items_ahead (ideal_of h)
  pub maps : (ideal_of k).maps ≡ (ideal_of h).maps
  pub due : k.due ≡ h.due

module _ (h k : Holdings) (wired : IsWired h) (stands : Stands (ideal_of h)) (x : Answer) where
  abbrev l : LaneState
  l = ideal_of h

  module _ (d : Work) (call : IsCall d) (o : Asking Outcome) (done : Gives (given k x) ≡ o) (touches : Only l d o)
      (faithful : (r : HubReply) → IsFaithful (by_reply o r).lane (wire_of k)) where
    made : Touches l d (given k x)
    made = subst (Only l d) (sym done) touches

    touched : IsTouched l (ideal_of k)
    touched = is-touched call made

    abbrev with_changes : LaneState
    with_changes = record l { memory = (ideal_of k).memory; loans = (ideal_of k).loans; shares = (ideal_of k).shares }

    back : with_changes ≡ ideal_of k
    back = sym touched.rest

    apart : IsApart with_changes
    apart = record {
      away = λ m i page a holds inside. touched.own a ∙ wired.apart.away m i page a holds inside;
      one = wired.apart.one;
      pages = wired.apart.pages;
      memories = wired.apart.memories;
    }

    machine : IsInMachine with_changes
    machine = record {
      numbered = wired.machine.numbered;
      pages = wired.machine.pages;
      mems = wired.machine.mems;
      tags = wired.machine.tags;
      bios = wired.machine.bios;
      clusters = wired.machine.clusters;
      unlike = wired.machine.unlike;
      due = λ s e. judged-same l with_changes refl refl s.map (Vector s.chain) ∙ wired.machine.due s e;
    }

    called-on : IsCalledOn h k
    called-on = record {
      stands = subst Stands back;
      wired = record {
        machine = subst IsInMachine back machine;
        laid = touches-laid l wired.laid made;
        apart = subst IsApart back apart;
        spaced = touches-spaced l stands wired.laid wired.machine wired.spaced made;
        mapped = ∥∥₁_map wired.mapped (λ mapped.
            touches-mapped l stands wired.laid wired.machine wired.spaced mapped made);
        faithful = subst (λ (s : Asking Outcome). IsFaithful (by_reply s Nothing).lane (wire_of k)) (sym done)
            (faithful Nothing);
      };
      ahead = ap items_ahead touched.rest;
      maps = ap (λ (x : LaneState). x.maps) touched.rest;
      due = ap (λ (x : LaneState). x.due) touched.rest;
    }

  pub synced : (m ops : ℕ) → Gives (given k x) ≡ sync m ops l → wire_of k ≡ wires.wire_sync m ops l (wire_of h) →
      IsCalledOn h k
  synced m ops done wire =
      called-on (Transfer (item.Sync m ops)) tt (sync m ops l) done (transfer-touches l (item.Sync m ops))
      (λ r. subst (IsFaithful (by_reply (sync m ops l) r).lane) (sym wire)
      (sync-faithful l (wire_of h) wired.apart wired.laid wired.faithful m ops r))

  pub synced_range : (m off len ops : ℕ) → Gives (given k x) ≡ sync_range m off len ops l →
      wire_of k ≡ wires.wire_sync_range m off len ops l (wire_of h) → IsCalledOn h k
  synced_range m off len ops done wire =
      called-on (Transfer (item.SyncRange m off len ops)) tt (sync_range m off len ops l) done
      (transfer-touches l (item.SyncRange m off len ops))
      (λ r. subst (IsFaithful (by_reply (sync_range m off len ops l) r).lane) (sym wire)
      (sync_range-faithful l (wire_of h) wired.apart wired.laid wired.faithful m off len ops r))

  pub cpu_written : (place : Place) (vs : List ℕ) → Gives (given k x) ≡ cpu_write place vs l →
      wire_of k ≡ wires.wire_cpu_write place vs l (wire_of h) → IsCalledOn h k
  cpu_written place vs done wire =
      called-on (Operation (op.CpuWrite place (bytes.Listed vs))) tt (cpu_write place vs l) done
      (cpu_write-touches l place (bytes.Listed vs))
      (λ r. subst (IsFaithful (by_reply (cpu_write place vs l) r).lane) (sym wire)
      (cpu_write-faithful l (wire_of h) wired.apart wired.laid wired.faithful place vs r))

  pub dev_written : (m off : ℕ) (vs : List ℕ) → Gives (given k x) ≡ dev_write m off vs l →
      wire_of k ≡ wires.wire_dev_write m off vs l (wire_of h) → IsCalledOn h k
  dev_written m off vs done wire =
      called-on (Transfer (item.DevWrite m off (bytes.Listed vs))) tt (dev_write m off vs l) done
      (transfer-touches l (item.DevWrite m off (bytes.Listed vs)))
      (λ r. subst (IsFaithful (by_reply (dev_write m off vs l) r).lane) (sym wire)
      (dev_write-faithful l (wire_of h) wired.apart wired.laid wired.faithful m off vs r))

  pub dev_written_at : (t addr : ℕ) (vs : List ℕ) → Gives (given k x) ≡ dev_write_at t addr vs l →
      wire_of k ≡ wires.wire_dev_write_at t addr vs l (wire_of h) → IsCalledOn h k
  dev_written_at t addr vs done wire =
      called-on (Transfer (item.DevWriteAt t addr (bytes.Listed vs))) tt (dev_write_at t addr vs l) done
      (transfer-touches l (item.DevWriteAt t addr (bytes.Listed vs)))
      (λ r. ∥∥₁_elim wired.mapped (IsFaithful-prop (by_reply (dev_write_at t addr vs l) r).lane (wire_of k))
      (λ mapped. subst (IsFaithful (by_reply (dev_write_at t addr vs l) r).lane) (sym wire)
      (dev_write_at-faithful l (wire_of h) wired.apart wired.laid wired.faithful
      (record { stands = stands; laid = wired.laid; spaced = wired.spaced; mapped = mapped }) t addr vs r)))

-- if memory runs out, the driver is unchanged
pub kept-on : (h k : Holdings) → IsWired h → KeepsState h k → IsCalledOn h k
kept-on h k wired s = record {
  stands = subst Stands (sym s.ideal);
  wired = kept-wired h k s wired;
  ahead = ap items_ahead s.ideal;
  maps = ap (λ (x : LaneState). x.maps) s.ideal;
  due = ap (λ (x : LaneState). x.due) s.ideal;
}

module _ {E : Type 0} (h k : Holdings) (wired : IsWired h) (stands : Stands (ideal_of h)) where
  pub sync-after : (m ops : ℕ) (r : Result Answer E) → IfOk r (λ a. Gives (given k a) ≡ sync m ops (ideal_of h)) →
      IfOk r (λ a. wire_of k ≡ wires.wire_sync m ops (ideal_of h) (wire_of h)) → OnErr r (KeepsState h k) →
      IsCalledOn h k
  sync-after m ops (Ok a) done wire err = synced h k wired stands a m ops done wire
  sync-after m ops (Err x) done wire err = kept-on h k wired err

  pub sync_range-after : (m off len ops : ℕ) (r : Result Answer E) →
      IfOk r (λ a. Gives (given k a) ≡ sync_range m off len ops (ideal_of h)) →
      IfOk r (λ a. wire_of k ≡ wires.wire_sync_range m off len ops (ideal_of h) (wire_of h)) →
      OnErr r (KeepsState h k) → IsCalledOn h k
  sync_range-after m off len ops (Ok a) done wire err = synced_range h k wired stands a m off len ops done wire
  sync_range-after m off len ops (Err x) done wire err = kept-on h k wired err

  pub cpu_write-after : (place : Place) (vs : List ℕ) (r : Result Answer E) →
      IfOk r (λ a. Gives (given k a) ≡ cpu_write place vs (ideal_of h)) →
      IfOk r (λ a. wire_of k ≡ wires.wire_cpu_write place vs (ideal_of h) (wire_of h)) → OnErr r (KeepsState h k) →
      IsCalledOn h k
  cpu_write-after place vs (Ok a) done wire err = cpu_written h k wired stands a place vs done wire
  cpu_write-after place vs (Err x) done wire err = kept-on h k wired err

  pub dev_write-after : (m off : ℕ) (vs : List ℕ) (r : Result Answer E) →
      IfOk r (λ a. Gives (given k a) ≡ dev_write m off vs (ideal_of h)) →
      IfOk r (λ a. wire_of k ≡ wires.wire_dev_write m off vs (ideal_of h) (wire_of h)) → OnErr r (KeepsState h k) →
      IsCalledOn h k
  dev_write-after m off vs (Ok a) done wire err = dev_written h k wired stands a m off vs done wire
  dev_write-after m off vs (Err x) done wire err = kept-on h k wired err

  pub dev_write_at-after : (t addr : ℕ) (vs : List ℕ) (r : Result Answer E) →
      IfOk r (λ a. Gives (given k a) ≡ dev_write_at t addr vs (ideal_of h)) →
      IfOk r (λ a. wire_of k ≡ wires.wire_dev_write_at t addr vs (ideal_of h) (wire_of h)) → OnErr r (KeepsState h k) →
      IsCalledOn h k
  dev_write_at-after t addr vs (Ok a) done wire err = dev_written_at h k wired stands a t addr vs done wire
  dev_write_at-after t addr vs (Err x) done wire err = kept-on h k wired err

-- ---- what a lane keeps

pub record IsLane (h : Holdings) : Type 0 where
  pub wired : IsWired h
  pub stands : ∥ Stands (ideal_of h) ∥₁
  pub small : HasSmallLoads h
  pub length : h.agenda.length ≡ length h.script
  pub room : items_ahead (ideal_of h) ≤ h.agenda.room

pub called-lane : (h k : Holdings) → IsLane h → IsCalledOn h k → k.script ≡ h.script → k.agenda ≡ h.agenda → IsLane k
called-lane h k lane on script agenda =
    let ahead = on.ahead in
    let room = lane.room in
    let same : k.agenda.room ≡ h.agenda.room = ap (λ a. a.room) agenda in
    let promised : k.agenda.promised ≡ h.agenda.promised = ap (λ a. a.promised) agenda in
    record {
      wired = on.wired;
      stands = ∣ on.stands (stands-of (ideal_of h) lane.stands) ∣₁;
      small = small-same h lane.small k script (ap (λ a. a.place) agenda) on.due
          (omega (arith, promised)) (maps-promise h k promised on.maps);
      length = ap (λ a. a.length) agenda ∙ lane.length ∙ sym (ap length script);
      room = omega (arith, ahead, room, same);
    }

-- what is read is what is held
pub cpu-reads : {E : Type 0} (h : Holdings) → IsWired h → (place : Place) (len : ℕ) (r : Result Answer E) →
    IfOk r (λ a. Gives (given h a) ≡ cpu_read place len (ideal_of h)) →
    IfOk r (λ a. Reads a (place_bytes (ideal_of h) place len) (wire_of h))
cpu-reads h wired place len (Ok a) done =
    subst (λ o. IsRead o (place_bytes (ideal_of h) place len) (wire_of h)) (sym done)
    (reads (ideal_of h) (wire_of h) wired.apart wired.laid wired.faithful place len)
cpu-reads h wired place len (Err x) done = tt

-- ---- a map of another lane

module _ (m : MapId) (l : LaneState) (o : Asking Outcome) where
  pub own-call : (m.lane.0 == l.id) ≡ true → unless_foreign m l o ≡ o
  own-call is = ap (λ b. if b then o else refused Absent 0 l) is

  pub foreign-call : (m.lane.0 == l.id) ≡ false → unless_foreign m l o ≡ refused Absent 0 l
  foreign-call is = ap (λ b. if b then o else refused Absent 0 l) is

module _ (m : MapId) (l : LaneState) (after w : Wire) where
  pub own-wire : (m.lane.0 == l.id) ≡ true → wire_unless_foreign m l after w ≡ after
  own-wire is = ap (λ b. if b then after else w) is

  pub foreign-wire : (m.lane.0 == l.id) ≡ false → wire_unless_foreign m l after w ≡ w
  foreign-wire is = ap (λ b. if b then after else w) is
