-- Syncs, writes and the steps of rings leave the wire faithful.
use Rattle.std.proofs.Common.{ℕ, List, refl}
use Rattle.busdma_machine.specs.declared.bounce.hold.HubReply.{HubReply}
use Rattle.busdma_base.specs.declared.scenarios.script.Place.{Place}
use Rattle.busdma_machine.specs.Machine.Wire.{Wire}
use Rattle.ideal_lane.specs.Accesses.{cpu_write, dev_write, dev_write_at}
use Rattle.ideal_lane.specs.Asking.{Asking, by_reply, Gives, Asks}
use Rattle.ideal_lane.specs.Outcomes.{Outcome}
use Rattle.ideal_lane.specs.State.{LaneState}
use Rattle.ideal_lane.specs.Rings as rings
use Rattle.ideal_lane.specs.Standing.{Stands}
use Rattle.ideal_lane.specs.Syncs as syncs
use Rattle.ideal_lane.proofs.Effects.{Operation, Transfer, Work}
use Rattle.ideal_lane.proofs.Stepping.{Only, cpu_write-touches, dev_write-touches, dev_write_at-touches}
use Rattle.ideal_lane.proofs.Stepping.{ring_post-touches, transfer-touches}
use Rattle.ideal_wire.specs.Apart.{IsApart}
use Rattle.ideal_wire.specs.Centre.{IsFaithful}
use Rattle.ideal_wire.specs.Laid.{AreLaid}
use Rattle.ideal_wire.specs.WireStep as wire
use Rattle.ideal_wire.specs.WireStep.{fetched_wire, if_done, if_step_done}
use Rattle.ideal_wire.proofs.Faithful.FaithfulRings.{RingStays, ring-stays}
use Rattle.ideal_wire.proofs.Faithful.RawAccess.{AreFound}
use Rattle.ideal_wire.proofs.Faithful.Wiring.{Needs, now, touches-stay}
use Rattle.busdma_base.specs.declared.scenarios.script.Item.TheVariants as item
use Rattle.busdma_base.specs.declared.scenarios.script.Op.TheVariants as op
use Rattle.busdma_base.specs.declared.scenarios.script.Bytes.TheVariants as bytes

module _ (l : LaneState) (w : Wire) (apart : IsApart l) (laid : AreLaid l) (f : IsFaithful l w) where
  -- nothing came and nothing went
  alone : (d : Work) (o : Asking Outcome) → Only l d o → Needs l d → (r : HubReply) →
      IsFaithful (by_reply o r).lane (if_done o (now l w apart laid f d) w)
  alone d (Gives x) h needs r = touches-stay l w apart laid f h needs _ (λ b x y. refl) (λ m b x y. refl)
  alone d (Asks c k) h needs r = absurd h

  pub sync-faithful : (m ops : ℕ) (r : HubReply) →
      IsFaithful (by_reply (syncs.sync m ops l) r).lane (wire.wire_sync m ops l w)
  sync-faithful m ops = alone (Transfer (item.Sync m ops)) (syncs.sync m ops l) (transfer-touches l (item.Sync m ops))
      tt

  pub sync_range-faithful : (m off len ops : ℕ) (r : HubReply) →
      IsFaithful (by_reply (syncs.sync_range m off len ops l) r).lane (wire.wire_sync_range m off len ops l w)
  sync_range-faithful m off len ops =
      alone (Transfer (item.SyncRange m off len ops)) (syncs.sync_range m off len ops l)
      (transfer-touches l (item.SyncRange m off len ops)) tt

  pub cpu_write-faithful : (place : Place) (vs : List ℕ) (r : HubReply) →
      IsFaithful (by_reply (cpu_write place vs l) r).lane (wire.wire_cpu_write place vs l w)
  cpu_write-faithful place vs =
      alone (Operation (op.CpuWrite place (bytes.Listed vs))) (cpu_write place vs l)
      (cpu_write-touches l place (bytes.Listed vs)) tt

  pub ring_post-faithful : (k slot m off len kind fill : ℕ) (r : HubReply) →
      IsFaithful (by_reply (rings.ring_post k slot m off len kind fill l) r).lane
      (wire.wire_ring_post k slot m off len kind fill l w)
  ring_post-faithful k slot m off len kind fill =
      alone (Operation (op.RingPost k slot m off len kind fill)) (rings.ring_post k slot m off len kind fill l)
      (ring_post-touches l k slot m off len kind fill) tt

  pub dev_write-faithful : (m off : ℕ) (vs : List ℕ) (r : HubReply) →
      IsFaithful (by_reply (dev_write m off vs l) r).lane (wire.wire_dev_write m off vs l w)
  dev_write-faithful m off vs =
      alone (Transfer (item.DevWrite m off (bytes.Listed vs))) (dev_write m off vs l)
      (dev_write-touches l m off (bytes.Listed vs)) tt

  pub dev_write_at-faithful : AreFound l → (t addr : ℕ) (vs : List ℕ) (r : HubReply) →
      IsFaithful (by_reply (dev_write_at t addr vs l) r).lane (wire.wire_dev_write_at t addr vs l w)
  dev_write_at-faithful all t addr vs =
      alone (Transfer (item.DevWriteAt t addr (bytes.Listed vs))) (dev_write_at t addr vs l)
      (dev_write_at-touches l t addr (bytes.Listed vs)) all

  pub ring_step-faithful : Stands l → (k : ℕ) (r : HubReply) →
      IsFaithful (by_reply (rings.ring_step k l) r).lane (wire.wire_ring_step k l w)
  ring_step-faithful stands k = by (rings.ring_step k l) (ring-stays l w apart laid f stands k)
    where
      by : (o : Asking Outcome) → RingStays l w apart laid f stands k o → (r : HubReply) →
          IsFaithful (by_reply o r).lane (if_step_done o (fetched_wire (rings.ring_of l k) l w) w)
      by (Gives x) h r = h _ (λ b x y. refl) (λ m b x y. refl)
      by (Asks c q) h r = absurd h
