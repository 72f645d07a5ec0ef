-- The segments of a loaded map name the bytes of its load.
use Rattle.std.proofs.Common.{ℕ, List, ap, ◌∙◌, slice_get}
use Rattle.busdma_machine.specs.declared.machine.address.Segment.{Segment}
use Rattle.busdma_rules.specs.Lending.Loans.{addresses_of, loan_of}
use Rattle.busdma_rules.specs.Segments.Segmentation.{segment_bytes}
use Rattle.ideal_lane.specs.State.{LaneState}
use Rattle.ideal_lane.specs.Syncs.{bounced_in}
use Rattle.ideal_lane.specs.Unloads.{segments_in}
use Rattle.ideal_wire.specs.Laid.{AreLaid}
use Rattle.ideal_wire.specs.Mapped.{AreMapped}
use Rattle.ideal_wire.specs.Traces.{stage_at}
use Rattle.ideal_wire.proofs.Apart.Held.{finds-held}
use Rattle.ideal_wire.proofs.Devices.MappedTurns.{loads-found}
use Rattle.ideal_wire.proofs.Faithful.Buses.{placed-buffers}
use Rattle.driver_laws.specs.Named.{NameLoad}
use Rattle.driver_laws.proofs.Loading.{HasLoad}

pub load-named : (n : LaneState) (m : ℕ) (ss : List Segment) → AreLaid n → AreMapped n → HasLoad n m ss →
    NameLoad n m ss
load-named n m ss laid mapped h = record {
  own = h.own;
  there = h.there;
  found = loads-found n laid mapped m h.own h.there h.bounced ss h.given h.stage;
  bytes = placed-buffers (bounced_in (stage_at n m)) 0 (addresses_of (loan_of n.loans m).positions);
  held = λ k bus at. finds-held n laid mapped m h.own h.there k bus
      (ap (λ g. slice_get (segment_bytes (segments_in g)) k) h.stage ∙ at);
}
