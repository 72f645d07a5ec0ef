-- That segments name the bytes of a load.
use Rattle.std.specs.FinMap.{get}
use Rattle.std.specs.Prelude.{◌≡◌, ℕ, List, map, Some, slice_get}
use Rattle.busdma_machine.specs.Machine.Wire.{buffers, buses}
use Rattle.busdma_machine.specs.declared.machine.address.Segment.{Segment}
use Rattle.busdma_rules.specs.Segments.Segmentation.{segment_bytes}
use Rattle.ideal_lane.specs.State.{LaneMap, LaneState}
use Rattle.ideal_wire.specs.Answered.{found_at}
use Rattle.ideal_wire.specs.Held.{FindsHeld}
use Rattle.ideal_wire.specs.Traces.{traces_of}
use Rattle.driver_laws.specs.Steps.{mapped_bytes}

-- Segments name the bytes of a map's load: at the bus addresses that they name, the device finds where the load's trace
-- has its bytes, in order. The trace is of the load's bytes, in order, and the driver holds each byte that is found.
pub record NameLoad (l : LaneState) (m : ℕ) (segments : List Segment) : Type 0 where
  pub own : LaneMap
  pub there : get l.maps m ≡ Some own
  pub found : map (found_at l own) (segment_bytes segments) ≡ map (λ a. Some a) (buses (traces_of l m))
  pub bytes : buffers (traces_of l m) ≡ mapped_bytes l m
  pub held : (k bus : ℕ) → slice_get (segment_bytes segments) k ≡ Some bus → FindsHeld l own bus
