-- The bytes that a driver really holds, by their bus addresses.
use Rattle.std.specs.Prelude.{List, Some}
use Rattle.std.specs.List.{flat_map}
use Rattle.std.specs.Ordering.{nat_cmp}
use Rattle.std.specs.FinMap.{FinMap, entries}
use Rattle.busdma_machine.specs.Machine.Page.{FrameBytes}
use Rattle.busdma_machine.specs.Machine.Wire.{Wire, with_bytes_of}
use Rattle.phys_memory.specs.Memory.{wire}
use Rattle.ideal_wire.specs.Apart.{IsApart}
use Rattle.ideal_wire.specs.Centre.{IsFaithful}
use Rattle.ideal_wire.specs.Laid.{AreLaid}
use Rattle.ideal_wire.specs.Machine.{IsInMachine}
use Rattle.ideal_wire.specs.Mapped.{AreMapped}
use Rattle.ideal_wire.specs.Spaced.{AreSpaced}
use Rattle.lane_state.specs.declared.holdings.Holdings.{Holdings}
use Rattle.lane_state.specs.declared.kept.KeptMap.{KeptMap}
use Rattle.lane_state.specs.Ideal.{ideal_of}
use Rattle.lane_state.specs.Kept.{device_of}

-- the bounce pages of all maps
abbrev pub held_pages : FinMap nat_cmp KeptMap → List FrameBytes
held_pages maps = flat_map (λ e. (device_of (Some e.1)).pages) (entries maps)

-- the bytes at each address that a driver really holds: in the bounce pages of its maps, or else in its own frames
abbrev pub wire_of : Holdings → Wire
wire_of h = with_bytes_of (held_pages h.maps.map) (wire h.memory.memory)

-- a driver is within its machine; its loads are in its memory and in their pages, which share no frame; the address
-- spaces of its IOMMU tags are in order, with the loads in their runs; and its wire is faithful
pub record IsWired (h : Holdings) : Type 0 where
  pub machine : IsInMachine (ideal_of h)
  pub laid : AreLaid (ideal_of h)
  pub apart : IsApart (ideal_of h)
  pub spaced : AreSpaced (ideal_of h)
  pub mapped : ∥ AreMapped (ideal_of h) ∥₁
  pub faithful : IsFaithful (ideal_of h) (wire_of h)
