-- The ideal memory of what a driver really holds. If a bounced position lends a byte to write, the byte is in a bounce
-- page of the map that lends it, at the position's bus address. Every other byte is in the driver's own frames. If the
-- pages of maps share no frame, the device's view of a map has the same bytes there as the driver's wire.
use Rattle.std.specs.Prelude.{ℕ, ◌+◌, ◌==◌, Bool, ◌&&◌, List, [], ◌∷◌, Option, Some, None, if◌then◌else◌}
use Rattle.std.specs.Ordering.{nat_cmp}
use Rattle.std.specs.FinMap.{FinMap, get, entries}
use Rattle.busdma_machine.specs.declared.machine.chunk.Chunk.{Chunk}
use Rattle.busdma_machine.specs.Machine.Wire.{Wire, with_bytes_of}
use Rattle.busdma_rules.specs.declared.position.Position.{Position}
use Rattle.busdma_rules.specs.Lending.Loans.{Loan, Loans}
use Rattle.phys_memory.specs.Memory.{FrameMemory, wire}
use Rattle.ideal_lane.specs.IdealMemory.{Content, Known, Unknown, IdealMemory}
use Rattle.ideal_wire.specs.Traces.{bus_at}
use Rattle.lane_state.specs.declared.kept.KeptMap.{KeptMap}
use Rattle.lane_state.specs.Kept.{Device, device_of}

-- the bus address of the first of these positions, from this place of the load on, that lends a byte to write, if one
-- does
abbrev pub lent_bus : List Chunk → ℕ → List Position → ℕ → Option ℕ
lent_bus cs i [] a = None
lent_bus cs i (p ∷ ps) a =
    if (p.pa == a) && p.to_write then Some (bus_at cs i p.pa) else lent_bus cs (i + 1) ps a

-- the bytes that the device of a map reaches: in the map's bounce pages, or else in the driver's own frames
abbrev pub device_view : Device → FrameMemory → Wire
device_view d m = with_bytes_of d.pages (wire m)

-- a byte that is lent to write at this bus address of a map, or this other value if it is not lent to write
abbrev pub lent_byte : Device → FrameMemory → Option ℕ → ℕ → ℕ
lent_byte d m None elsewhere = elsewhere
lent_byte d m (Some bus) elsewhere = device_view d m bus

-- the byte of an address: in the first of these loans that lends it to write, or else in its own frame
abbrev pub byte_among : (ℕ → Device) → FrameMemory → List (ℕ × Loan) → ℕ → ℕ
byte_among devices m [] a = wire m a
byte_among devices m (e ∷ es) a =
    lent_byte (devices e.0) m (lent_bus (devices e.0).chunks 0 e.1.positions a) (byte_among devices m es a)

-- the chunks and pages of each map, by the place of the map
abbrev pub devices_of : FinMap nat_cmp KeptMap → ℕ → Device
devices_of maps k = device_of (get maps k)

-- a byte of the driver's own, as Known or Unknown by its mark
abbrev pub content_of : Option Bool → ℕ → Option Content
content_of None v = None
content_of (Some known) v = Some (if known then Known v else Unknown)

-- the ideal memory, by the marks, the loans, the maps, and the bytes that are really held
abbrev pub held : FinMap nat_cmp Bool → Loans → (ℕ → Device) → FrameMemory → IdealMemory
held bytes loans devices m a = content_of (get bytes a) (byte_among devices m (entries loans) a)
