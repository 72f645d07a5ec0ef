-- What of a driver's holdings a step leaves as it was.
use Rattle.std.specs.Prelude.{◌≡◌, ℕ, ◌+◌, ◌==◌, true, false, List, [], ◌⊎◌, length, map, Some, None, is_some}
use Rattle.busdma_machine.specs.Machine.Wire.{Wire, put}
use Rattle.loan_table.specs.Table.{AreIn, set_all}
use Rattle.phys_memory.specs.Memory.{FrameMemory, wire}
use Rattle.ideal_lane.specs.IdealMemory.{Known, written}
use Rattle.ideal_lane.specs.State.{LaneState}
use Rattle.lane_state.specs.declared.holdings.Holdings.{Holdings}
use Rattle.lane_state.specs.Covered.{pages_due}
use Rattle.lane_state.specs.Held.{devices_of, held}
use Rattle.lane_state.specs.Ideal.{ideal_of}
use Rattle.lane_state.specs.Wire.{wire_of}

-- a step leaves the bytes of the driver's frames, and the bounce pages of each map with their bytes
pub record KeepsBytes (h k : Holdings) : Type 0 where
  pub own : wire k.memory.memory ≡ wire h.memory.memory
  pub pages : (m : ℕ) → (devices_of k.maps.map m).pages ≡ (devices_of h.maps.map m).pages

-- a step leaves the bytes of the driver's frames, and the bounce pages with their bytes of each map that still has
-- pages
pub record KeepsBytesHeld (h k : Holdings) : Type 0 where
  pub own : wire k.memory.memory ≡ wire h.memory.memory
  pub pages : (m : ℕ) → ((devices_of k.maps.map m).pages ≡ (devices_of h.maps.map m).pages)
      ⊎ ((devices_of k.maps.map m).pages ≡ [])

-- a step leaves the bytes of the driver's frames, and the bounce pages with their bytes of each map that has pages
-- before and after it
pub record KeepsWhatStays (h k : Holdings) : Type 0 where
  pub own : wire k.memory.memory ≡ wire h.memory.memory
  pub pages : (m : ℕ) → ((devices_of k.maps.map m).pages ≡ (devices_of h.maps.map m).pages)
      ⊎ (((devices_of h.maps.map m).pages ≡ []) ⊎ ((devices_of k.maps.map m).pages ≡ []))

-- a step leaves the bytes of the driver's frames that are there before and after it, and the bounce pages of each map
-- with their bytes; a byte that comes to the driver and is Known has the value that the ideal memory says
pub record KeepsBesideMemory (h k : Holdings) : Type 0 where
  pub own : (a : ℕ) → is_some ((ideal_of h).memory a) ≡ true → is_some ((ideal_of k).memory a) ≡ true →
      wire k.memory.memory a ≡ wire h.memory.memory a
  pub known : (a v : ℕ) → (ideal_of h).memory a ≡ None → (ideal_of k).memory a ≡ Some (Known v) →
      wire k.memory.memory a ≡ v
  pub pages : (m : ℕ) → (devices_of k.maps.map m).pages ≡ (devices_of h.maps.map m).pages

-- a step copies the driver's bytes at these addresses to as many other addresses, in order, and leaves the bounce pages
-- with their bytes of each map that has pages before and after it
pub record KeepsCopied (from to : List ℕ) (h k : Holdings) : Type 0 where
  pub own_from : AreIn h.loans.bytes from
  pub own_to : AreIn h.loans.bytes to
  pub own : wire k.memory.memory ≡ put to (map (wire h.memory.memory) from) (wire h.memory.memory)
  pub pages : (m : ℕ) → ((devices_of k.maps.map m).pages ≡ (devices_of h.maps.map m).pages)
      ⊎ (((devices_of h.maps.map m).pages ≡ []) ⊎ ((devices_of k.maps.map m).pages ≡ []))

-- a wire is right for a step: it is the wire after the step; or it is the wire before, and only pages came or went; or
-- it has bytes copied to others, and only pages came or went besides; or it is the wire before, and a memory came or
-- went
pub data IsWireOf (h k : Holdings) (w : Wire) : Type 0 where
  Becomes : k.memories ≡ h.memories → wire_of k ≡ w → IsWireOf h k w
  Stays : k.memories ≡ h.memories → w ≡ wire_of h → KeepsWhatStays h k → IsWireOf h k w
  Copies : (from to : List ℕ) → k.memories ≡ h.memories → w ≡ put to (map (wire_of h) from) (wire_of h) →
      KeepsCopied from to h k → IsWireOf h k w
  WithMemory : w ≡ wire_of h → KeepsBesideMemory h k → IsWireOf h k w

-- a step leaves the bytes of the driver's frames, and the bounce pages with their bytes of each map but this one
pub record KeepsBytesBut (one : ℕ) (h k : Holdings) : Type 0 where
  pub own : wire k.memory.memory ≡ wire h.memory.memory
  pub pages : (m : ℕ) → (one == m) ≡ false → (devices_of k.maps.map m).pages ≡ (devices_of h.maps.map m).pages

-- a step leaves the ideal state and all bytes unchanged; this is so if memory runs out
pub record KeepsState (h k : Holdings) : Type 0 where
  pub ideal : ideal_of k ≡ ideal_of h
  pub bytes : KeepsBytes h k

-- a step changes the number of promised places in the return queue by as much as the number of pages that are due to
-- join it
abbrev pub KeepsPromises : Holdings → Holdings → Type 0
KeepsPromises h k = k.agenda.promised + pages_due h.maps.map ≡ h.agenda.promised + pages_due k.maps.map

-- a step leaves all holdings but the tags, the maps and the agenda
pub record KeepsMost (h k : Holdings) : Type 0 where
  pub script : k.script ≡ h.script
  pub pages : k.pages ≡ h.pages
  pub id : k.id ≡ h.id
  pub maxmem : k.maxmem ≡ h.maxmem
  pub memory : k.memory ≡ h.memory
  pub memories : k.memories ≡ h.memories
  pub rings : k.rings ≡ h.rings
  pub loans : k.loans ≡ h.loans
  pub shares : k.shares ≡ h.shares
  pub due : k.due ≡ h.due

-- a step leaves all holdings but the tags
pub record KeepsButTags (h k : Holdings) : Type 0 where
  pub most : KeepsMost h k
  pub maps : k.maps ≡ h.maps
  pub agenda : k.agenda ≡ h.agenda

-- a step leaves all holdings but the maps
pub record KeepsButMaps (h k : Holdings) : Type 0 where
  pub most : KeepsMost h k
  pub tags : k.tags ≡ h.tags
  pub agenda : k.agenda ≡ h.agenda

-- a step leaves all holdings but the agenda
pub record KeepsButAgenda (h k : Holdings) : Type 0 where
  pub most : KeepsMost h k
  pub tags : k.tags ≡ h.tags
  pub maps : k.maps ≡ h.maps

-- a step leaves the place in the script, the length of the script, and the number of items that are queued or have room
pub record KeepsAgenda (h k : Holdings) : Type 0 where
  pub place : k.agenda.place ≡ h.agenda.place
  pub end : k.agenda.length ≡ h.agenda.length
  pub capacity : k.agenda.room + length k.agenda.queue ≡ h.agenda.room + length h.agenda.queue

-- the ideal state after bytes were written: the bytes at these addresses have these values, and are Known
abbrev pub with_written : List ℕ → List ℕ → LaneState → LaneState
with_written pas vs l = record l { memory = written pas vs l.memory }

-- the ideal state after the bytes at these addresses were marked as Known, and the driver's memory became this one
abbrev pub with_marked : List ℕ → FrameMemory → Holdings → LaneState
with_marked pas m h = record (ideal_of h) {
  memory = held (set_all h.loans.bytes pas true) h.loans.loans (devices_of h.maps.map) m;
}
