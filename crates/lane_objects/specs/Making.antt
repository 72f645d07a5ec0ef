-- What is taken and left when a memory is made.
use Rattle.std.specs.Prelude.{◌≡◌, ℕ, ◌≤◌}
use Rattle.busdma_machine.specs.Bounce.MemoryRuns.{frames_for}
use Rattle.busdma_rules.specs.Tags.MemFlags.{coherent}
use Rattle.loan_table.specs.Table.{IsSame}
use Rattle.ideal_lane.specs.State.{LaneMemory}
use Rattle.lane_state.specs.declared.holdings.Holdings.{Holdings}

-- a driver has room for a memory of so many frames, and for its map
pub record HasMemoryRoom (h : Holdings) (frames : ℕ) : Type 0 where
  pub maps : 1 ≤ h.maps.spare
  pub memories : 1 ≤ h.memories.spare
  pub loans : 1 ≤ h.loans.spare
  pub memory : frames ≤ h.memory.spare

-- a step leaves all holdings of a driver but their room
pub record KeepsButRoom (h k : Holdings) : Type 0 where
  pub script : k.script ≡ h.script
  pub pages : k.pages ≡ h.pages
  pub id : k.id ≡ h.id
  pub maxmem : k.maxmem ≡ h.maxmem
  pub memory : k.memory.memory ≡ h.memory.memory
  pub tags : k.tags ≡ h.tags
  pub maps : k.maps.map ≡ h.maps.map
  pub memories : k.memories.map ≡ h.memories.map
  pub rings : k.rings ≡ h.rings
  pub loans : IsSame h.loans k.loans
  pub agenda : k.agenda ≡ h.agenda
  pub shares : k.shares ≡ h.shares
  pub due : k.due ≡ h.due

-- the ideal memory of a tag at this first byte, with `len` bytes and these flags
abbrev pub ideal_memory : ℕ → ℕ → ℕ → ℕ → LaneMemory
ideal_memory tag first len flags =
    record { tag = tag; first = first; count = frames_for len; len = len; coherent = coherent flags }
