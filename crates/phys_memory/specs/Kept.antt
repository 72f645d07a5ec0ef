-- How a memory is kept: a table of virtual pages, and the frames by their number.
use Rattle.std.specs.Prelude.{◌≡◌, ℕ, min, List, length, map, Some}
use Rattle.std.specs.declared.hash.FoldHasher.{FoldHasher}
use Rattle.std.specs.declared.hash.BuildHasherDefault.{BuildHasherDefault}
use Rattle.std.specs.HashMap.{HashMap, spare}
use Rattle.std.specs.Map.{lookup}
use Rattle.std.specs.Prelude.{nat_eq}
use Rattle.std.specs.FinMap.{from_entries}
use Rattle.busdma_machine.specs.Machine.Page.{FrameBytes}
use Rattle.phys_memory.specs.declared.reach.Reach.{Reach}
use Rattle.phys_memory.specs.declared.stretch.Stretch.{Stretch}
use Rattle.phys_memory.specs.Memory.{FrameMemory, RoomyFrames, IsMemory}
use Rattle.phys_memory.specs.Stretches.{AreStretches}

-- a hash map whose keys are numbers
abbrev pub Numbered : Type 0 → Type 0
Numbered X = HashMap ℕ X (BuildHasherDefault FoldHasher)

-- the bytes of pages, by the keys of the pages
abbrev pub contents : List (ℕ × FrameBytes) → List (ℕ × List ℕ)
contents pages = map (λ e. (e.0, e.1.bytes)) pages

-- the memory with these rows and pages
abbrev pub memory_of : List (ℕ × Reach) → List (ℕ × FrameBytes) → FrameMemory
memory_of rows pages = record { table = from_entries rows; frames = from_entries (contents pages) }

-- a memory and its room: as many more pages as both maps have room for
abbrev pub roomy_of : Numbered Reach → Numbered FrameBytes → RoomyFrames
roomy_of table frames =
    record { memory = memory_of table.entries frames.entries; spare = min (spare table) (spare frames) }

-- the key of each page is the number of its frame
abbrev pub AtTheirFrames : List (ℕ × FrameBytes) → Type 0
AtTheirFrames pages = (f : ℕ) (page : FrameBytes) → lookup (nat_eq f) pages ≡ Some page → page.frame ≡ f

-- the invariant of a driver's memory over its fields
pub record IsKept (table : Numbered Reach) (frames : Numbered FrameBytes) (stretches : List Stretch) : Type 0 where
  pub memory : IsMemory (memory_of table.entries frames.entries)
  pub at_frames : AtTheirFrames frames.entries
  pub stretches_are : AreStretches (from_entries table.entries) stretches
  pub stretches_count : length stretches ≡ 16
