-- Loads whose bounce pages are lent out for an access or a copy, and taken back.
use Rattle.std.specs.Prelude.{◌≡◌, ℕ, ◌+◌, ◌≤◌, None}
use Rattle.std.specs.List.{AllByRecursion, AllZip}
use Rattle.busdma_machine.specs.Machine.PageList.{RoomyPages, page_frames}
use Rattle.device_model.specs.Access.{IsThere, bus_range}
use Rattle.lane_state.specs.declared.kept.KeptLoad.{KeptLoad}
use Rattle.dma_map.specs.declared.state.MapState.TheVariants.{Loaded}
use Rattle.dma_map.specs.MapView as held
use Rattle.map_sync.specs.Held.{IsPageHeld, paged}
use Rattle.phys_memory.specs.Frames.{AreApart}
use Rattle.phys_memory.specs.Memory.{FrameMemory}
use Rattle.busdma_rules.specs.Segments.Obeying.{segments_bytes}
use Rattle.lane_state.specs.Kept.{device_in}

-- a map has a load with its pages, which share no frame with each other or with the memory
pub record HasPages (m : FrameMemory) (s : held.HeldStage KeptLoad) : Type 0 where
  pub loaded : held.state_of s ≡ Loaded
  pub unlent : held.lent_frames s ≡ None
  pub apart : AreApart m (page_frames (device_in s).pages)

-- a load's device reaches `len` bytes of the load, from `off` on, in the memory or in the load's pages
pub record IsRangeReached (m : FrameMemory) (s : held.HeldStage KeptLoad) (off len : ℕ) : Type 0 where
  pub pages : HasPages m s
  pub range : off + len ≤ segments_bytes (held.segments_of s)
  pub there : AllByRecursion (IsThere m (page_frames (device_in s).pages)) (bus_range off len (held.segments_of s))

-- the bounced chunks of a load are in the memory by their own addresses, and in the load's pages by their bus addresses
pub record IsBounced (m : FrameMemory) (s : held.HeldStage KeptLoad) : Type 0 where
  pub pages : HasPages m s
  pub chunks : AllZip (IsPageHeld m) (paged (held.held_chunks s)) (page_frames (device_in s).pages)

-- a map after a copy or a write: it has the same load, in pages of the same frames
pub record IsRepaged (before after : held.MapView KeptLoad) : Type 0 where
  pub pages : RoomyPages
  pub is : after ≡ record before { stage = held.with_pages pages before.stage }
  pub frames : page_frames pages.items ≡ page_frames (device_in before.stage).pages
