-- A stream in the device pages of a device behind an IOMMU, and what its fronts need.
use Rattle.std.specs.Prelude.{◌≡◌, ℕ, ◌+◌, ◌≤◌, ◌^◌, List, [], ◌++◌, length, min, Option}
use Rattle.std.specs.Iterator.{HoldsAlong}
use Rattle.busdma_machine.specs.declared.machine.address.Segment.{Segment}
use Rattle.busdma_machine.specs.declared.machine.chunk.Part.{Part}
use Rattle.busdma_machine.specs.declared.tags.tag.TagLimits.{TagLimits}
use Rattle.busdma_machine.specs.Machine.Entry.{IsStream, stream_entries}
use Rattle.busdma_machine.specs.Room.{Roomy}
use Rattle.busdma_rules.specs.Segments.Built.{AreTooMany, IsFew}
use Rattle.busdma_rules.specs.Segments.Pieces.{chunk_pieces}
use Rattle.busdma_rules.specs.Iommu.Device.{device_chunks, load_frames}

-- the frames that the entries of a stream touch, one for each extent
abbrev pub stream_frames : List Part → List ℕ
stream_frames parts = load_frames (stream_entries parts)

-- the pieces of a stream whose extents are in the device pages from `first` on
abbrev pub device_pieces : TagLimits → ℕ → List Part → List Segment
device_pieces t first parts = chunk_pieces t (device_chunks first 0 (stream_entries parts))

-- the parts are a stream, and its extents are in device pages from `first` on that lie below 2^52
pub record IsInDevicePages (first : ℕ) (parts : List Part) : Type 0 where
  pub stream : IsStream parts
  pub pages : first + length (stream_frames parts) ≤ 2 ^ 52

-- the parts are a stream in device pages, and there is room for its pieces or for as many as the tag allows
pub record HasDeviceRoom (t : TagLimits) (first room : ℕ) (parts : List Part) : Type 0 where
  pub paged : IsInDevicePages first parts
  pub fits : min (length (device_pieces t first parts)) t.nsegments ≤ room

-- the list is empty, and has room for each front of the parts that an iterator gives
pub record CanBuildDevice {S : Type 0} (steps : S → Option Part → S → Type 0) (parts : S) (t : TagLimits) (first : ℕ)
    (list : Roomy Segment) : Type 0 where
  pub empty : list.items ≡ []
  pub fronts : HoldsAlong steps parts (HasDeviceRoom t first list.spare)

-- the segments are those of a stream in the device pages from `first` on, and the tag allows so many
abbrev pub IsDeviceBuilt : TagLimits → ℕ → List Part → List Segment → Type 0
IsDeviceBuilt t first parts segments = IsFew t (device_pieces t first parts) segments

-- the segments of a stream in the device pages from `first` on are more than the tag allows
abbrev pub DeviceOverflows : TagLimits → ℕ → List Part → Type 0
DeviceOverflows t first parts = AreTooMany t (device_pieces t first parts)

-- a front of a stream is a stream, takes no more device pages than the stream, and has no more pieces
pub record DeviceAsksNoMore (t : TagLimits) (first : ℕ) (front whole : List Part) : Type 0 where
  pub stream : IsStream front
  pub frames : length (stream_frames front) ≤ length (stream_frames whole)
  pub pieces : length (device_pieces t first front) ≤ length (device_pieces t first whole)

-- each front of each stream takes no more device pages than the stream, and has no more pieces
abbrev pub DeviceFrontsAskNoMore : TagLimits → ℕ → Type 0
DeviceFrontsAskNoMore t first =
    (front rest : List Part) → IsStream (front ++ rest) → DeviceAsksNoMore t first front (front ++ rest)
