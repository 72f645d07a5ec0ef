-- The chunks of a load in the pages of a device behind an IOMMU: each entry is one chunk, and each byte keeps its
-- offset in the page.
use Rattle.std.specs.Prelude.{ℕ, ◌+◌, ◌*◌, ◌/◌, ◌%◌, false, List, [], ◌∷◌, ◌++◌, length, map, None}
use Rattle.busdma_machine.specs.declared.machine.address.Extent.{Extent}
use Rattle.busdma_machine.specs.declared.machine.chunk.Chunk.{Chunk}
use Rattle.busdma_machine.specs.declared.machine.chunk.Entry.{Entry}
use Rattle.busdma_machine.specs.Runs.{byte_count}

-- the numbers of the frames that the entries of a load touch, one for each extent
abbrev pub load_frames : List Entry → List ℕ
load_frames [] = []
load_frames (e ∷ es) = map (λ x. x.pa.0 / 4096) e.parts ++ load_frames es

-- the device address at which these extents begin, if the first of them is mapped at this device page
abbrev pub device_begin : ℕ → List Extent → ℕ
device_begin page [] = 4096 * page
device_begin page (x ∷ xs) = 4096 * page + x.pa.0 % 4096

-- an entry as one chunk of device addresses, if its extents are mapped at the device pages from `page` on
abbrev pub device_chunk : ℕ → ℕ → Entry → Chunk
device_chunk page at e = record {
  at = at;
  first = record { pa = record { 0 = device_begin page e.parts }; len = byte_count e.parts };
  rest = None;
  bounced = false;
  page = None;
}

-- the chunks of entries that are mapped at the device pages from `page` on; the first chunk is at the offset `at` of
-- the load
abbrev pub device_chunks : ℕ → ℕ → List Entry → List Chunk
device_chunks page at [] = []
device_chunks page at (e ∷ es) =
    device_chunk page at e ∷ device_chunks (page + length e.parts) (at + byte_count e.parts) es
