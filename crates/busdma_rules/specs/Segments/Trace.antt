-- The bus addresses of the bytes of chunks.
use Rattle.std.specs.Prelude.{◌≡◌, ℕ, ◌+◌, ◌%◌, ◌^◌, ◌<◌, Bool, false, if◌then◌else◌, List, [], ◌∷◌, slice_index_or}
use Rattle.std.specs.Prelude.{drop, Option, Some, None, is_some, unwrap_or}
use Rattle.std.specs.List.{flat_map}
use Rattle.std.specs.Option.{option_to_list}
use Rattle.busdma_machine.specs.declared.machine.address.Extent.{Extent}
use Rattle.busdma_machine.specs.declared.machine.address.Pa.{Pa}
use Rattle.busdma_machine.specs.declared.machine.chunk.Chunk.{Chunk}
use Rattle.busdma_machine.specs.declared.tags.tag.TagLimits.{TagLimits}
use Rattle.busdma_machine.specs.Runs.{IsExtent, addresses, byte_count, run_of}
use Rattle.busdma_machine.specs.Tags.TagFlags.{keep_pg_offset}

-- the extents of a chunk, in order
abbrev pub chunk_extents : Chunk → List Extent
chunk_extents c = c.first ∷ option_to_list c.rest

-- how many bytes a chunk has
abbrev pub chunk_len : Chunk → ℕ
chunk_len c = byte_count (chunk_extents c)

-- the offset in its bounce page of a chunk whose first address is this: the same as in its frame if the tag keeps
-- offsets, or else 0
abbrev pub page_offset : Bool → ℕ → ℕ
page_offset keep a = if keep then a % 4096 else 0

-- a chunk with this bounce page
abbrev pub in_page : Bool → Pa → Chunk → Chunk
in_page keep page c = record c { page = Some (record { 0 = page.0 + page_offset keep c.first.pa.0 }) }

-- the first of these pages, or address 0 if there is none
abbrev pub first_page : List Pa → Pa
first_page pages = slice_index_or pages 0 (record { 0 = 0 })

-- the chunks with their bounce pages: the first bounced chunk has the first page, and so on
abbrev pub chunks_in_pages : Bool → List Chunk → List Pa → List Chunk
chunks_in_pages keep [] pages = []
chunks_in_pages keep (c ∷ cs) pages =
    if c.bounced then in_page keep (first_page pages) c ∷ chunks_in_pages keep cs (drop 1 pages) else c
    ∷ chunks_in_pages keep cs pages

-- the bus addresses of the bytes of a chunk: from this address in its page on, or their physical addresses if it has no
-- page
abbrev pub bus_from : Option Pa → Chunk → List ℕ
bus_from None c = addresses (chunk_extents c)
bus_from (Some pa) c = run_of pa.0 (chunk_len c)

-- the bus addresses of the bytes of a chunk, in order
abbrev pub bus_addresses : Chunk → List ℕ
bus_addresses c = bus_from c.page c

-- the bus addresses of the bytes of chunks that have their pages, one for each byte, in order
abbrev pub bus_trace : List Chunk → List ℕ
bus_trace cs = flat_map bus_addresses cs

-- the bus addresses of the bytes of a tag's chunks with these bounce pages, one for each byte, in order
abbrev pub trace : TagLimits → List Chunk → List Pa → List ℕ
trace t cs pages = bus_trace (chunks_in_pages (keep_pg_offset t.flags) cs pages)

-- the address of the first byte of a frame, whose number is below 2^30
abbrev pub IsPage : Pa → Type 0
IsPage page = (page.0 % 4096 ≡ 0) × (page.0 < 2 ^ 42)

-- the extent of a chunk on the bus: the bus address of its first byte, and how many bytes it has
abbrev pub bus_extent : Chunk → Extent
bus_extent c = record { pa = unwrap_or c.page c.first.pa; len = chunk_len c }

-- a chunk is in its place: it has a page exactly if it is bounced, it has only one extent if it is not bounced, and its
-- bytes on the bus lie in one frame
pub record IsPlaced (c : Chunk) : Type 0 where
  pub paged : is_some c.page ≡ c.bounced
  pub single : c.bounced ≡ false → c.rest ≡ None
  pub inside : IsExtent (bus_extent c)

-- the bus addresses of a chunk's bytes follow one another
abbrev pub RisesByOne : Chunk → Type 0
RisesByOne c = (a : ℕ) × (bus_addresses c ≡ run_of a (chunk_len c))
