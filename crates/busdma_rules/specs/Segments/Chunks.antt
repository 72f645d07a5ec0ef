-- How the bytes of entries are cut into chunks, after the x86 bounce code. Each chunk is loaded in place, or else moves
-- together to one bounce page.
use Rattle.std.specs.Prelude.{ℕ, zero, suc, ◌+◌, ◌-◌, ◌*◌, ◌/◌, ◌%◌, Bool, ◌&&◌, not, if◌then◌else◌, List, [], ◌∷◌}
use Rattle.std.specs.Prelude.{◌++◌, length, min, take, drop, Option, Some, None}
use Rattle.std.specs.List.{filter}
use Rattle.busdma_machine.specs.declared.machine.address.Extent.{Extent}
use Rattle.busdma_machine.specs.declared.machine.chunk.Chunk.{Chunk}
use Rattle.busdma_machine.specs.declared.machine.chunk.Entry.{Entry}
use Rattle.busdma_machine.specs.declared.tags.tag.TagLimits.{TagLimits}
use Rattle.busdma_machine.specs.Runs.{byte_count}
use Rattle.busdma_machine.specs.Machine.Entry.{entry_addresses}
use Rattle.busdma_machine.specs.Tags.Tag.{needs_bounce}
use Rattle.busdma_machine.specs.Tags.TagFlags.{keep_pg_offset}

-- a number rounded up to a multiple of another
abbrev pub rounded_up : ℕ → ℕ → ℕ
rounded_up n m = (n + m - 1) / m * m

-- how many bytes of a frame are left from an address on
abbrev pub to_frame_end : ℕ → ℕ
to_frame_end a = 4096 - a % 4096

-- the most bytes that a chunk from this address on can have: those up to the end of the frame. If the chunk is bounced,
-- its entry is rounded and the tag does not keep offsets, this number is rounded up to a multiple of the alignment
abbrev pub chunk_limit : TagLimits → ℕ → Bool → ℕ → ℕ
chunk_limit t maxmem rounded a =
    if needs_bounce t maxmem a && rounded && not (keep_pg_offset t.flags) then rounded_up (to_frame_end a) t.alignment
    else to_frame_end a

-- the extent of the first of these bytes and of the next ones in the same frame
abbrev pub first_extent : List ℕ → Extent
first_extent [] = record { pa = record { 0 = 0 }; len = 0 }
first_extent (a ∷ bs) = record { pa = record { 0 = a }; len = min (length (a ∷ bs)) (to_frame_end a) }

-- the extent of these bytes, if there are any
abbrev pub extent_from : List ℕ → Option Extent
extent_from [] = None
extent_from (a ∷ bs) = Some (record { pa = record { 0 = a }; len = length (a ∷ bs) })

-- the chunk of these bytes, at the offset `at` of the load; it is bounced if its first address needs a bounce page
abbrev pub chunk_of : TagLimits → ℕ → ℕ → List ℕ → Chunk
chunk_of t maxmem at bytes = record {
  at = at;
  first = first_extent bytes;
  rest = extent_from (drop (first_extent bytes).len bytes);
  bounced = needs_bounce t maxmem (first_extent bytes).pa.0;
  page = None;
}

-- the chunks of these bytes of an entry, from the offset `at` of the load on: the first chunk has as many bytes as it
-- can, and the others are cut in the same way. Each chunk has a byte, so n bytes have at most n chunks.
abbrev pub chunks_within : ℕ → TagLimits → ℕ → Bool → ℕ → List ℕ → List Chunk
chunks_within zero t maxmem rounded at bytes = []
chunks_within (suc n) t maxmem rounded at [] = []
chunks_within (suc n) t maxmem rounded at (a ∷ bs) =
    let most = chunk_limit t maxmem rounded a in
    chunk_of t maxmem at (take most (a ∷ bs)) ∷ chunks_within n t maxmem rounded (at + most) (drop most (a ∷ bs))

-- the chunks of all these bytes of an entry, from the offset `at` of the load on
abbrev pub chunks_of_bytes : TagLimits → ℕ → Bool → ℕ → List ℕ → List Chunk
chunks_of_bytes t maxmem rounded at bytes = chunks_within (length bytes) t maxmem rounded at bytes

-- the chunks of entries, from the offset `at` of the load on; no chunk has bytes of two entries
abbrev pub chunks_from : TagLimits → ℕ → ℕ → List Entry → List Chunk
chunks_from t maxmem at [] = []
chunks_from t maxmem at (e ∷ es) =
    chunks_of_bytes t maxmem e.rounded at (entry_addresses e) ++ chunks_from t maxmem (at + byte_count e.parts) es

-- the chunks of the entries of a load
abbrev pub chunks_of : TagLimits → ℕ → List Entry → List Chunk
chunks_of t maxmem entries = chunks_from t maxmem 0 entries

-- the chunks that are bounced, in order
abbrev pub bounced_of : List Chunk → List Chunk
bounced_of cs = filter (λ c. c.bounced) cs

-- how many bounce pages chunks need
abbrev pub need_of : List Chunk → ℕ
need_of cs = length (bounced_of cs)
