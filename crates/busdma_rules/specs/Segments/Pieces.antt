-- The pieces of a chunk's bytes on the bus, by tests on the places of the bytes.
use Rattle.std.specs.Prelude.{ℕ, zero, suc, ◌-◌, ◌%◌, ◌==◌, Bool, ◌&&◌, not, if◌then◌else◌, List, [], ◌∷◌, length, min}
use Rattle.std.specs.Prelude.{slice_index}
use Rattle.std.specs.List.{filter, flat_map, range_with_len}
use Rattle.busdma_machine.specs.declared.machine.address.Segment.{Segment}
use Rattle.busdma_machine.specs.declared.machine.chunk.Chunk.{Chunk}
use Rattle.busdma_machine.specs.declared.tags.tag.TagLimits.{TagLimits}
use Rattle.busdma_rules.specs.Segments.Trace.{bus_addresses}

-- there is a boundary, and the address is a multiple of it
abbrev pub is_at_boundary : TagLimits → ℕ → Bool
is_at_boundary t a = not (t.boundary == 0) && a % t.boundary == 0

-- the greatest number up to n that passes a test, or 0
abbrev pub greatest : (ℕ → Bool) → ℕ → ℕ
greatest test zero = 0
greatest test (suc n) = if test (suc n) then suc n else greatest test n

-- the greatest place up to p whose bus address is a multiple of the boundary, or 0
abbrev pub window_place : TagLimits → List ℕ → ℕ → ℕ
window_place t bus p = greatest (λ q. is_at_boundary t (slice_index bus q)) p

-- a piece begins at place p: p is a multiple of maxsegsz after the last place up to p at a multiple of the boundary, or
-- after place 0 if there is no such place
abbrev pub begins_piece : TagLimits → List ℕ → ℕ → Bool
begins_piece t bus p = (p - window_place t bus p) % t.maxsegsz == 0

-- the places at which pieces begin, rising
abbrev pub piece_places : TagLimits → List ℕ → List ℕ
piece_places t bus = filter (begins_piece t bus) (range_with_len 0 (length bus))

-- the piece of the bytes from place p up to place q, without the byte at q
abbrev pub piece_between : List ℕ → ℕ → ℕ → Segment
piece_between bus p q = record { addr = record { 0 = slice_index bus p }; len = q - p }

-- the pieces that begin at these places; each reaches to the next place, and the last one to the end
abbrev pub pieces_at : List ℕ → List ℕ → List Segment
pieces_at bus [] = []
pieces_at bus (p ∷ []) = piece_between bus p (length bus) ∷ []
pieces_at bus (p ∷ q ∷ qs) = piece_between bus p q ∷ pieces_at bus (q ∷ qs)

-- the pieces of one chunk, whose bytes are at these bus addresses
abbrev pub pieces_of : TagLimits → List ℕ → List Segment
pieces_of t bus = pieces_at bus (piece_places t bus)

-- the pieces of chunks, in order; no piece has bytes of two chunks
abbrev pub chunk_pieces : TagLimits → List Chunk → List Segment
chunk_pieces t cs = flat_map (λ c. pieces_of t (bus_addresses c)) cs

-- the length of the piece that begins at a bus address, if `left` bytes of its chunk are left: at most maxsegsz, and at
-- most up to the next multiple of the boundary. This is what private steps of the code do; no public clause cites it.
abbrev pub piece_len : TagLimits → ℕ → ℕ → ℕ
piece_len t a left =
    if t.boundary == 0 then min left t.maxsegsz else min (min left t.maxsegsz) (t.boundary - a % t.boundary)
