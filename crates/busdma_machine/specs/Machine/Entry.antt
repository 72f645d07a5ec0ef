-- The entries of a load and their bytes, and the stream of their parts.
use Rattle.std.specs.Prelude.{◌≡◌, ℕ, ◌+◌, ◌%◌, ◌^◌, ◌<◌, ◌≤◌, Bool, true, false, List, [], ◌∷◌, ◌++◌, length, Option}
use Rattle.std.specs.Prelude.{Some, None, sum_by}
use Rattle.std.specs.List.{AllByRecursion, flat_map}
use Rattle.busdma_machine.specs.declared.machine.address.Extent.{Extent}
use Rattle.busdma_machine.specs.declared.machine.chunk.Entry.{Entry}
use Rattle.busdma_machine.specs.declared.machine.chunk.Part.{Part}
use Rattle.busdma_machine.specs.declared.machine.chunk.Part.TheVariants.{Of, Unmapped}
use Rattle.busdma_machine.specs.Runs.{IsExtent, addresses, byte_count}

-- each extent but the first begins its frame, and each but the last ends its frame
abbrev pub AreJoined : List Extent → Type 0
AreJoined [] = Unit {0}
AreJoined (e ∷ []) = Unit {0}
AreJoined (e ∷ f ∷ es) = ((e.pa.0 + e.len) % 4096 ≡ 0) × (f.pa.0 % 4096 ≡ 0) × AreJoined (f ∷ es)

-- each extent of an entry lies in one frame; each extent but the first begins its frame, and each but the last ends its
-- frame
pub record IsEntry (e : Entry) : Type 0 where
  pub extents : AllByRecursion IsExtent e.parts
  pub joined : AreJoined e.parts

-- the physical addresses of an entry's bytes, in order
abbrev pub entry_addresses : Entry → List ℕ
entry_addresses e = addresses e.parts

-- an entry has at least one part
abbrev pub HasPart : Entry → Type 0
HasPart e = 0 < length e.parts

-- the physical addresses of the bytes of entries, in order
abbrev pub entries_addresses : List Entry → List ℕ
entries_addresses [] = []
entries_addresses (e ∷ es) = entry_addresses e ++ entries_addresses es

-- how many bytes entries have together
abbrev pub entries_bytes : List Entry → ℕ
entries_bytes es = sum_by (λ e. byte_count e.parts) es

-- a part's extent, if it has one, lies in one frame
abbrev pub IsPart : Part → Type 0
IsPart (Of e opens rounded) = IsExtent e
IsPart (Unmapped n) = Unit {0}

-- how many bytes a part has
abbrev pub part_bytes : Part → ℕ
part_bytes (Of e opens rounded) = e.len
part_bytes (Unmapped n) = 0

-- the extents of a stream up to the next one that opens an entry
abbrev pub others_of : List Part → List Extent
others_of [] = []
others_of (Of e true r ∷ ps) = []
others_of (Of e false r ∷ ps) = e ∷ others_of ps
others_of (Unmapped n ∷ ps) = others_of ps

-- the entries of a stream: an entry begins at each extent that opens, and ends before the next that does
abbrev pub stream_entries : List Part → List Entry
stream_entries [] = []
stream_entries (Of e true r ∷ ps) = record { rounded = r; parts = e ∷ others_of ps } ∷ stream_entries ps
stream_entries (Of e false r ∷ ps) = stream_entries ps
stream_entries (Unmapped n ∷ ps) = stream_entries ps

-- the offset of the first byte of a stream that cannot be reached, if there is one
abbrev pub unmapped_of : List Part → Option ℕ
unmapped_of [] = None
unmapped_of (Of e o r ∷ ps) = unmapped_of ps
unmapped_of (Unmapped n ∷ ps) = Some n

-- the stream of a load: its first extent opens an entry, and its entries have at most 2^20 bytes
pub record IsStream (ps : List Part) : Type 0 where
  pub opens : others_of ps ≡ []
  pub entries : AllByRecursion IsEntry (stream_entries ps)
  pub bytes : entries_bytes (stream_entries ps) ≤ 2 ^ 20

-- extents as parts of a stream; `opens` says whether the first of them opens an entry
abbrev pub extent_parts : Bool → Bool → List Extent → List Part
extent_parts opens rounded [] = []
extent_parts opens rounded (e ∷ es) = Of e opens rounded ∷ extent_parts false rounded es

-- an entry as a stream
abbrev pub entry_parts : Entry → List Part
entry_parts e = extent_parts true e.rounded e.parts

-- entries as a stream, in order
abbrev pub parts_of : List Entry → List Part
parts_of es = flat_map entry_parts es
