-- The flags of bus_dma_tag_create(9), in a set of bits. The bits are this project's own.
use Rattle.std.specs.Prelude.{◌==◌, ◌∷◌, [], ℕ, Bool, List, bit_and, codes}

-- The bit of ALLOCNOW.
abbrev pub allocnow_bit : ℕ
allocnow_bit = 1

-- The bit of KEEP_PG_OFFSET.
abbrev pub keep_pg_offset_bit : ℕ
keep_pg_offset_bit = 2

-- The word and the bit of each flag of a tag.
abbrev pub tag_table : List (List ℕ × ℕ)
tag_table = (codes "ALLOCNOW", allocnow_bit) ∷ (codes "KEEP_PG_OFFSET", keep_pg_offset_bit) ∷ []

-- The flags have ALLOCNOW: if the tag could bounce, making it is to bring its zone up to maxsize / 4096 pages.
abbrev pub allocnow : ℕ → Bool
allocnow flags = bit_and flags allocnow_bit == allocnow_bit

-- The flags have KEEP_PG_OFFSET: a bounced chunk keeps the offset of its first byte in the page.
abbrev pub keep_pg_offset : ℕ → Bool
keep_pg_offset flags = bit_and flags keep_pg_offset_bit == keep_pg_offset_bit
