-- The flags of a load, after bus_dmamap_load(9), in a set of bits. The bits are this project's own.
use Rattle.std.specs.Prelude.{◌==◌, ◌∷◌, [], ℕ, Bool, List, bit_and, codes}

-- The bit of NOWAIT in the flags of a load.
abbrev pub load_nowait_bit : ℕ
load_nowait_bit = 1

-- The word and the bit of each flag of a load.
abbrev pub load_table : List (List ℕ × ℕ)
load_table = (codes "NOWAIT", load_nowait_bit) ∷ []

-- The flags of the load have NOWAIT: it is refused if it would have to wait for pages.
abbrev pub load_nowait : ℕ → Bool
load_nowait flags = bit_and flags load_nowait_bit == load_nowait_bit
