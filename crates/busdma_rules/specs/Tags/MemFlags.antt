-- The flags of bus_dmamem_alloc(9), in a set of bits. The bits are this project's own.
use Rattle.std.specs.Prelude.{◌==◌, ◌∷◌, [], ℕ, Bool, List, bit_and, codes}

-- The bit of NOWAIT in the flags of a memory.
abbrev pub mem_nowait_bit : ℕ
mem_nowait_bit = 1

-- The bit of ZERO in the flags of a memory.
abbrev pub zero_bit : ℕ
zero_bit = 2

-- The bit of COHERENT in the flags of a memory.
abbrev pub coherent_bit : ℕ
coherent_bit = 4

-- The word and the bit of each flag of a memory.
abbrev pub mem_table : List (List ℕ × ℕ)
mem_table = (codes "NOWAIT", mem_nowait_bit) ∷ (codes "ZERO", zero_bit) ∷ (codes "COHERENT", coherent_bit) ∷ []

-- The flags of the memory have NOWAIT, which changes nothing, because no memory is waited for.
abbrev pub mem_nowait : ℕ → Bool
mem_nowait flags = bit_and flags mem_nowait_bit == mem_nowait_bit

-- The flags of the memory have ZERO: its bytes are 0 at first.
abbrev pub zero_filled : ℕ → Bool
zero_filled flags = bit_and flags zero_bit == zero_bit

-- The flags of the memory have COHERENT: the driver and the device see the same bytes without a sync.
abbrev pub coherent : ℕ → Bool
coherent flags = bit_and flags coherent_bit == coherent_bit
