-- The operations of bus_dmamap_sync(9), in a set of bits. The bits are this project's own.
use Rattle.std.specs.Prelude.{◌==◌, ◌&&◌, ◌||◌, ◌∷◌, [], ℕ, Bool, List, bit_and, codes}

-- The bit of PREREAD.
abbrev pub preread_bit : ℕ
preread_bit = 1

-- The bit of POSTREAD.
abbrev pub postread_bit : ℕ
postread_bit = 2

-- The bit of PREWRITE.
abbrev pub prewrite_bit : ℕ
prewrite_bit = 4

-- The bit of POSTWRITE.
abbrev pub postwrite_bit : ℕ
postwrite_bit = 8

-- The word and the bit of each sync operation.
abbrev pub sync_table : List (List ℕ × ℕ)
sync_table =
    (codes "PREREAD", preread_bit) ∷ (codes "POSTREAD", postread_bit) ∷ (codes "PREWRITE", prewrite_bit)
    ∷ (codes "POSTWRITE", postwrite_bit) ∷ []

-- The set has PREREAD: the device is about to write the memory.
abbrev pub preread : ℕ → Bool
preread ops = bit_and ops preread_bit == preread_bit

-- The set has POSTREAD: the device has written the memory.
abbrev pub postread : ℕ → Bool
postread ops = bit_and ops postread_bit == postread_bit

-- The set has PREWRITE: the device is about to read the memory.
abbrev pub prewrite : ℕ → Bool
prewrite ops = bit_and ops prewrite_bit == prewrite_bit

-- The set has POSTWRITE: the device has read the memory.
abbrev pub postwrite : ℕ → Bool
postwrite ops = bit_and ops postwrite_bit == postwrite_bit

-- The set of sync operations has a PRE operation.
abbrev pub has_pre : ℕ → Bool
has_pre ops = preread ops || prewrite ops

-- The set of sync operations has a POST operation.
abbrev pub has_post : ℕ → Bool
has_post ops = postread ops || postwrite ops

-- The set of sync operations has a PRE and a POST operation.
abbrev pub is_mixed : ℕ → Bool
is_mixed ops = has_pre ops && has_post ops
