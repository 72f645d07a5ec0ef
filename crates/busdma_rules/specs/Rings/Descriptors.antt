-- Descriptors: what a ring's device is to do with a range of bus addresses, in 16 bytes. This project's own.
use Rattle.std.specs.Prelude.{ℕ, List, [], ◌∷◌, ◌++◌, take, drop, slice_index}
use Rattle.std.specs.Int.{w32, w64, from_le_bytes, to_le_bytes}
use Rattle.busdma_rules.specs.declared.descriptor.Descriptor.{Descriptor}

-- the descriptor that 16 bytes hold: 8 bytes of the bus address and 4 bytes of the length, both with the least
-- significant byte first, then the kind, the fill byte, the owner and the status
abbrev pub descriptor_of : List ℕ → Descriptor
descriptor_of bytes = record {
  addr = from_le_bytes w64 (take 8 bytes);
  len = from_le_bytes w32 (take 4 (drop 8 bytes));
  kind = slice_index bytes 12;
  fill = slice_index bytes 13;
  owner = slice_index bytes 14;
  status = slice_index bytes 15;
}

-- the 16 bytes that hold a descriptor
abbrev pub descriptor_bytes : Descriptor → List ℕ
descriptor_bytes d =
    to_le_bytes w64 d.addr ++ to_le_bytes w32 d.len ++ d.kind ∷ d.fill ∷ d.owner ∷ d.status ∷ []
