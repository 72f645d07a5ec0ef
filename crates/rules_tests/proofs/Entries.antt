-- The bytes of entries, counted by their addresses.
use Rattle.std.proofs.Common.{◌≡◌, List, [], ◌∷◌, length, length-append, arith}
use Rattle.std.proofs.lemmas.List.Sums.{sum_by-cons}
use Rattle.busdma_machine.specs.declared.machine.chunk.Entry.{Entry}
use Rattle.busdma_machine.specs.Machine.Entry.{entries_addresses, entries_bytes, entry_addresses}
use Rattle.busdma_machine.specs.Runs.{byte_count}
use Rattle.busdma_rules.proofs.Segments.Counting.{addresses_length}

pub entries_length : (es : List Entry) → length (entries_addresses es) ≡ entries_bytes es
entries_length [] = omega arith
entries_length (e ∷ es) =
    omega (
      arith,
      length-append (entry_addresses e) (entries_addresses es),
      addresses_length e.parts,
      entries_length es,
      sum_by-cons (λ (x : Entry). byte_count x.parts) e es,
    )
