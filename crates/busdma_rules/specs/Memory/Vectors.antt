-- The entries of spans, and the report for the first byte that cannot be reached.
use Rattle.std.specs.Prelude.{ℕ, ◌==◌, Bool, if◌then◌else◌, List, [], ◌∷◌, length}
use Rattle.busdma_machine.specs.declared.machine.address.Span.{Span}
use Rattle.busdma_machine.specs.declared.machine.chunk.Entry.{Entry}
use Rattle.busdma_machine.specs.declared.report.Judged.{Judged}
use Rattle.busdma_machine.specs.Judging.{judged}
use Rattle.busdma_machine.specs.Machine.Spans.{span_addresses}
use Rattle.busdma_rules.specs.Memory.Extents.{extents_of, reached_addresses}
use Rattle.busdma_rules.specs.Memory.Translation.{Translation, unreached}

-- entries with one more at their front, of the bytes at these physical addresses; without a byte there is no entry
abbrev pub with_entry : Bool → List ℕ → List Entry → List Entry
with_entry rounded [] es = es
with_entry rounded (pa ∷ pas) es = record { rounded = rounded; parts = extents_of (pa ∷ pas) } ∷ es

-- the entries of spans, up to the first byte that cannot be reached; all of them are rounded or none is
abbrev pub entries_of : Bool → Translation → List Span → List Entry
entries_of rounded t [] = []
entries_of rounded t (s ∷ ss) =
    let pas = reached_addresses t s.va.0 s.len in
    with_entry rounded pas (if length pas == s.len then entries_of rounded t ss else [])

-- the judgement of the bytes of spans: the first byte that cannot be reached is reported, with its offset in the load
abbrev pub judged_spans : Translation → ℕ → List Span → Judged
judged_spans t offset spans = judged (unreached t) offset (span_addresses spans)
