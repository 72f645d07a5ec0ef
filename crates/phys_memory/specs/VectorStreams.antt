-- Walks over the spans of vectors, and the streams of their parts.
use Rattle.std.specs.Prelude.{ℕ, Bool, true, List, [], ◌∷◌, ◌++◌}
use Rattle.busdma_machine.specs.declared.machine.address.Span.{Span}
use Rattle.busdma_machine.specs.declared.machine.chunk.Entry.{Entry}
use Rattle.busdma_machine.specs.declared.machine.chunk.Part.{Part}
use Rattle.busdma_machine.specs.declared.machine.chunk.Part.TheVariants as part
use Rattle.busdma_machine.specs.declared.report.Judged.{Judged}
use Rattle.busdma_machine.specs.declared.report.Judged.TheVariants.{Fine, Refused}
use Rattle.busdma_machine.specs.Machine.Entry.{parts_of}
use Rattle.phys_memory.specs.declared.entries.Entries.{Entries}
use Rattle.phys_memory.specs.declared.entries.Entries.TheVariants.{All, Unmapped}
use Rattle.busdma_rules.specs.Memory.Translation.{Translation}
use Rattle.busdma_rules.specs.Memory.Vectors.{entries_of, judged_spans}

-- the walk that found these entries, or the first byte that is refused
abbrev pub walk_unless : Judged → List Entry → Entries
walk_unless Fine es = All es
walk_unless (Refused r) es = Unmapped r.at

-- the walk over spans: their entries, or the first byte that cannot be reached
abbrev pub spans_walk : Bool → Translation → List Span → Entries
spans_walk rounded t spans = walk_unless (judged_spans t 0 spans) (entries_of rounded t spans)

-- the walk over a vector, whose entries are rounded
abbrev pub vector_walk : Translation → List Span → Entries
vector_walk t spans = spans_walk true t spans

-- the part that ends a stream if a byte is refused
abbrev pub ending : Judged → List Part
ending Fine = []
ending (Refused r) = part.Unmapped r.at ∷ []

-- the stream of spans of which the first byte is at an offset of the load
abbrev pub spans_at : Bool → Translation → ℕ → List Span → List Part
spans_at rounded t offset spans = parts_of (entries_of rounded t spans) ++ ending (judged_spans t offset spans)

-- the stream of spans from the load's first byte on
abbrev pub spans_stream : Bool → Translation → List Span → List Part
spans_stream rounded t spans = spans_at rounded t 0 spans

-- the stream of a vector, whose entries are rounded
abbrev pub vector : Translation → List Span → List Part
vector t spans = spans_stream true t spans

-- P holds of the entries, if the walk has them
abbrev pub IfAll : Entries → (List Entry → Type 0) → Type 0
IfAll (All es) P = P es
IfAll (Unmapped at) P = Unit {0}

-- parts and then others, unless one of the first parts ends the stream
abbrev pub then_parts : List Part → List Part → List Part
then_parts [] others = others
then_parts (part.Of e opens rounded ∷ ps) others = part.Of e opens rounded ∷ then_parts ps others
then_parts (part.Unmapped at ∷ ps) others = part.Unmapped at ∷ []
