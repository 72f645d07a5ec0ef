-- Walks over virtual bytes, and the streams of their parts.
use Rattle.std.specs.Prelude.{ℕ, ◌+◌, ◌==◌, Bool, true, if◌then◌else◌, List, [], ◌∷◌, ◌++◌, length}
use Rattle.busdma_machine.specs.declared.machine.address.Extent.{Extent}
use Rattle.busdma_machine.specs.declared.machine.chunk.Part.{Part}
use Rattle.busdma_machine.specs.declared.machine.chunk.Part.TheVariants as part
use Rattle.busdma_machine.specs.declared.report.ReportName.TheVariants as name
use Rattle.busdma_machine.specs.declared.report.Judged.{Judged}
use Rattle.busdma_machine.specs.declared.report.Judged.TheVariants.{Fine, Refused}
use Rattle.busdma_machine.specs.Machine.Entry.{extent_parts}
use Rattle.phys_memory.specs.declared.walk.Walked.{Walked}
use Rattle.phys_memory.specs.declared.walk.Walked.TheVariants.{Parts, Unmapped}
use Rattle.busdma_rules.specs.Memory.Extents.{extents_of, reached_addresses}
use Rattle.busdma_rules.specs.Memory.Translation.{Translation}

-- the stream of n bytes, of which the first bytes have these physical addresses and the others, if any,
-- cannot be reached; the first byte is at an offset of the load, and two flags say whether an entry opens with
-- the bytes and whether it is rounded
abbrev pub run_stream : List ℕ → ℕ → ℕ → Bool → Bool → List Part
run_stream pas n offset opens rounded =
    extent_parts opens rounded (extents_of pas)
    ++ (if length pas == n then [] else part.Unmapped (offset + length pas) ∷ [])

-- the stream of n bytes from a virtual address on, of which the first is at an offset of the load
abbrev pub flat_at : Bool → Translation → ℕ → ℕ → ℕ → List Part
flat_at rounded t offset va n = run_stream (reached_addresses t va n) n offset true rounded

-- the stream of n bytes from a virtual address on, with a rounded entry
abbrev pub flat : Translation → ℕ → ℕ → List Part
flat t va n = flat_at true t 0 va n

-- the walk over n bytes, of which the first bytes have these physical addresses and the others, if any,
-- cannot be reached
abbrev pub walk_of : List ℕ → ℕ → Walked
walk_of pas n = if length pas == n then Parts (extents_of pas) else Unmapped (length pas)

-- the walk over a stream, given the extents that came before it
abbrev pub walked : List Extent → List Part → Walked
walked es [] = Parts es
walked es (part.Of e opens rounded ∷ ps) = walked (es ++ e ∷ []) ps
walked es (part.Unmapped at ∷ ps) = Unmapped at

-- the judgement of a walk: Fine, or the first byte that is refused as Unmapped
abbrev pub verdict : Walked → Judged
verdict (Parts es) = Fine
verdict (Unmapped at) = Refused (record { name = name.Unmapped; at = at })

-- P holds of the extents, if the walk has them
abbrev pub IfParts : Walked → (List Extent → Type 0) → Type 0
IfParts (Parts es) P = P es
IfParts (Unmapped at) P = Unit {0}
