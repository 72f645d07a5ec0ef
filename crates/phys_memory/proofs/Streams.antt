-- Streams of parts, from their front.
use Rattle.std.proofs.Common.{◌≡◌, ℕ, ◌+◌, ◌-◌, ◌≤◌, Bool, false, [], ◌∷◌, ◌++◌, length, ap, sym, ◌∙◌, inl, inr, arith}
use Rattle.std.proofs.Common.{length-append}
use Rattle.std.specs.Prelude.{nat_eq, if◌then◌else◌}
use Rattle.std.proofs.lemmas.Bool.{eq-eqb, ne_eqb}
use Rattle.std.proofs.lemmas.Bool.Decides.{eqb_tells}
use Rattle.busdma_machine.specs.declared.machine.address.Extent.{Extent}
use Rattle.busdma_machine.specs.declared.machine.chunk.Part.TheVariants as part
use Rattle.busdma_machine.specs.Machine.Entry.{extent_parts}
use Rattle.busdma_machine.specs.Runs.{run_of}
use Rattle.busdma_rules.specs.Memory.Translation.{Translation}
use Rattle.phys_memory.specs.Extents.{IsNext}
use Rattle.busdma_rules.specs.Memory.Extents.{extents_of, reached_addresses}
use Rattle.phys_memory.specs.Walk.{run_stream}
use Rattle.phys_memory.proofs.Extents.{extents_of-run, length-run_of}

-- a test that counts the bytes before
same_left : (n l left : ℕ) → n ≤ left → nat_eq (n + l) left ≡ nat_eq l (left - n)
same_left n l left h = elim (eqb_tells (n + l) left) [
  | inl t ↦ t.0 ∙ sym (eq-eqb l (left - n) (omega arith))
  | inr t ↦ t.0 ∙ sym (ne_eqb l (left - n) (λ e. t.1 (omega arith)))
]

-- the first part of a stream, and what is left
pub stream_next : (t : Translation) (at left offset : ℕ) (opens rounded : Bool) (e : Extent) → IsNext t at left e →
    run_stream (reached_addresses t at left) left offset opens rounded ≡ part.Of e opens rounded
    ∷ run_stream (reached_addresses t (at + e.len) (left - e.len)) (left - e.len) (offset + e.len) false rounded
stream_next t at left offset opens rounded e is =
    let rest = reached_addresses t (at + e.len) (left - e.len) in
    let count : length (run_of e.pa.0 e.len ++ rest) ≡ e.len + length rest =
    length-append (run_of e.pa.0 e.len) rest ∙ ap (λ n. n + length rest) (length-run_of e.pa.0 e.len) in
    let more : offset + (e.len + length rest) ≡ offset + e.len + length rest = omega arith in
    ap (λ pas. run_stream pas left offset opens rounded) is.others
    ∙ ap (λ es. extent_parts opens rounded es
    ++ (if nat_eq (length (run_of e.pa.0 e.len ++ rest)) left then []
    else part.Unmapped (offset + length (run_of e.pa.0 e.len ++ rest)) ∷ []))
    (extents_of-run e.pa.0 e.len rest is.extent.some is.extent.in_frame is.cut)
    ∙ ap (λ n. part.Of e opens rounded ∷ (extent_parts false rounded (extents_of rest)
    ++ (if nat_eq n left then [] else part.Unmapped (offset + n) ∷ []))) count
    ∙ ap (λ b. part.Of e opens rounded ∷ (extent_parts false rounded (extents_of rest)
    ++ (if b then [] else part.Unmapped (offset + (e.len + length rest)) ∷ [])))
    (same_left e.len (length rest) left is.short)
    ∙ ap (λ k. part.Of e opens rounded ∷ (extent_parts false rounded (extents_of rest)
    ++ (if nat_eq (length rest) (left - e.len) then [] else part.Unmapped k ∷ []))) more
