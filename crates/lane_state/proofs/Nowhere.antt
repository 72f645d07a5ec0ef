-- No byte is reached at 2^64 or above.
use Rattle.std.proofs.Common.{◌≡◌, ℕ, zero, suc, ◌+◌, ◌/◌, ◌%◌, ◌^◌, ◌≤◌, true, false, List, [], length, map, None}
use Rattle.std.proofs.Common.{refl, sym, ap, ◌∙◌, subst, arith}
use Rattle.std.specs.Prelude.{if◌then◌else◌}
use Rattle.std.specs.FinMap.{get}
use Rattle.std.proofs.lemmas.Bool.{le-ltb, ne_eqb}
use Rattle.busdma_machine.specs.declared.machine.address.Extent.{Extent}
use Rattle.busdma_machine.specs.declared.machine.bio.Bio.TheVariants as bio
use Rattle.busdma_machine.specs.Judging.{judged, refused_or}
use Rattle.busdma_machine.specs.Runs.{addresses, run_of}
use Rattle.load_bio.specs.Bio.{bio_stream}
use Rattle.busdma_rules.specs.Memory.BioFrames.{in_frames}
use Rattle.phys_memory.specs.declared.walk.Walked.TheVariants as walk
use Rattle.busdma_rules.specs.Memory.Extents.{reached_addresses, then_reached}
use Rattle.phys_memory.specs.Memory.{FrameMemory, memory_physical, reached_in}
use Rattle.busdma_rules.specs.Memory.Translation.{Translation, missing, unreached}
use Rattle.phys_memory.specs.Walk.{IfParts, run_stream, verdict, walk_of}
use Rattle.phys_memory.proofs.VectorLaws.{spans_one}

pub nowhere : (m : FrameMemory) (va : ℕ) → 2 ^ 64 ≤ va → memory_physical m va ≡ None
nowhere m va high =
    ap (λ b. reached_in (if b then get m.table (va / 4096) else None) (va % 4096)) (le-ltb va (2 ^ 64) high)

-- the walk over bytes of which none is reached
walk-some : (n : ℕ) → walk_of [] (suc n) ≡ walk.Unmapped 0
walk-some n = ap (λ b. if b then walk.Parts [] else walk.Unmapped 0) (ne_eqb 0 (suc n) (λ e. absurd (omega arith)))

pub nowhere-verdict : (m : FrameMemory) (va len : ℕ) → 2 ^ 64 ≤ va →
    verdict (walk_of [] len) ≡ judged (unreached (memory_physical m)) 0 (run_of va len)
nowhere-verdict m va zero high = refl
nowhere-verdict m va (suc n) high =
    ap verdict (walk-some n)
    ∙ sym (ap (λ o. refused_or (missing o) 0 (judged (unreached (memory_physical m)) 1 (run_of (va + 1) n)))
    (nowhere m va high))

pub nowhere-bytes : (f : ℕ → ℕ) (va len : ℕ) → IfParts (walk_of [] len) (λ es. addresses es ≡ map f (run_of va len))
nowhere-bytes f va zero = refl
nowhere-bytes f va (suc n) =
    subst (λ w. IfParts w (λ es. addresses es ≡ map f (run_of va (suc n)))) (sym (walk-some n)) tt

pub nowhere-parts : (P : List Extent → Type 0) (len : ℕ) → P [] → IfParts (walk_of [] len) P
nowhere-parts P zero h = h
nowhere-parts P (suc n) h = subst (λ w. IfParts w P) (sym (walk-some n)) tt

pub nowhere-len : (len : ℕ) → IfParts (walk_of [] len) (λ es. length (addresses es) ≡ len)
nowhere-len zero = refl
nowhere-len (suc n) = subst (λ w. IfParts w (λ es. length (addresses es) ≡ suc n)) (sym (walk-some n)) tt

-- a stream of bytes of which the first is not reached
reached-none : (t : Translation) (va n : ℕ) → t va ≡ None → reached_addresses t va n ≡ []
reached-none t va zero none = refl
reached-none t va (suc n) none = ap (λ o. then_reached o (reached_addresses t (va + 1) n)) none

pub nowhere-stream : (t : Translation) (va len : ℕ) → t va ≡ None →
    bio_stream t (bio.Unmapped [] 0 len) ≡ bio_stream t (bio.Mapped (record { va = record { 0 = va }; len = len }))
nowhere-stream t va len none =
    spans_one false (in_frames []) 0 len
    ∙ ap (λ pas. run_stream pas len 0 true false) (reached-none (in_frames []) 0 len refl)
    ∙ sym (spans_one true t va len ∙ ap (λ pas. run_stream pas len 0 true true) (reached-none t va len none))
