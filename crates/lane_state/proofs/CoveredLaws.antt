-- The bytes of a lane's frames are in its table.
use Rattle.std.proofs.Common.{◌≡◌, ℕ, zero, suc, ◌+◌, ◌/◌, ◌*◌, ◌≤◌, Bool, true, List, [], ◌∷◌, ◌++◌, length, map}
use Rattle.std.proofs.Common.{refl, sym, ap, ◌∙◌, arith, length-append}
use Rattle.std.specs.List.{AllByRecursion}
use Rattle.std.proofs.lemmas.List.Sums.{sum_by-cons}
use Rattle.loan_table.proofs.Judgement.{length-run_of}
use Rattle.std.specs.Ordering.{nat_cmp}
use Rattle.std.specs.FinMap.{FinMap}
use Rattle.busdma_machine.specs.declared.machine.address.Extent.{Extent}
use Rattle.busdma_machine.specs.Runs.{run_of, addresses, byte_count, IsExtent}
use Rattle.phys_memory.specs.Memory.{FrameMemory, memory_has_frame}
use Rattle.phys_memory.specs.Extents.{LiesInFrames}
use Rattle.loan_table.specs.Table.{AreIn}
use Rattle.lane_state.specs.Covered.{IsCovered}

-- a run within a frame
run_in : (m : FrameMemory) (bytes : FinMap nat_cmp Bool) (f a n : ℕ) → IsCovered m bytes → memory_has_frame m f ≡ true →
    4096 * f ≤ a → a + n ≤ 4096 * f + 4096 → AreIn bytes (run_of a n)
run_in m bytes f a zero c h lo hi = tt
run_in m bytes f a (suc n) c h lo hi =
    let e : a / 4096 ≡ f = omega arith in
    (c a ∙ ap (memory_has_frame m) e ∙ h, run_in m bytes f (a + 1) n c h (omega arith) (omega arith))

AreIn-join : (bytes : FinMap nat_cmp Bool) (xs ys : List ℕ) → AreIn bytes xs → AreIn bytes ys → AreIn bytes (xs ++ ys)
AreIn-join bytes [] ys h k = k
AreIn-join bytes (x ∷ xs) ys h k = (h.0, AreIn-join bytes xs ys h.1 k)

-- extents in the driver's frames have only bytes of its table
pub lie_in : (m : FrameMemory) (bytes : FinMap nat_cmp Bool) (es : List Extent) → IsCovered m bytes →
    AllByRecursion IsExtent es → AllByRecursion (LiesInFrames m) es → AreIn bytes (addresses es)
lie_in m bytes [] c h k = tt
lie_in m bytes (e ∷ es) c h k =
    let i = h.0.in_frame in
    AreIn-join bytes (run_of e.pa.0 e.len) (addresses es)
    (run_in m bytes (e.pa.0 / 4096) e.pa.0 e.len c k.0 (omega arith) (omega arith)) (lie_in m bytes es c h.1 k.1)

-- extents have as many bytes as addresses
pub byte_count_is : (es : List Extent) → byte_count es ≡ length (addresses es)
byte_count_is [] = refl
byte_count_is (e ∷ es) =
    sum_by-cons (λ (x : Extent). x.len) e es ∙ ap (λ n. e.len + n) (byte_count_is es)
    ∙ sym (length-append (run_of e.pa.0 e.len) (addresses es)
    ∙ ap (λ n. n + length (addresses es)) (length-run_of e.pa.0 e.len))

-- as many addresses as were asked for
pub length-map-run : (f : ℕ → ℕ) (a n : ℕ) → length (map f (run_of a n)) ≡ n
length-map-run f a zero = refl
length-map-run f a (suc n) = ap suc (length-map-run f (a + 1) n)
