-- The extents of bytes.
use Rattle.std.proofs.Common.{◌≡◌, ℕ, zero, suc, ◌+◌, ◌%◌, ◌<◌, ◌≤◌, List, [], ◌∷◌, ◌++◌, length, refl, ap, sym, ◌∙◌}
use Rattle.std.proofs.Common.{◌≢◌, arith}
use Rattle.busdma_machine.specs.Runs.{run_of}
use Rattle.phys_memory.specs.Extents.{BeginsFrame}
use Rattle.busdma_rules.specs.Memory.Extents.{extents_of, with_byte}
use Rattle.busdma_rules.proofs.Memory.Extents.{extent, with_byte-cut, with_byte-joined, begins}

-- ---- a run of bytes of one frame is one extent

last_byte : (pa : ℕ) (rest : List ℕ) → BeginsFrame rest →
    with_byte pa (extents_of rest) ≡ extent pa 1 ∷ extents_of rest
last_byte pa [] h = refl
last_byte pa (q ∷ qs) h =
    let b = begins q (extents_of qs) in
    ap (with_byte pa) b.are ∙ with_byte-cut pa b.first b.others (ap (λ a. a % 4096) b.at ∙ h)
    ∙ ap (λ es. extent pa 1 ∷ es) (sym b.are)

pub extents_of-run : (pa n : ℕ) (rest : List ℕ) → 0 < n → pa % 4096 + n ≤ 4096 → BeginsFrame rest →
    extents_of (run_of pa n ++ rest) ≡ extent pa n ∷ extents_of rest
extents_of-run pa zero rest some h cut = absurd (omega arith)
extents_of-run pa (suc zero) rest some h cut = last_byte pa rest cut
extents_of-run pa (suc (suc n)) rest some h cut =
    let apart : (pa + 1) % 4096 ≢ 0 = omega arith in
    let one : 1 + suc n ≡ suc (suc n) = omega arith in
    ap (with_byte pa) (extents_of-run (pa + 1) (suc n) rest (omega arith) (omega arith) cut)
    ∙ with_byte-joined pa (extent (pa + 1) (suc n)) (extents_of rest) apart
    ∙ ap (λ k. extent pa k ∷ extents_of rest) one

pub length-run_of : (pa n : ℕ) → length (run_of pa n) ≡ n
length-run_of pa zero = refl
length-run_of pa (suc n) = omega (arith, length-run_of (pa + 1) n)
