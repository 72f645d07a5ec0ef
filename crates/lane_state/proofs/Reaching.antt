-- The extents of bytes that a driver reaches.
use Rattle.std.proofs.Common.{◌≡◌, ℕ, ◌<◌, ◌^◌, Bool, length, map, ap, sym, ◌∙◌, Result, Ok, Err, IfOk, arith}
use Rattle.std.specs.List.{AllByRecursion}
use Rattle.std.specs.Ordering.{nat_cmp}
use Rattle.std.specs.FinMap.{FinMap, get}
use Rattle.std.proofs.lemmas.List.{length-map}
use Rattle.busdma_machine.specs.Runs.{run_of, addresses, byte_count, IsExtent}
use Rattle.phys_memory.specs.declared.walk.Walked.{Walked}
use Rattle.phys_memory.specs.declared.walk.Walked.TheVariants.{Parts, Unmapped}
use Rattle.phys_memory.specs.Frames.{SamePages}
use Rattle.phys_memory.specs.Memory.{FrameMemory, memory_physical}
use Rattle.phys_memory.specs.Extents.{LiesInFrames}
use Rattle.phys_memory.specs.Walk.{IfParts}
use Rattle.loan_table.specs.Table.{AreIn}
use Rattle.loan_table.proofs.Judgement.{length-run_of}
use Rattle.memory_pages.specs.Placed.{AreAtTheirFrames}
use Rattle.lane_state.specs.declared.kept.KeptMemory.{KeptMemory}
use Rattle.lane_state.specs.Covered.{AreStanding, IsCovered}
use Rattle.lane_state.proofs.CoveredLaws.{lie_in}
use Rattle.lane_state.proofs.WireBytes.{byte_count_addresses}

-- extents that are reached have only bytes of the driver's table
pub reach_inside : {E : Type 0} (m : FrameMemory) (bytes : FinMap nat_cmp Bool) (r : Result Walked E) →
    IsCovered m bytes →
    IfOk r (λ w. IfParts w (AllByRecursion IsExtent)) → IfOk r (λ w. IfParts w (AllByRecursion (LiesInFrames m)))
    → IfOk r (λ w. IfParts w (λ es. AreIn bytes (addresses es)))
reach_inside m bytes (Ok (Parts es)) c h k = lie_in m bytes es c h k
reach_inside m bytes (Ok (Unmapped at)) c h k = tt
reach_inside m bytes (Err e) c h k = tt

-- extents that are reached have as many bytes as were asked for
pub reach_len : {E : Type 0} (f : ℕ → ℕ) (va len : ℕ) (r : Result Walked E) →
    IfOk r (λ w. IfParts w (λ es. addresses es ≡ map f (run_of va len))) →
    IfOk r (λ w. IfParts w (λ es. length (addresses es) ≡ len))
reach_len f va len (Ok (Parts es)) h = ap length h ∙ length-map (run_of va len) f ∙ length-run_of va len
reach_len f va len (Ok (Unmapped at)) h = tt
reach_len f va len (Err e) h = tt

pub reach_total : {E : Type 0} (len : ℕ) (r : Result Walked E) → len < 2 ^ 64 →
    IfOk r (λ w. IfParts w (λ es. length (addresses es) ≡ len)) →
    IfOk r (λ w. IfParts w (λ es. byte_count es < 2 ^ 64))
reach_total len (Ok (Parts es)) b h = omega (arith, b, byte_count_addresses es, h)
reach_total len (Ok (Unmapped at)) b h = tt
reach_total len (Err e) b h = tt

-- a memory with the same pages is reached the same way
pub same-physical : (m n : FrameMemory) → SamePages m n → memory_physical n ≡ memory_physical m
same-physical m n s = ap (λ t. λ va. memory_physical (record { table = t; frames = n.frames }) va) s.table

-- each page of a memory still has its own frame
pub same-placed : (m n : FrameMemory) → SamePages m n → AreAtTheirFrames m → AreAtTheirFrames n
same-placed m n s placed v r e high =
    let is = placed v r (sym (ap (λ t. get t v) s.table) ∙ e) high in
    record { own = is.own; there = s.frames r.frame ∙ is.there }

-- memories are in the same frames as before
pub same-standing : (memories : FinMap nat_cmp KeptMemory) (m n : FrameMemory) → SamePages m n →
    AreStanding memories m →
    AreStanding memories n
same-standing memories m n s standing k x e v h = ap (λ t. get t v) s.table ∙ standing k x e v h
