-- Extents that lie in a memory, and memories that have the same frames.
use Rattle.std.proofs.Common.{◌≡◌, ℕ, ◌/◌, ◌%◌, true, cond, List, [], ◌∷◌, refl, sym, ap, ◌∙◌, inl, inr}
use Rattle.std.specs.Prelude.{Some, is_some, unwrap_or}
use Rattle.std.specs.FinMap.{get}
use Rattle.std.specs.List.{AllByRecursion}
use Rattle.std.proofs.lemmas.Bool.Decides.{eqb_tells}
use Rattle.busdma_machine.specs.declared.machine.address.Extent.{Extent}
use Rattle.busdma_machine.specs.Machine.Page.{overwritten}
use Rattle.phys_memory.specs.Extents.{LiesInFrames}
use Rattle.phys_memory.specs.Frames.{Lie, SamePages}
use Rattle.phys_memory.specs.Memory.{FrameMemory, memory_has_frame, rewritten}
use Rattle.phys_memory.proofs.Tables.{get_inserted}

lies_all : (m n : FrameMemory) (es : List Extent) → SamePages m n →
    AllByRecursion (LiesInFrames m) es → AllByRecursion (LiesInFrames n) es
lies_all m n [] s h = tt
lies_all m n (e ∷ es) s h = (s.frames (e.pa.0 / 4096) ∙ h.0, lies_all m n es s h.1)

-- extents lie in each memory with the same pages
pub lie_same : (m n : FrameMemory) (es : List Extent) → SamePages m n → Lie m es → Lie n es
lie_same m n es s h = record { extents = h.extents; frames = lies_all m n es s h.frames }

-- bytes that are written in a frame change no page
pub same_rewritten : (m : FrameMemory) (pa : ℕ) (bs : List ℕ) →
    memory_has_frame m (pa / 4096) ≡ true → SamePages m (rewritten m pa bs)
same_rewritten m pa bs h = record { table = refl; frames = at }
  where
    at : (f : ℕ) → memory_has_frame (rewritten m pa bs) f ≡ memory_has_frame m f
    at f =
        let bytes = overwritten (unwrap_or (get m.frames (pa / 4096)) []) (pa % 4096) bs in
        ap is_some (get_inserted m.frames (pa / 4096) bytes f) ∙ elim (eqb_tells f (pa / 4096)) [
          | inl t ↦ ap (λ b. is_some (cond b (Some bytes) (get m.frames f))) t.0 ∙ sym (ap (memory_has_frame m) t.1 ∙ h)
          | inr t ↦ ap (λ b. is_some (cond b (Some bytes) (get m.frames f))) t.0
        ]

-- a memory that did not change
pub same_refl : (m : FrameMemory) → SamePages m m
same_refl m = record { table = refl; frames = λ f. refl }

-- two changes in turn, if no page changes in them
pub same_trans : (m n o : FrameMemory) → SamePages m n → SamePages n o → SamePages m o
same_trans m n o h k = record { table = k.table ∙ h.table; frames = λ f. k.frames f ∙ h.frames f }
