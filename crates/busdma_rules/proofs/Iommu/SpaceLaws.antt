-- A space in which a run was entered carries its frames.
use Rattle.std.proofs.Common.{◌≡◌, ℕ, ◌+◌, ◌-◌, ◌*◌, ◌/◌, ◌%◌, ◌<◌, ◌≤◌, true, List, [], ◌∷◌, zero, suc, length, Some}
use Rattle.std.proofs.Common.{slice_get, option_map, ap, ◌∙◌, arith}
use Rattle.std.proofs.lemmas.Bool.{le-leb, lt-ltb}
use Rattle.busdma_rules.specs.Iommu.Space.{AreSpaceRuns, DeviceRun, Space, run_end}
use Rattle.busdma_rules.specs.Iommu.Space.{entered, first_free, frame_of_page, has_page}
use Rattle.busdma_rules.specs.Iommu.Space.{put_run, translated}
use Rattle.busdma_rules.proofs.Iommu.Entering.{frame-own}
use Rattle.busdma_rules.proofs.Iommu.Runs.{taken-gap}
use Rattle.busdma_rules.proofs.Iommu.Carrying.{Carries}

inside : {A : Type 0} (xs : List A) (i : ℕ) (x : A) → slice_get xs i ≡ Some x → i < length xs
inside [] i x e = absurd (cc)
inside (y ∷ xs) zero x e = omega arith
inside (y ∷ xs) (suc i) x e = omega (arith, inside xs i x e)

pub entered-carries : (s : Space) (frames : List ℕ) (first : ℕ) → AreSpaceRuns 1 s.pages s.runs → 1 ≤ length frames →
    first_free s (length frames) ≡ Some first → Carries (translated (entered (Some first) frames s)) first frames
entered-carries s frames first h some e i f a at page =
    let run : DeviceRun = record { first = first; frames = frames } in
    let within : i < length frames = inside frames i f at in
    let has : has_page (a / 4096) run ≡ true =
    rw (le-leb first (a / 4096) (omega arith)) (lt-ltb (a / 4096) (run_end run) (omega arith)) in
    let own : frame_of_page (put_run run s.runs) (a / 4096) ≡ slice_get frames (a / 4096 - first) =
    frame-own 1 s.pages (length frames) (a / 4096) run s.runs h some
    (taken-gap s (length frames) first h some e) has in
    ap (option_map (λ g. 4096 * g + a % 4096)) (own ∙ ap (slice_get frames) (omega arith) ∙ at)
