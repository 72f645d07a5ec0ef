-- If no tag has an address space, none has one after a tag has gone or a load has ended.
use Rattle.std.proofs.Common.{◌≡◌, ℕ, ◌==◌, Bool, true, false, if◌then◌else◌, refl, ap, sym, ◌∙◌}
use Rattle.busdma_rules.specs.Iommu.Space.{Space, run_unmapped}
use Rattle.ideal_lane.specs.State.{no_space}
use Rattle.ideal_lane.specs.Tags.{with_space}

still-none : (b : Bool) → (if b then no_space else no_space) ≡ no_space
still-none true = refl
still-none false = refl

pub none-spaced : (spaces : ℕ → Space) (t : ℕ) → spaces ≡ (λ k. no_space) → with_space t no_space spaces ≡ spaces
none-spaced spaces t none =
    ap (with_space t no_space) none ∙ (λ i k. still-none (k == t) i) ∙ sym none

pub none-left : (spaces : ℕ → Space) (t first : ℕ) → spaces ≡ (λ k. no_space) →
    with_space t (run_unmapped first (spaces t)) spaces ≡ spaces
none-left spaces t first none =
    (λ i. with_space t (run_unmapped first (none i t)) (none i)) ∙ (λ i k. still-none (k == t) i) ∙ sym none
