-- The frames of a run are in the machine, all at once.
use Rattle.std.proofs.Common.{◌≡◌, ℕ, zero, suc, ◌+◌, ◌≤◌, ◌<◌, List, true, sym, ap, ◌∙◌, arith, ◌&&◌}
use Rattle.std.proofs.lemmas.Bool.Decides.{nat_tests}
use Rattle.std.specs.List.{list_any}
use Rattle.busdma_base.specs.declared.scenarios.scenario.FrameRun.{FrameRun}
use Rattle.busdma_base.specs.Scenarios.FrameRuns.{is_in}
use Rattle.busdma_base.specs.Scenarios.PageRuns.{all_in}

within : (x : ℕ) (run : FrameRun) → run.first ≤ x → x < run.first + run.count → is_in x run ≡ true
within x run low high = grind (arith, nat_tests)

module _ (frames : List FrameRun) (run : FrameRun) (has : (x : ℕ) →
    is_in x run ≡ true → list_any (is_in x) frames ≡ true) where
  pub jump : (step rest next : ℕ) → run.first ≤ next → next + step ≤ run.first + run.count
      → all_in frames next (step + rest) ≡ all_in frames (next + step) rest
  jump zero rest next low high =
      let a : zero + rest ≡ rest = omega arith in
      let b : next + zero ≡ next = omega arith in
      ap (all_in frames next) a ∙ ap (λ n. all_in frames n rest) (sym b)
  jump (suc step) rest next low high =
      let a : suc step + rest ≡ suc (step + rest) = omega arith in
      let b : next + 1 + step ≡ next + suc step = omega arith in
      let here : list_any (is_in next) frames ≡ true = has next (within next run low (omega arith)) in
      ap (all_in frames next) a ∙ ap (λ t. t && all_in frames (next + 1) (step + rest)) here
      ∙ jump step rest (next + 1) (omega arith) (omega arith) ∙ ap (λ n. all_in frames n rest) b

pub at_least : (x : ℕ) (run : FrameRun) → is_in x run ≡ true → run.first ≤ x
at_least x run h = grind (arith, nat_tests)

pub below : (x : ℕ) (run : FrameRun) → is_in x run ≡ true → x < run.first + run.count
below x run h = grind (arith, nat_tests)
