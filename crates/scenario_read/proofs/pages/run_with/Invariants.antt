use Rattle.std.proofs.Common.{◌≡◌, ℕ, true, drop}
use Rattle.std.specs.List.{list_any, AllByRecursion}
use Rattle.busdma_base.specs.Scenarios.FrameRuns.{IsNumbered, is_in}
use Rattle.scenario_read.proofs.pages.run_with.Given as goal

abbrev pub invariant-loop-run : goal.invariant-loop-run
invariant-loop-run l = record {
  rest : list_any (is_in l.frame) (drop l.run-index l.frames) ≡ list_any (is_in l.frame) l.frames;
  numbers : AllByRecursion IsNumbered (drop l.run-index l.frames);
  within : (x : ℕ) → list_any (is_in x) (drop l.run-index l.frames) ≡ true → list_any (is_in x) l.frames ≡ true;
}
