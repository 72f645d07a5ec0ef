use Rattle.std.proofs.Common.{◌≡◌, ◌==◌, true, length, drop, ◌-◌}
use Rattle.std.specs.List.{list_any}
use Rattle.busdma_machine.specs.Machine.PageList.{page_frames}
use Rattle.device_model.proofs.lookup.page_of.Given as goal

abbrev pub invariant-loop-place : goal.invariant-loop-place
invariant-loop-place l = list_any (λ f. l.frame == f) (drop l.place (page_frames l.pages)) ≡ true

abbrev pub decreases-loop-place : goal.decreases-loop-place
decreases-loop-place l = length l.pages - l.place
