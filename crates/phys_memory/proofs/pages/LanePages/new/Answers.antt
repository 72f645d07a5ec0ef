use Rattle.std.proofs.Common.{ℕ, List, ap, refl}
use Rattle.std.specs.Ordering.{nat_cmp}
use Rattle.std.specs.FinMap.{from_entries}
use Rattle.busdma_machine.specs.Machine.Page.{FrameBytes}
use Rattle.phys_memory.specs.declared.reach.Reach.{Reach}
use Rattle.phys_memory.specs.Kept.{contents}
use Rattle.phys_memory.proofs.Kept.{empty_memory, no_pages}
use Rattle.phys_memory.proofs.Stretches.{all_none}
use Rattle.phys_memory.proofs.pages.LanePages.new.Goals as goal

pub invariant_of-result : goal.invariant_of-result
invariant_of-result c = record {
  memory = empty_memory _ (ap (λ (es : List (ℕ × Reach)). from_entries {R = nat_cmp} es) c.new.ensures.empty)
      (ap (λ (es : List (ℕ × FrameBytes)). from_entries {R = nat_cmp} (contents es)) c.new-2.ensures.empty);
  at_frames = no_pages _ c.new-2.ensures.empty;
  stretches_are = all_none _ 16 _ c.none.ensures;
  stretches_count = refl;
}
