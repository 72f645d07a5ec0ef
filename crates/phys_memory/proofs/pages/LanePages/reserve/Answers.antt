use Rattle.std.proofs.Common.{sym, ap, ◌∙◌, subst}
use Rattle.std.specs.Ordering.{nat_cmp}
use Rattle.std.specs.FinMap.{FinMap}
use Rattle.phys_memory.specs.declared.reach.Reach.{Reach}
use Rattle.phys_memory.specs.Memory.{RoomyFrames as Roomy, IsMemory}
use Rattle.phys_memory.specs.Stretches.{AreStretches}
use Rattle.phys_memory.proofs.Changes.{same_memory, same_places}
use Rattle.phys_memory.proofs.Tables.{made_same}
use Rattle.phys_memory.proofs.pages.LanePages.reserve.Goals as goal

pub invariant_of-self-2 : goal.invariant_of-self-2
invariant_of-self-2 c = record {
  memory =
      subst IsMemory (sym (same_memory _ _ _ _ c.in_ok-reserve.ensures.entries.2 c.reserve-2.ensures.entries.2))
      c.self.invariant.memory;
  at_frames = same_places _ _ c.reserve-2.ensures.entries.2 c.self.invariant.at_frames;
  stretches_are =
      subst (λ (t : FinMap nat_cmp Reach). AreStretches t c.self.inside.stretches)
      (sym (made_same _ _ c.in_ok-reserve.ensures.entries.2)) c.self.invariant.stretches_are;
  stretches_count = c.self.invariant.stretches_count;
}

pub returns-clause-memory : goal.returns-clause-memory
returns-clause-memory c =
    same_memory _ _ _ _ c.in_ok-reserve.ensures.entries.2 c.reserve-2.ensures.entries.2
    ∙ ap (λ (r : Roomy). r.memory) c.self.view_is
