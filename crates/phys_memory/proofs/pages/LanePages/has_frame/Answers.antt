use Rattle.std.proofs.Common.{sym, ap, ◌∙◌}
use Rattle.phys_memory.specs.Memory.{RoomyFrames as Roomy, memory_has_frame}
use Rattle.phys_memory.proofs.Kept.{has_frame-kept}
use Rattle.phys_memory.proofs.pages.LanePages.has_frame.Goals as goal

pub returns-clause-is : goal.returns-clause-is
returns-clause-is c =
    c.contains_key.ensures ∙ sym (has_frame-kept c.self.inside.table.entries c.self.inside.frames.entries c.args.frame)
    ∙ ap (λ (r : Roomy). memory_has_frame r.memory c.args.frame) c.self.view_is
