use Rattle.std.proofs.Common.{Vec, Global, false, [], ◌∷◌, ◌++◌, refl, ap, sym, ◌∙◌}
use Rattle.busdma_machine.specs.declared.machine.chunk.Entry.{Entry}
use Rattle.phys_memory.specs.declared.entries.Entries.TheVariants as walk
use Rattle.phys_memory.specs.declared.walk.Walked.TheVariants.{Parts}
use Rattle.phys_memory.specs.Walk.{walked}
use Rattle.load_bio.proofs.FrameWalks.{no_entry, one_entry, past_end}
use Rattle.load_bio.proofs.frame_walk.walk_frames.Goals.{then-not-is_empty+in_ok-push, else-not-is_empty}
use Rattle.load_bio.proofs.frame_walk.walk_frames.Goals as goal

pub returns-in-Unmapped : goal.returns-in-Unmapped
returns-in-Unmapped c =
    let l = c.loop-part in
    let here = c.in-Some.ensures.steps ∙ ap (λ p. p ∷ c.next.new.self) c.in-Unmapped.is in
    past_end c.args.frames.now c.args.off c.args.len (walked l.parts.items l.part-iterator) l.invariant
    c.in-Unmapped.at (ap (walked l.parts.items) here)

pub returns : goal.returns
returns c =
    let l = c.loop-part in
    let fs = c.args.frames.now in
    let off = c.args.off in
    let len = c.args.len in
    let es = c.new-parts-2.result in
    let w = walked l.parts.items l.part-iterator in
    let is = ap (walked l.parts.items) c.in-None.ensures.steps.0 in
    ap walk.All c.new.ensures ∙ elim c.if-not-is_empty.branch [
      | then-not-is_empty+in_ok-push b ↦
          ap (λ (v : Vec Entry Global). walk.All v.items) b.entries-is ∙ ap walk.All b.in_ok-push.ensures.items
          ∙ ap (λ xs. walk.All (xs ++ record { rounded = false; parts = es } ∷ [])) c.new-entries.ensures.items
          ∙ one_entry fs off len w l.invariant es (is
          ∙ ap Parts (sym c.new-parts-2.ensures)) b.if-not-is_empty.ensures.1
      | else-not-is_empty b ↦
          ap (λ (v : Vec Entry Global). walk.All v.items) b.entries-is ∙ ap walk.All c.new-entries.ensures.items
          ∙ no_entry fs off len w l.invariant (is
          ∙ ap Parts (sym c.new-parts-2.ensures ∙ b.if-not-is_empty.ensures.0 refl))
    ]
