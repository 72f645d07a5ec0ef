use Rattle.std.proofs.Common.{◌/◌, min, ap, sym, ◌∙◌, subst}
use Rattle.std.specs.Prelude.{Some, is_some}
use Rattle.std.specs.Option.{option_copied_mut}
use Rattle.std.specs.HashMap.{spare}
use Rattle.busdma_machine.specs.Machine.Page.{FrameBytes}
use Rattle.phys_memory.specs.Memory.{RoomyFrames as Roomy, memory_has_frame}
use Rattle.phys_memory.specs.Memory.{rewritten, wire, memory_written}
use Rattle.phys_memory.proofs.Kept.{has_frame-kept}
use Rattle.phys_memory.proofs.Changes.{Puts, IsSome-found_mut, kept_rewritten, memory_rewritten, places_rewritten}
use Rattle.phys_memory.proofs.Changes.{wire_after}
use Rattle.phys_memory.proofs.pages.LanePages.write.Goals as goal

pub unwrap-page-requires : goal.unwrap-page-requires
unwrap-page-requires c =
    let m = c.self.inside in
    IsSome-found_mut c.get_mut.result _ c.get_mut.ensures.value
    (sym (has_frame-kept m.table.entries m.frames.entries (c.args.pa.0 / 4096))
    ∙ ap (λ (r : Roomy). memory_has_frame r.memory (c.args.pa.0 / 4096)) c.self.view_is ∙ c.requires.there)

pub invariant_of-self : goal.invariant_of-self
invariant_of-self c =
    let m = c.self.inside in
    let told = c.get_mut.follows.holds c.write.new.self in
    let found = sym c.get_mut.ensures.value ∙ ap option_copied_mut c.unwrap-page.ensures in
    let puts = (told.3 (ap is_some found)).0 in
    let put =
    subst (λ (p : FrameBytes). Puts m.frames.entries (c.get_mut.follows.lender c.write.new.self).entries
    (c.args.pa.0 / 4096) (Some p)) c.write.ensures.page puts in
    record {
      memory = kept_rewritten m.table.entries m.frames.entries _ c.args.pa.0 c.unwrap-page.result.now c.args.bytes.now
          c.self.invariant.memory found c.requires.inside put;
      at_frames =
          places_rewritten m.frames.entries _ c.args.pa.0 c.unwrap-page.result.now c.args.bytes.now
          c.self.invariant.at_frames found put;
      stretches_are = c.self.invariant.stretches_are;
      stretches_count = c.self.invariant.stretches_count;
    }

pub returns-clause-memory : goal.returns-clause-memory
returns-clause-memory c =
    let m = c.self.inside in
    let told = c.get_mut.follows.holds c.write.new.self in
    let found = sym c.get_mut.ensures.value ∙ ap option_copied_mut c.unwrap-page.ensures in
    let puts = (told.3 (ap is_some found)).0 in
    let put =
    subst (λ (p : FrameBytes). Puts m.frames.entries (c.get_mut.follows.lender c.write.new.self).entries
    (c.args.pa.0 / 4096) (Some p)) c.write.ensures.page puts in
    let new =
    memory_rewritten m.table.entries m.frames.entries _ c.args.pa.0
    c.unwrap-page.result.now c.args.bytes.now found put in
    new ∙ ap (λ (r : Roomy). rewritten r.memory c.args.pa.0 c.args.bytes.now) c.self.view_is

pub returns-clause-spare : goal.returns-clause-spare
returns-clause-spare c =
    let told = c.get_mut.follows.holds c.write.new.self in
    ap (min (spare c.self.inside.table)) told.6 ∙ ap (λ (r : Roomy). r.spare) c.self.view_is

pub returns-clause-wire : goal.returns-clause-wire
returns-clause-wire c =
    let m = c.self.inside in
    let told = c.get_mut.follows.holds c.write.new.self in
    let found = sym c.get_mut.ensures.value ∙ ap option_copied_mut c.unwrap-page.ensures in
    let puts = (told.3 (ap is_some found)).0 in
    let put =
    subst (λ (p : FrameBytes). Puts m.frames.entries (c.get_mut.follows.lender c.write.new.self).entries
    (c.args.pa.0 / 4096) (Some p)) c.write.ensures.page puts in
    let new =
    memory_rewritten m.table.entries m.frames.entries _ c.args.pa.0
    c.unwrap-page.result.now c.args.bytes.now found put in
    let there = ap (λ (r : Roomy). memory_has_frame r.memory (c.args.pa.0 / 4096)) c.self.view_is ∙ c.requires.there in
    ap wire new ∙ wire_after _ c.args.pa.0 c.args.bytes.now c.self.invariant.memory there c.requires.inside
    ∙ ap (λ (r : Roomy). memory_written c.args.pa.0 c.args.bytes.now (wire r.memory)) c.self.view_is
