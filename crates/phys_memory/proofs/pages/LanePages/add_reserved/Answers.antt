use Rattle.std.proofs.Common.{◌/◌, arith, ◌≡◌, Bool, true, false, ap, sym, ◌∙◌, subst, if◌then◌else◌, ◌<◌, ◌^◌}
use Rattle.std.specs.Prelude.{Some, None}
use Rattle.phys_memory.specs.Memory.{RoomyFrames as Roomy, IsMemory}
use Rattle.phys_memory.specs.Memory.{memory_has_frame, memory_has_page, with_page}
use Rattle.phys_memory.specs.Kept.{memory_of}
use Rattle.phys_memory.proofs.Kept.{has_page-kept, memory_with_page}
use Rattle.phys_memory.proofs.Changes.{memory_put, place_put}
use Rattle.phys_memory.proofs.Stretches.{length_set, put_grown}
use Rattle.phys_memory.proofs.Tables.{made_inserted}
use Rattle.phys_memory.proofs.pages.LanePages.add_reserved.Goals as goal

pub returns-then-contains_key-clause-answer : goal.returns-then-contains_key-clause-answer
returns-then-contains_key-clause-answer c =
    let m = c.self.inside in
    let taken : memory_has_page c.args.self.now.memory c.args.va.0 ≡ true =
    ap (λ (r : Roomy). memory_has_page r.memory c.args.va.0) (sym c.self.view_is)
    ∙ has_page-kept m.table.entries m.frames.entries c.args.va.0
    ∙ sym c.contains_key.ensures ∙ c.if-contains_key.true in
    ap (λ (b : Bool). if b then Some c.args.page else None) (sym taken)

pub returns-then-contains_key-clause-memory : goal.returns-then-contains_key-clause-memory
returns-then-contains_key-clause-memory c =
    let m = c.self.inside in
    let taken : memory_has_page c.args.self.now.memory c.args.va.0 ≡ true =
    ap (λ (r : Roomy). memory_has_page r.memory c.args.va.0) (sym c.self.view_is)
    ∙ has_page-kept m.table.entries m.frames.entries c.args.va.0
    ∙ sym c.contains_key.ensures ∙ c.if-contains_key.true in
    ap (λ (b : Bool). if b then c.args.self.now.memory
    else with_page c.args.self.now.memory c.args.va.0 c.args.page c.args.reach) (sym taken)

pub invariant_of-self : goal.invariant_of-self
invariant_of-self c =
    let m = c.self.inside in
    let old = memory_of m.table.entries m.frames.entries in
    let rows = rw c.unwrap.ensures at c.insert-row.ensures.updates in
    let pages = rw c.unwrap-2.ensures at c.insert-kept.ensures.updates in
    let free : memory_has_page old c.args.va.0 ≡ false =
    has_page-kept m.table.entries m.frames.entries c.args.va.0
    ∙ sym c.contains_key.ensures ∙ c.if-contains_key.false in
    let fresh : memory_has_frame old c.args.page.frame ≡ false =
    ap (λ (r : Roomy). memory_has_frame r.memory c.args.page.frame) c.self.view_is ∙ c.requires.fresh in
    let whole = c.whole_frame-frame.ensures in
    record {
      memory =
          subst IsMemory (sym (memory_put _ _ _ _ c.args.va.0 _ c.args.page c.args.reach whole.number rows.0 pages.0))
          (memory_with_page old c.args.va.0 c.args.page c.args.reach c.self.invariant.memory free fresh
          (subst (λ n. n < 2 ^ 30) whole.number whole.below) whole.whole c.requires.reach);
      at_frames = place_put _ _ c.args.page (rw whole.number at pages.0) c.self.invariant.at_frames;
      stretches_are =
          put_grown _ _ (c.args.va.0 / 4096) _ m.stretches c.slot_of-slot.result c.grown.result
          (made_inserted _ _ (c.args.va.0 / 4096) _ rows.0) free (omega arith) whole.below c.slot_of-slot.ensures.is
          (omega (arith, c.slot_of-slot.ensures.low, c.self.invariant.stretches_count))
          c.grown.ensures c.self.invariant.stretches_are;
      stretches_count = length_set m.stretches c.slot_of-slot.result c.grown.result ∙ c.self.invariant.stretches_count;
    }

pub returns-clause-answer : goal.returns-clause-answer
returns-clause-answer c =
    let m = c.self.inside in
    let free : memory_has_page c.args.self.now.memory c.args.va.0 ≡ false =
    ap (λ (r : Roomy). memory_has_page r.memory c.args.va.0) (sym c.self.view_is)
    ∙ has_page-kept m.table.entries m.frames.entries c.args.va.0
    ∙ sym c.contains_key.ensures ∙ c.if-contains_key.false in
    ap (λ (b : Bool). if b then Some c.args.page else None) (sym free)

pub returns-clause-memory : goal.returns-clause-memory
returns-clause-memory c =
    let m = c.self.inside in
    let rows = rw c.unwrap.ensures at c.insert-row.ensures.updates in
    let pages = rw c.unwrap-2.ensures at c.insert-kept.ensures.updates in
    let free : memory_has_page c.args.self.now.memory c.args.va.0 ≡ false =
    ap (λ (r : Roomy). memory_has_page r.memory c.args.va.0) (sym c.self.view_is)
    ∙ has_page-kept m.table.entries m.frames.entries c.args.va.0
    ∙ sym c.contains_key.ensures ∙ c.if-contains_key.false in
    memory_put _ _ _ _ c.args.va.0 _ c.args.page c.args.reach c.whole_frame-frame.ensures.number rows.0 pages.0
    ∙ ap (λ (r : Roomy). with_page r.memory c.args.va.0 c.args.page c.args.reach) c.self.view_is
    ∙ ap (λ (b : Bool). if b then c.args.self.now.memory
    else with_page c.args.self.now.memory c.args.va.0 c.args.page c.args.reach) (sym free)
