use Rattle.std.proofs.Common.{Vec, Global, ◌+◌, true, drop, refl, ap, sym, ◌∙◌, subst, arith}
use Rattle.busdma_machine.specs.declared.machine.address.Span.{Span}
use Rattle.busdma_machine.specs.declared.machine.chunk.Entry.{Entry}
use Rattle.phys_memory.specs.declared.walk.Walked.TheVariants.{Parts}
use Rattle.phys_memory.specs.Memory.{RoomyFrames as Roomy, IsMemory, memory_physical}
use Rattle.phys_memory.proofs.Reached.{IsHeld, memory_paged}
use Rattle.phys_memory.proofs.VectorLaws.{bytes_here, missed_inside, past_entry, past_none, stopped, this, walk_bytes}
use Rattle.phys_memory.proofs.VectorLaws.{walk_end, walk_entries, walk_from, walk_have, walk_here, walk_touches}
use Rattle.phys_memory.proofs.pages.LanePages.walk_vector.Goals.{then-not-is_empty+in_ok-push, else-not-is_empty}
use Rattle.phys_memory.proofs.pages.LanePages.walk_vector.Goals as goal

-- the value that is read beyond the end of a list of spans
abbrev no_span : Span
no_span = record { va = record { 0 = 0 }; len = 0 }

pub overflow_add-result : goal.overflow_add-result
overflow_add-result c =
    let l = c.loop-span in
    let s =
    this (memory_physical c.args.self.now.memory) l.entries.items l.offset c.args.spans.now
    l.span-index no_span c.loop-span-test.true in
    let bytes =
    bytes_here (memory_physical c.args.self.now.memory) l.entries.items l.offset c.args.spans.now
    l.span-index no_span c.loop-span-test.true in
    omega (
      arith,
      bytes,
      l.invariant.total,
      c.requires,
      missed_inside (memory_physical c.args.self.now.memory) s.va.0 s.len c.in-Unmapped.at
          (sym c.in-Unmapped.is ∙ c.in_ok-at.ensures.walk),
    )

pub returns-in-Unmapped-clause-walk : goal.returns-in-Unmapped-clause-walk
returns-in-Unmapped-clause-walk c =
    let m = c.args.self.now.memory in
    let t = memory_physical m in
    let spans = c.args.spans.now in
    let l = c.loop-span in
    let s = this t l.entries.items l.offset spans l.span-index no_span c.loop-span-test.true in
    sym (stopped true t l.entries.items l.offset s (drop (l.span-index + 1) spans) c.in-Unmapped.at
    (sym c.in-Unmapped.is ∙ c.in_ok-at.ensures.walk))
    ∙ sym (walk_here t l.entries.items l.offset spans l.span-index no_span c.loop-span-test.true) ∙ l.invariant.walk

pub loop-span-preserved : goal.loop-span-preserved
loop-span-preserved c =
    let m = c.args.self.now.memory in
    let t = memory_physical m in
    let spans = c.args.spans.now in
    let l = c.loop-span in
    let s = this t l.entries.items l.offset spans l.span-index no_span c.loop-span-test.true in
    let rest = drop (l.span-index + 1) spans in
    let found = sym c.in-Parts.is ∙ c.in_ok-at.ensures.walk in
    let before = sym (walk_here t l.entries.items l.offset spans l.span-index no_span c.loop-span-test.true)
    ∙ l.invariant.walk in
    let bytes = bytes_here t l.entries.items l.offset spans l.span-index no_span c.loop-span-test.true in
    record {
      total = omega (arith, bytes, l.invariant.total);
      walk = elim c.if-not-is_empty.branch [
        | then-not-is_empty+in_ok-push w ↦
            ap (λ es. walk_from true t es (l.offset + s.len) rest)
            (ap (λ (v : Vec Entry Global). v.items) w.entries-is ∙ w.in_ok-push.ensures.items)
            ∙ sym (past_entry true t l.entries.items l.offset s rest c.in-Parts.parts found
            w.if-not-is_empty.ensures.1) ∙ before
        | else-not-is_empty w ↦
            ap (λ (v : Vec Entry Global). walk_from true t v.items (l.offset + s.len) rest) w.entries-is
            ∙ sym (past_none true t l.entries.items l.offset s rest
            (ap Parts (sym (w.if-not-is_empty.ensures.0 refl)) ∙ found)) ∙ before
      ];
    }

pub returns-clause-addresses : goal.returns-clause-addresses
returns-clause-addresses c =
    let m = c.args.self.now.memory in
    let t = memory_physical m in
    let l = c.loop-span in
    let sound = subst (λ (r : Roomy). IsMemory r.memory) c.self.view_is c.self.invariant.memory in
    walk_bytes (IsHeld m) true t c.args.spans.now c.new.result (memory_paged m sound)
    (walk_end t l.entries.items c.new.result l.offset c.args.spans.now l.span-index c.new.ensures
    c.loop-span-test.false l.invariant.walk)

pub returns-clause-entries : goal.returns-clause-entries
returns-clause-entries c =
    let m = c.args.self.now.memory in
    let t = memory_physical m in
    let l = c.loop-span in
    let sound = subst (λ (r : Roomy). IsMemory r.memory) c.self.view_is c.self.invariant.memory in
    walk_entries (IsHeld m) true t c.args.spans.now c.new.result (memory_paged m sound)
    (walk_end t l.entries.items c.new.result l.offset c.args.spans.now l.span-index c.new.ensures
    c.loop-span-test.false l.invariant.walk)

pub returns-clause-some : goal.returns-clause-some
returns-clause-some c =
    let m = c.args.self.now.memory in
    let t = memory_physical m in
    let l = c.loop-span in
    let sound = subst (λ (r : Roomy). IsMemory r.memory) c.self.view_is c.self.invariant.memory in
    walk_touches (IsHeld m) true t c.args.spans.now c.new.result (memory_paged m sound)
    (walk_end t l.entries.items c.new.result l.offset c.args.spans.now l.span-index c.new.ensures
    c.loop-span-test.false l.invariant.walk)

pub returns-clause-frames : goal.returns-clause-frames
returns-clause-frames c =
    let m = c.args.self.now.memory in
    let t = memory_physical m in
    let l = c.loop-span in
    let sound = subst (λ (r : Roomy). IsMemory r.memory) c.self.view_is c.self.invariant.memory in
    walk_have (IsHeld m) true t c.args.spans.now c.new.result (memory_paged m sound)
    (walk_end t l.entries.items c.new.result l.offset c.args.spans.now l.span-index c.new.ensures
    c.loop-span-test.false l.invariant.walk)
