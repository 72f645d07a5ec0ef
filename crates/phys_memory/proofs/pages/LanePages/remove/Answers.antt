use Rattle.std.proofs.Common.{◌/◌, arith, ap, sym, ◌∙◌, subst}
use Rattle.std.specs.Prelude.{Some, None}
use Rattle.phys_memory.specs.Memory.{RoomyFrames as Roomy, IsMemory, page_at, page_of, without_page, without_row}
use Rattle.phys_memory.specs.Kept.{memory_of}
use Rattle.phys_memory.proofs.Kept.{memory_without_row}
use Rattle.phys_memory.proofs.Changes.{memory_taken, place_removed, row_found, page_found}
use Rattle.phys_memory.proofs.Stretches.{length_set, put_cut}
use Rattle.phys_memory.proofs.Tables.{made_removed}
use Rattle.phys_memory.proofs.pages.LanePages.remove.Goals as goal

pub returns-in_err-row-clause-page : goal.returns-in_err-row-clause-page
returns-in_err-row-clause-page c =
    let m = c.self.inside in
    let old = memory_of m.table.entries m.frames.entries in
    let row =
    row_found m.table.entries m.frames.entries c.args.va.0 None (sym c.remove.ensures.value ∙ c.in_err-row.was) in
    c.from_residual.ensures ∙ ap (page_of old) (sym row)
    ∙ ap (λ (r : Roomy). page_at r.memory c.args.va.0) c.self.view_is

pub returns-in_err-row-clause-memory : goal.returns-in_err-row-clause-memory
returns-in_err-row-clause-memory c =
    let m = c.self.inside in
    let old = memory_of m.table.entries m.frames.entries in
    let row =
    row_found m.table.entries m.frames.entries c.args.va.0 None (sym c.remove.ensures.value ∙ c.in_err-row.was) in
    let same = rw c.in_err-row.was at c.remove.ensures.unchanged in
    ap (λ es. memory_of es m.frames.entries) same
    ∙ ap (without_row old (c.args.va.0 / 4096)) (sym row)
    ∙ ap (λ (r : Roomy). without_page r.memory c.args.va.0) c.self.view_is

pub invariant_of-self-2 : goal.invariant_of-self-2
invariant_of-self-2 c =
    let m = c.self.inside in
    let old = memory_of m.table.entries m.frames.entries in
    let row =
    row_found m.table.entries m.frames.entries c.args.va.0 (Some c.in_ok-row.row)
    (sym c.remove.ensures.value ∙ c.in_ok-row.was) in
    record {
      memory =
          subst IsMemory
          (sym (memory_taken _ _ _ _ (c.args.va.0 / 4096) c.in_ok-row.row
          c.remove.ensures.updates.0 c.remove-2.ensures.updates.0))
          (memory_without_row old (c.args.va.0 / 4096) c.in_ok-row.row c.self.invariant.memory row);
      at_frames = place_removed _ _ c.in_ok-row.row.frame c.remove-2.ensures.updates.0 c.self.invariant.at_frames;
      stretches_are =
          put_cut _ _ (c.args.va.0 / 4096) m.stretches c.slot_of-slot.result c.cut.result
          (made_removed _ _ (c.args.va.0 / 4096) c.remove.ensures.updates.0) c.slot_of-slot.ensures.is
          (omega (arith, c.slot_of-slot.ensures.low, c.self.invariant.stretches_count))
          c.cut.ensures c.self.invariant.stretches_are;
      stretches_count = length_set m.stretches c.slot_of-slot.result c.cut.result ∙ c.self.invariant.stretches_count;
    }

pub returns-clause-page : goal.returns-clause-page
returns-clause-page c =
    let m = c.self.inside in
    let old = memory_of m.table.entries m.frames.entries in
    let row =
    row_found m.table.entries m.frames.entries c.args.va.0 (Some c.in_ok-row.row)
    (sym c.remove.ensures.value ∙ c.in_ok-row.was) in
    c.remove-2.ensures.value
    ∙ sym (page_found m.table.entries m.frames.entries (c.args.va.0 / 4096) c.in_ok-row.row
    c.self.invariant.memory c.self.invariant.at_frames row)
    ∙ ap (page_of old) (sym row) ∙ ap (λ (r : Roomy). page_at r.memory c.args.va.0) c.self.view_is

pub returns-clause-memory : goal.returns-clause-memory
returns-clause-memory c =
    let m = c.self.inside in
    let old = memory_of m.table.entries m.frames.entries in
    let row =
    row_found m.table.entries m.frames.entries c.args.va.0 (Some c.in_ok-row.row)
    (sym c.remove.ensures.value ∙ c.in_ok-row.was) in
    memory_taken _ _ _ _ (c.args.va.0 / 4096) c.in_ok-row.row c.remove.ensures.updates.0 c.remove-2.ensures.updates.0
    ∙ ap (without_row old (c.args.va.0 / 4096)) (sym row)
    ∙ ap (λ (r : Roomy). without_page r.memory c.args.va.0) c.self.view_is
