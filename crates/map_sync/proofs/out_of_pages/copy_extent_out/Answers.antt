use Rattle.std.proofs.Common.{◌≡◌, ◌+◌, ◌-◌, ◌%◌, min, length, map, take, drop, ap, ◌∙◌, arith, rules, subst, sym}
use Rattle.busdma_machine.specs.Machine.Wire.{page_byte}
use Rattle.busdma_machine.specs.Runs.{run_of}
use Rattle.phys_memory.specs.Frames.{SamePages}
use Rattle.phys_memory.specs.Memory.{FrameMemory as Memory, wire}
use Rattle.phys_memory.proofs.PageBytes.{slice_page}
use Rattle.phys_memory.proofs.SameFrames.{same_rewritten}
use Rattle.map_sync.proofs.Extents.{copied_extent, nothing_copied}
use Rattle.map_sync.proofs.out_of_pages.copy_extent_out.Goals as goal

pub returns-then-from-to-clause-wire : goal.returns-then-from-to-clause-wire
returns-then-from-to-clause-wire c =
    let e = c.args.extent in
    let bus = c.args.bus.0 in
    let from = c.args.from in
    let n = c.min-to.result - from in
    let place : bus % 4096 + from ≡ (bus + from) % 4096 =
    omega (arith, c.min-to.ensures, c.if-from-to.true, c.requires.inside) in
    copied_extent (page_byte c.args.page.now) (wire c.args.memory.now.memory)
    (wire c.write.new.self.memory) from c.args.to bus e.pa.0 e.len _
    (ap (λ xs. take (bus % 4096 + c.min-to.result - (bus % 4096 + from)) (drop (bus % 4096 + from) xs))
    c.bytes.ensures.bytes
    ∙ ap (λ at. take (bus % 4096 + c.min-to.result - (bus % 4096 + from)) (drop at c.args.page.now.bytes)) place
    ∙ slice_page c.args.page.now (bus + from) n (bus % 4096 + c.min-to.result - (bus % 4096 + from)) (omega arith)
    (sym (ap length c.bytes.ensures.bytes)
    ∙ c.bytes.ensures.length) (omega (arith, c.min-to.ensures, c.if-from-to.true, c.requires.inside))
    ∙ ap (λ k. map (page_byte c.args.page.now) (run_of (bus + from) (k - from))) c.min-to.ensures)
    c.write.ensures.wire

pub returns-then-from-to-clause-same : goal.returns-then-from-to-clause-same
returns-then-from-to-clause-same c =
    let e = c.args.extent in
    subst (λ (m : Memory). SamePages c.args.memory.now.memory m) (sym c.write.ensures.memory)
    (same_rewritten c.args.memory.now.memory (e.pa.0 + c.args.from) _ (search rules))

pub returns-else-from-to-clause-wire : goal.returns-else-from-to-clause-wire
returns-else-from-to-clause-wire c =
    nothing_copied (wire c.args.memory.now.memory) c.args.from c.args.to c.args.extent.pa.0 c.args.extent.len _
    (omega (arith, c.min-to.ensures, c.if-from-to.false))
