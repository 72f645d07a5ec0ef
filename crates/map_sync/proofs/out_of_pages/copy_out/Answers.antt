use Rattle.std.proofs.Common.{◌≡◌, arith, ◌∙◌, ap, ◌+◌, ◌-◌, refl, get_or}
use Rattle.busdma_machine.specs.Machine.Wire.{with_bytes_of}
use Rattle.phys_memory.specs.Memory.{wire}
use Rattle.phys_memory.proofs.SameFrames.{same_trans}
use Rattle.map_sync.proofs.Stepping.{copied_at, held_skip, next_page, no_chunk, none_copied, step_out}
use Rattle.map_sync.proofs.out_of_pages.copy_out.Goals as goal
use Rattle.map_sync.proofs.out_of_pages.copy_out.Goals.{in-Some, in_default}

pub loop-chunk-preserved : goal.loop-chunk-preserved
loop-chunk-preserved c =
    let m = c.args.memory.now.memory in
    let pages = c.args.pages.now in
    let cs = c.args.chunks.now in
    let i = c.loop-chunk.chunk-index in
    let before = c.loop-chunk.invariant in
    let inside = c.loop-chunk-test.true in
    elim c.match-chunk.branch [
      | in-Some w ↦
          let at =
          next_page m pages pages cs i _ c.loop-chunk.next w.in-Some.bus w.index-pages-next.result c.requires.apart
          refl inside w.in-Some.is before.held in
          rw (w.memory-is, w.next-is) (record {
            same = same_trans _ _ _ before.same w.copy_chunk_out.ensures.same;
            spare = w.copy_chunk_out.ensures.spare ∙ before.spare;
            held = at.rest;
            left = copied_at _ _ _ _ _ c.args.off c.args.len cs i _ inside
                (step_out m pages (wire m) (wire c.loop-chunk.memory.memory) (wire w.copy_chunk_out.new.memory.memory)
                cs i _ c.loop-chunk.next w.in-Some.bus w.index-pages-next.result w.index-pages-next.result
                c.args.off c.args.len w.saturating_sub-from.result w.saturating_sub-to.result w.index-pages-next.is
                c.requires.apart w.in-Some.is at w.saturating_sub-from.ensures w.saturating_sub-to.ensures
                w.copy_chunk_out.ensures.wire) ∙ before.left;
          })
      | in_default w ↦
          rw (w.memory-is, w.next-is) (record {
            same = before.same;
            spare = before.spare;
            held = held_skip m cs i _ _ inside w.in_default.is before.held;
            left = copied_at (λ p. p.pa) (λ p. p.bus) (with_bytes_of pages (wire m)) _ _ c.args.off c.args.len cs i
                no_chunk inside (none_copied (λ p. p.pa) (λ p. p.bus) (with_bytes_of pages (wire m))
                (with_bytes_of pages (wire c.loop-chunk.memory.memory)) c.args.off c.args.len (get_or cs i no_chunk)
                w.in_default.is) ∙ before.left;
          })
    ]
