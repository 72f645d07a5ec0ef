use Rattle.std.proofs.Common.{◌≡◌, arith, ◌∙◌, ap, ◌+◌, ◌-◌, get_or}
use Rattle.busdma_machine.specs.Machine.Wire.{with_bytes_of}
use Rattle.phys_memory.specs.Memory.{wire}
use Rattle.map_sync.proofs.Stepping.{copied_at, frames_written, held_skip, next_page, no_chunk, none_copied, step_in}
use Rattle.map_sync.proofs.into_pages.copy_in.Goals as goal
use Rattle.map_sync.proofs.into_pages.copy_in.Goals.{in-Some, in_default}

pub copy_chunk_in-requires-clause-page : goal.copy_chunk_in-requires-clause-page
copy_chunk_in-requires-clause-page c =
    let before = c.loop-chunk.invariant in
    let at =
    next_page c.args.memory.now.memory c.args.pages.now c.loop-chunk.pages c.args.chunks.now
    c.loop-chunk.chunk-index _ c.loop-chunk.next c.in-Some.bus c.index-pages-next.result c.requires.apart
    before.frames c.loop-chunk-test.true c.in-Some.is before.held in
    at.frame

pub loop-chunk-preserved : goal.loop-chunk-preserved
loop-chunk-preserved c =
    let m = c.args.memory.now.memory in
    let old = c.args.pages.now in
    let cs = c.args.chunks.now in
    let i = c.loop-chunk.chunk-index in
    let before = c.loop-chunk.invariant in
    let inside = c.loop-chunk-test.true in
    elim c.match-chunk.branch [
      | in-Some w ↦
          let at = next_page m old c.loop-chunk.pages cs i _ c.loop-chunk.next w.in-Some.bus w.index-pages-next.result
          c.requires.apart before.frames inside w.in-Some.is before.held in
          rw (w.pages-is, w.next-is) (record {
            frames =
                frames_written c.loop-chunk.pages old c.loop-chunk.next w.copy_chunk_in.new.page
                w.index-pages-next.result before.frames w.copy_chunk_in.ensures.frame;
            held = at.rest;
            left = copied_at _ _ _ _ _ c.args.off c.args.len cs i _ inside
                (step_in m old c.loop-chunk.pages cs i _ c.loop-chunk.next w.in-Some.bus w.index-pages-next.result
                w.copy_chunk_in.new.page c.args.off c.args.len w.saturating_sub-from.result
                w.saturating_sub-to.result
                c.requires.apart before.frames w.in-Some.is at w.saturating_sub-from.ensures
                w.saturating_sub-to.ensures w.copy_chunk_in.ensures.frame w.copy_chunk_in.ensures.bytes)
                ∙ before.left;
          })
      | in_default w ↦
          rw (w.pages-is, w.next-is) (record {
            frames = before.frames;
            held = held_skip m cs i _ _ inside w.in_default.is before.held;
            left =
                copied_at (λ p. p.bus) (λ p. p.pa) (with_bytes_of old (wire m)) _ _ c.args.off c.args.len cs i no_chunk
                inside (none_copied (λ p. p.bus) (λ p. p.pa) (with_bytes_of old (wire m))
                (with_bytes_of c.loop-chunk.pages (wire m)) c.args.off c.args.len (get_or cs i no_chunk)
                w.in_default.is) ∙ before.left;
          })
    ]
