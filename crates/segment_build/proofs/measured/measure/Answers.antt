use Rattle.std.proofs.Common.{rules, [], length, ap, sym, ◌∙◌, subst, arith}
use Rattle.std.specs.Prelude.{Option, IfSome}
use Rattle.std.specs.Option.{option_to_list}
use Rattle.busdma_machine.specs.declared.machine.chunk.Chunk.{Chunk}
use Rattle.busdma_machine.specs.declared.tags.tag.TagLimits.{TagLimits}
use Rattle.busdma_machine.specs.Machine.Entry.{IsStream, stream_entries}
use Rattle.segment_build.specs.declared.cutter.Cutter.{Cutter}
use Rattle.busdma_rules.specs.Segments.Building.{IsPlaceable, placed_pieces}
use Rattle.busdma_rules.specs.Segments.Chunks.{chunks_of, need_of}
use Rattle.segment_build.specs.Cutting.{cut_after, after_part, closed, closed_part, uncut}
use Rattle.busdma_rules.proofs.Segments.Counting.{need_append}
use Rattle.segment_build.proofs.Frames.{as_many}
use Rattle.segment_build.proofs.Iterating.{holds_so_far, holds_seen, drained}
use Rattle.busdma_rules.proofs.Segments.Sound.{chunks_sound}
use Rattle.segment_build.proofs.PartByPart.{holds, holds_at, pieces_few, pieces_more, unmapped_last}
use Rattle.segment_build.proofs.measured.measure.Goals as goal

pub take-requires-clause-part : goal.take-requires-clause-part
take-requires-clause-part g c =
    let stream = holds_so_far g.I.Iterator.next_gives IsStream c.into_iter-part-iterator.result c.loop-part.yielded
    c.loop-part.part-iterator c.in-Some.part c.next.new.self c.into_iter-part-iterator.ensures.into_iter_gives
    c.requires.stream c.loop-part.yielded_by c.in-Some.ensures.steps in
    (holds_at c.args.tag.now c.args.maxmem c.loop-part.yielded c.in-Some.part
    c.limits-limits.ensures.effective stream).part

pub take-requires-clause-fits : goal.take-requires-clause-fits
take-requires-clause-fits g c =
    let stream = holds_so_far g.I.Iterator.next_gives IsStream c.into_iter-part-iterator.result c.loop-part.yielded
    c.loop-part.part-iterator c.in-Some.part c.next.new.self c.into_iter-part-iterator.ensures.into_iter_gives
    c.requires.stream c.loop-part.yielded_by c.in-Some.ensures.steps in
    let at =
    holds_at c.args.tag.now c.args.maxmem c.loop-part.yielded c.in-Some.part
    c.limits-limits.ensures.effective stream in
    omega (arith, at.fits, ap (λ (s : Cutter). s.at) c.loop-part.invariant.cutter)

pub add-requires-clause-sound : goal.add-requires-clause-sound
add-requires-clause-sound g c =
    let stream = holds_so_far g.I.Iterator.next_gives IsStream c.into_iter-part-iterator.result c.loop-part.yielded
    c.loop-part.part-iterator c.in-Some.part c.next.new.self c.into_iter-part-iterator.ensures.into_iter_gives
    c.requires.stream c.loop-part.yielded_by c.in-Some.ensures.steps in
    let at =
    holds_at c.args.tag.now c.args.maxmem c.loop-part.yielded c.in-Some.part
    c.limits-limits.ensures.effective stream in
    let one = c.take.ensures.closed ∙ ap (λ (s : Cutter). closed_part s c.in-Some.part) c.loop-part.invariant.cutter in
    subst (λ (t : TagLimits). IfSome c.take.result (IsPlaceable t)) (sym c.limits-limits.ensures.limits)
    (subst (λ (o : Option Chunk). IfSome o (IsPlaceable c.args.tag.now)) (sym one) at.sound)

pub add-requires-clause-need : goal.add-requires-clause-need
add-requires-clause-need g c =
    let stream = holds_so_far g.I.Iterator.next_gives IsStream c.into_iter-part-iterator.result c.loop-part.yielded
    c.loop-part.part-iterator c.in-Some.part c.next.new.self c.into_iter-part-iterator.ensures.into_iter_gives
    c.requires.stream c.loop-part.yielded_by c.in-Some.ensures.steps in
    let at =
    holds_at c.args.tag.now c.args.maxmem c.loop-part.yielded c.in-Some.part
    c.limits-limits.ensures.effective stream in
    omega (arith, at.need, c.loop-part.invariant.need)

pub add-requires-clause-pieces : goal.add-requires-clause-pieces
add-requires-clause-pieces g c =
    let stream = holds_so_far g.I.Iterator.next_gives IsStream c.into_iter-part-iterator.result c.loop-part.yielded
    c.loop-part.part-iterator c.in-Some.part c.next.new.self c.into_iter-part-iterator.ensures.into_iter_gives
    c.requires.stream c.loop-part.yielded_by c.in-Some.ensures.steps in
    let at =
    holds_at c.args.tag.now c.args.maxmem c.loop-part.yielded c.in-Some.part
    c.limits-limits.ensures.effective stream in
    omega (
      arith,
      at.bytes,
      c.loop-part.invariant.pieces,
      pieces_few c.args.tag.now (closed c.args.tag.now c.args.maxmem uncut c.loop-part.yielded) []
          c.limits-limits.ensures.effective at.chunks,
    )

pub loop-part-preserved : goal.loop-part-preserved
loop-part-preserved g c =
    let t = c.args.tag.now in
    let m = c.args.maxmem in
    let ps = c.loop-part.yielded in
    let p = c.in-Some.part in
    let stream =
    holds_so_far g.I.Iterator.next_gives IsStream c.into_iter-part-iterator.result ps c.loop-part.part-iterator p
    c.next.new.self c.into_iter-part-iterator.ensures.into_iter_gives c.requires.stream
    c.loop-part.yielded_by c.in-Some.ensures.steps in
    let at = holds_at t m ps p c.limits-limits.ensures.effective stream in
    let inv = c.loop-part.invariant in
    let one = c.take.ensures.closed ∙ ap (λ (s : Cutter). closed_part s p) inv.cutter in
    let cs = closed t m uncut ps in
    let last = option_to_list (closed_part (cut_after t m uncut ps) p) in
    record {
      can = search rules;
      finite = search rules;
      cutter = c.take.ensures.after ∙ (ap (λ (s : Cutter). after_part t m s p) inv.cutter ∙ sym at.after_is);
      need =
          omega (
            arith,
            c.add.ensures.need,
            inv.need,
            ap (λ (o : Option Chunk). need_of (option_to_list o)) one,
            ap need_of at.closed_are,
            need_append cs last,
          );
      pieces =
          omega (
            arith,
            c.add.ensures.pieces,
            inv.pieces,
            ap (λ (o : Option Chunk). length (placed_pieces c.limits-limits.result.now (option_to_list o) [])) one,
            ap (λ (u : TagLimits). length (placed_pieces u last [])) c.limits-limits.ensures.limits,
            ap (λ xs. length (placed_pieces t xs [])) at.closed_are,
            pieces_more t cs last,
          );
      unmapped = c.first_unmapped-unmapped.ensures ∙ (rw inv.unmapped (sym (unmapped_last ps p)));
    }

pub add-requires-2-clause-sound : goal.add-requires-2-clause-sound
add-requires-2-clause-sound g c =
    let stream = holds_seen g.I.Iterator.next_gives IsStream c.into_iter-part-iterator.result c.loop-part.yielded
    c.loop-part.part-iterator c.into_iter-part-iterator.ensures.into_iter_gives
    c.requires.stream c.loop-part.yielded_by in
    let all = holds c.args.tag.now c.args.maxmem c.loop-part.yielded c.limits-limits.ensures.effective stream in
    subst (λ (t : TagLimits). IfSome c.loop-part.cutter.last (IsPlaceable t)) (sym c.limits-limits.ensures.limits)
    (subst (λ (s : Cutter). IfSome s.last (IsPlaceable c.args.tag.now))
    (sym c.loop-part.invariant.cutter) all.last_sound)

pub add-requires-2-clause-need : goal.add-requires-2-clause-need
add-requires-2-clause-need g c =
    let stream = holds_seen g.I.Iterator.next_gives IsStream c.into_iter-part-iterator.result c.loop-part.yielded
    c.loop-part.part-iterator c.into_iter-part-iterator.ensures.into_iter_gives
    c.requires.stream c.loop-part.yielded_by in
    let all = holds c.args.tag.now c.args.maxmem c.loop-part.yielded c.limits-limits.ensures.effective stream in
    omega (arith, all.need, c.loop-part.invariant.need)

pub add-requires-2-clause-pieces : goal.add-requires-2-clause-pieces
add-requires-2-clause-pieces g c =
    let stream = holds_seen g.I.Iterator.next_gives IsStream c.into_iter-part-iterator.result c.loop-part.yielded
    c.loop-part.part-iterator c.into_iter-part-iterator.ensures.into_iter_gives
    c.requires.stream c.loop-part.yielded_by in
    let all = holds c.args.tag.now c.args.maxmem c.loop-part.yielded c.limits-limits.ensures.effective stream in
    omega (
      arith,
      all.bytes,
      c.loop-part.invariant.pieces,
      pieces_few c.args.tag.now (closed c.args.tag.now c.args.maxmem uncut c.loop-part.yielded) []
          c.limits-limits.ensures.effective all.sound,
    )

pub returns-in-None-unmapped : goal.returns-in-None-unmapped
returns-in-None-unmapped g c =
    let t = c.args.tag.now in
    let m = c.args.maxmem in
    let ps = c.loop-part.yielded in
    let eff = c.limits-limits.ensures.effective in
    let inv = c.loop-part.invariant in
    let stream =
    holds_seen g.I.Iterator.next_gives IsStream c.into_iter-part-iterator.result ps c.loop-part.part-iterator
    c.into_iter-part-iterator.ensures.into_iter_gives c.requires.stream c.loop-part.yielded_by in
    let all = holds t m ps eff stream in
    let cs = closed t m uncut ps in
    let last = option_to_list (cut_after t m uncut ps).last in
    let is = ap (λ (s : Cutter). option_to_list s.last) inv.cutter in (
      ps,
      drained g.I.Iterator.next_gives c.into_iter-part-iterator.result ps c.loop-part.part-iterator c.next.new.self
          c.into_iter-part-iterator.ensures.into_iter_gives c.loop-part.yielded_by c.in-None.ensures.steps,
      record {
        mapped = sym inv.unmapped ∙ c.in-None-unmapped.is;
        need =
            omega (arith, c.add-2.ensures.need, inv.need, ap need_of is, ap need_of all.chunks, need_append cs last);
        pieces =
            λ pages are. omega (
              arith,
              c.add-2.ensures.pieces,
              inv.pieces,
              ap (λ xs. length (placed_pieces c.limits-limits.result.now xs [])) is,
              ap (λ (u : TagLimits). length (placed_pieces u last [])) c.limits-limits.ensures.limits,
              ap (λ xs. length (placed_pieces t xs [])) all.chunks,
              pieces_more t cs last,
              as_many t (chunks_of t m (stream_entries ps)) pages [] eff
                  (chunks_sound t m (stream_entries ps) eff stream.entries) are tt,
            );
        bytes = ap (λ (s : Cutter). s.at) inv.cutter ∙ all.at;
      },
    )
