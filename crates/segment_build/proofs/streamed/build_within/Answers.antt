use Rattle.std.proofs.Common.{rules, ◌≡◌, ◌+◌, ◌≤◌, List, [], ◌++◌, Bool, length, min, ap, sym, ◌∙◌, subst, arith}
use Rattle.std.specs.Prelude.{Option, IfSome, IsOk, MatchBool}
use Rattle.std.specs.Option.{option_to_list}
use Rattle.busdma_machine.specs.declared.machine.chunk.Chunk.{Chunk}
use Rattle.busdma_machine.specs.declared.tags.tag.TagLimits.{TagLimits}
use Rattle.busdma_machine.specs.Machine.Entry.{IsStream}
use Rattle.segment_build.specs.declared.cutter.Cutter.{Cutter}
use Rattle.segment_build.specs.Building.{IsSoFar}
use Rattle.busdma_rules.specs.Segments.Building.{IsPlaceable, placed_pieces}
use Rattle.busdma_rules.specs.Segments.Chunks.{need_of}
use Rattle.segment_build.specs.Cutting.{after_part, closed, closed_part, uncut}
use Rattle.segment_build.specs.Streams.{IsBuiltFrom, OverflowsFrom, stream_chunks}
use Rattle.segment_build.proofs.Fronts.{front_need, front_pieces}
use Rattle.segment_build.proofs.Iterating.{holds_so_far, holds_seen, drained}
use Rattle.segment_build.proofs.JoinLaws.{not_refused}
use Rattle.segment_build.proofs.PartByPart.{holds, holds_at}
use Rattle.segment_build.proofs.streamed.build_within.Goals as goal

pub take-closed-requires-clause-part : goal.take-closed-requires-clause-part
take-closed-requires-clause-part g c =
    let t = c.args.tag.now in
    let m = c.args.maxmem in
    let pages = c.args.pages.now in
    let ps = c.loop-part.yielded in
    let p = c.in-Some.part in
    let eff = c.limits-limits.ensures.effective in
    let same = c.limits-limits.ensures.limits in
    let inv = c.loop-part.invariant in
    let stream = holds_so_far g.I.Iterator.next_gives IsStream c.into_iter-part-iterator.result c.loop-part.yielded
    c.loop-part.part-iterator c.in-Some.part c.next.new.self c.into_iter-part-iterator.ensures.into_iter_gives
    c.requires.stream c.loop-part.yielded_by c.in-Some.ensures.steps in
    let at = holds_at t m ps p eff stream in
    at.part

pub take-closed-requires-clause-fits : goal.take-closed-requires-clause-fits
take-closed-requires-clause-fits g c =
    let t = c.args.tag.now in
    let m = c.args.maxmem in
    let pages = c.args.pages.now in
    let ps = c.loop-part.yielded in
    let p = c.in-Some.part in
    let eff = c.limits-limits.ensures.effective in
    let same = c.limits-limits.ensures.limits in
    let inv = c.loop-part.invariant in
    let stream = holds_so_far g.I.Iterator.next_gives IsStream c.into_iter-part-iterator.result c.loop-part.yielded
    c.loop-part.part-iterator c.in-Some.part c.next.new.self c.into_iter-part-iterator.ensures.into_iter_gives
    c.requires.stream c.loop-part.yielded_by c.in-Some.ensures.steps in
    let at = holds_at t m ps p eff stream in
    omega (arith, at.fits, ap (λ (s : Cutter). s.at) inv.cutter)

pub add_next-requires-clause-sound : goal.add_next-requires-clause-sound
add_next-requires-clause-sound g c =
    let t = c.args.tag.now in
    let m = c.args.maxmem in
    let pages = c.args.pages.now in
    let ps = c.loop-part.yielded in
    let p = c.in-Some.part in
    let eff = c.limits-limits.ensures.effective in
    let same = c.limits-limits.ensures.limits in
    let inv = c.loop-part.invariant in
    let stream = holds_so_far g.I.Iterator.next_gives IsStream c.into_iter-part-iterator.result c.loop-part.yielded
    c.loop-part.part-iterator c.in-Some.part c.next.new.self c.into_iter-part-iterator.ensures.into_iter_gives
    c.requires.stream c.loop-part.yielded_by c.in-Some.ensures.steps in
    let at = holds_at t m ps p eff stream in
    let one = c.take-closed.ensures.closed ∙ ap (λ (s : Cutter). closed_part s p) inv.cutter in
    subst (λ (u : TagLimits). IfSome c.take-closed.result (IsPlaceable u)) (sym same)
    (subst (λ (o : Option Chunk). IfSome o (IsPlaceable t)) (sym one) at.sound)

pub add_next-requires-clause-so_far : goal.add_next-requires-clause-so_far
add_next-requires-clause-so_far g c =
    let t = c.args.tag.now in
    let m = c.args.maxmem in
    let pages = c.args.pages.now in
    let ps = c.loop-part.yielded in
    let p = c.in-Some.part in
    let eff = c.limits-limits.ensures.effective in
    let same = c.limits-limits.ensures.limits in
    let inv = c.loop-part.invariant in
    let stream = holds_so_far g.I.Iterator.next_gives IsStream c.into_iter-part-iterator.result c.loop-part.yielded
    c.loop-part.part-iterator c.in-Some.part c.next.new.self c.into_iter-part-iterator.ensures.into_iter_gives
    c.requires.stream c.loop-part.yielded_by c.in-Some.ensures.steps in
    let at = holds_at t m ps p eff stream in
    let one = c.take-closed.ensures.closed ∙ ap (λ (s : Cutter). closed_part s p) inv.cutter in
    let so_far =
    subst (λ (u : TagLimits). IsSoFar u pages (closed t m uncut ps) c.loop-part.list.items
    c.loop-part.bounced.items c.loop-part.few) (sym same) inv.so_far in (
      closed t m uncut ps,
      so_far,
      omega (
        arith,
        ap (λ (o : Option Chunk). need_of (closed t m uncut ps ++ option_to_list o)) one,
        front_need t m ps p eff stream,
        (holds_so_far g.I.Iterator.next_gives (λ xs. need_of (stream_chunks t m xs) ≤ length c.args.pages.now)
            c.into_iter-part-iterator.result c.loop-part.yielded c.loop-part.part-iterator c.in-Some.part
            c.next.new.self
            c.into_iter-part-iterator.ensures.into_iter_gives c.requires.need
            c.loop-part.yielded_by c.in-Some.ensures.steps),
      ),
    )

pub returns-in_err-few-clause-within : goal.returns-in_err-few-clause-within
returns-in_err-few-clause-within g c =
    let t = c.args.tag.now in
    let m = c.args.maxmem in
    let pages = c.args.pages.now in
    let ps = c.loop-part.yielded in
    let p = c.in-Some.part in
    let eff = c.limits-limits.ensures.effective in
    let same = c.limits-limits.ensures.limits in
    let inv = c.loop-part.invariant in
    let stream = holds_so_far g.I.Iterator.next_gives IsStream c.into_iter-part-iterator.result c.loop-part.yielded
    c.loop-part.part-iterator c.in-Some.part c.next.new.self c.into_iter-part-iterator.ensures.into_iter_gives
    c.requires.stream c.loop-part.yielded_by c.in-Some.ensures.steps in
    let at = holds_at t m ps p eff stream in
    let one = c.take-closed.ensures.closed ∙ ap (λ (s : Cutter). closed_part s p) inv.cutter in
    let within =
    subst (λ (u : TagLimits). (cs : List Chunk) →
    IsSoFar u pages cs c.loop-part.list.items c.loop-part.bounced.items c.loop-part.few →
    need_of (cs ++ option_to_list c.take-closed.result) ≤ c.loop-part.bounced.spare
    + length c.loop-part.bounced.items →
    min (length (placed_pieces u (cs ++ option_to_list c.take-closed.result) pages)) u.nsegments
    ≤ c.loop-part.list.spare + length c.loop-part.list.items →
    IsOk c.add_next.result) same c.add_next.ensures.within in
    λ room need. absurd (not_refused c.add_next.result c.in_err-few.field-0.0 c.in_err-few.was
    (within (closed t m uncut ps) inv.so_far
    (omega (
      arith,
      ap (λ (o : Option Chunk). need_of (closed t m uncut ps ++ option_to_list o)) one,
      front_need t m ps p eff stream,
      (holds_so_far g.I.Iterator.next_gives (λ xs. need_of (stream_chunks t m xs) ≤ c.args.bounced.now.spare)
          c.into_iter-part-iterator.result c.loop-part.yielded c.loop-part.part-iterator c.in-Some.part c.next.new.self
          c.into_iter-part-iterator.ensures.into_iter_gives need c.loop-part.yielded_by c.in-Some.ensures.steps),
      inv.bounced_room,
    ))
    (omega (
      arith,
      ap (λ (o : Option Chunk). length (placed_pieces t (closed t m uncut ps ++ option_to_list o) pages))
          one,
      front_pieces t m ps p pages eff stream,
      (holds_so_far g.I.Iterator.next_gives
          (λ xs. min (length (placed_pieces t (stream_chunks t m xs) c.args.pages.now)) t.nsegments
          ≤ c.args.list.now.spare) c.into_iter-part-iterator.result c.loop-part.yielded c.loop-part.part-iterator
          c.in-Some.part c.next.new.self c.into_iter-part-iterator.ensures.into_iter_gives room c.loop-part.yielded_by
          c.in-Some.ensures.steps),
      inv.room,
    ))))

pub loop-part-preserved : goal.loop-part-preserved
loop-part-preserved g c =
    let t = c.args.tag.now in
    let m = c.args.maxmem in
    let pages = c.args.pages.now in
    let ps = c.loop-part.yielded in
    let p = c.in-Some.part in
    let eff = c.limits-limits.ensures.effective in
    let same = c.limits-limits.ensures.limits in
    let inv = c.loop-part.invariant in
    let stream = holds_so_far g.I.Iterator.next_gives IsStream c.into_iter-part-iterator.result c.loop-part.yielded
    c.loop-part.part-iterator c.in-Some.part c.next.new.self c.into_iter-part-iterator.ensures.into_iter_gives
    c.requires.stream c.loop-part.yielded_by c.in-Some.ensures.steps in
    let at = holds_at t m ps p eff stream in
    let one = c.take-closed.ensures.closed ∙ ap (λ (s : Cutter). closed_part s p) inv.cutter in
    let next =
    subst (λ (u : TagLimits). (cs : List Chunk) →
    IsSoFar u pages cs c.loop-part.list.items c.loop-part.bounced.items c.loop-part.few →
    IsSoFar u pages (cs ++ option_to_list c.take-closed.result) c.add_next.new.list.items
    c.add_next.new.bounced.items c.in_ok-few.few) same c.in_ok-few.ensures.so_far in
    let closed_now = ap (λ (o : Option Chunk). closed t m uncut ps ++ option_to_list o) one ∙ sym at.closed_are in
    record {
      can = search rules;
      finite = search rules;
      cutter = c.take-closed.ensures.after ∙ (ap (λ (s : Cutter). after_part t m s p) inv.cutter ∙ sym at.after_is);
      so_far =
          subst (λ (cs : List Chunk). IsSoFar t pages cs c.add_next.new.list.items c.add_next.new.bounced.items
          c.in_ok-few.few) closed_now (next (closed t m uncut ps) inv.so_far);
      room = omega (arith, c.add_next.ensures.room, inv.room);
      bounced_room = omega (arith, c.add_next.ensures.bounced_room, inv.bounced_room);
    }

pub add_next-requires-2-clause-sound : goal.add_next-requires-2-clause-sound
add_next-requires-2-clause-sound g c =
    let t = c.args.tag.now in
    let m = c.args.maxmem in
    let pages = c.args.pages.now in
    let ps = c.loop-part.yielded in
    let eff = c.limits-limits.ensures.effective in
    let same = c.limits-limits.ensures.limits in
    let inv = c.loop-part.invariant in
    let stream = holds_seen g.I.Iterator.next_gives IsStream c.into_iter-part-iterator.result c.loop-part.yielded
    c.loop-part.part-iterator c.into_iter-part-iterator.ensures.into_iter_gives
    c.requires.stream c.loop-part.yielded_by in
    let all = holds t m ps eff stream in
    let is = ap (λ (s : Cutter). s.last) inv.cutter in
    subst (λ (u : TagLimits). IfSome c.loop-part.cutter.last (IsPlaceable u)) (sym same)
    (subst (λ (s : Cutter). IfSome s.last (IsPlaceable t)) (sym inv.cutter) all.last_sound)

pub add_next-requires-2-clause-so_far : goal.add_next-requires-2-clause-so_far
add_next-requires-2-clause-so_far g c =
    let t = c.args.tag.now in
    let m = c.args.maxmem in
    let pages = c.args.pages.now in
    let ps = c.loop-part.yielded in
    let eff = c.limits-limits.ensures.effective in
    let same = c.limits-limits.ensures.limits in
    let inv = c.loop-part.invariant in
    let stream = holds_seen g.I.Iterator.next_gives IsStream c.into_iter-part-iterator.result c.loop-part.yielded
    c.loop-part.part-iterator c.into_iter-part-iterator.ensures.into_iter_gives
    c.requires.stream c.loop-part.yielded_by in
    let all = holds t m ps eff stream in
    let is = ap (λ (s : Cutter). s.last) inv.cutter in
    let so_far =
    subst (λ (u : TagLimits). IsSoFar u pages (closed t m uncut ps) c.loop-part.list.items
    c.loop-part.bounced.items c.loop-part.few) (sym same) inv.so_far in (
      closed t m uncut ps,
      so_far,
      omega (
        arith,
        ap (λ (o : Option Chunk). need_of (closed t m uncut ps ++ option_to_list o)) is,
        ap need_of all.chunks,
        (holds_seen g.I.Iterator.next_gives (λ xs. need_of (stream_chunks t m xs) ≤ length c.args.pages.now)
            c.into_iter-part-iterator.result c.loop-part.yielded c.loop-part.part-iterator
            c.into_iter-part-iterator.ensures.into_iter_gives c.requires.need c.loop-part.yielded_by),
      ),
    )

pub returns-in_err-few-2-clause-within : goal.returns-in_err-few-2-clause-within
returns-in_err-few-2-clause-within g c =
    let t = c.args.tag.now in
    let m = c.args.maxmem in
    let pages = c.args.pages.now in
    let ps = c.loop-part.yielded in
    let eff = c.limits-limits.ensures.effective in
    let same = c.limits-limits.ensures.limits in
    let inv = c.loop-part.invariant in
    let stream = holds_seen g.I.Iterator.next_gives IsStream c.into_iter-part-iterator.result c.loop-part.yielded
    c.loop-part.part-iterator c.into_iter-part-iterator.ensures.into_iter_gives
    c.requires.stream c.loop-part.yielded_by in
    let all = holds t m ps eff stream in
    let is = ap (λ (s : Cutter). s.last) inv.cutter in
    let within =
    subst (λ (u : TagLimits). (cs : List Chunk) →
    IsSoFar u pages cs c.loop-part.list.items c.loop-part.bounced.items c.loop-part.few →
    need_of (cs ++ option_to_list c.loop-part.cutter.last) ≤ c.loop-part.bounced.spare
    + length c.loop-part.bounced.items →
    min (length (placed_pieces u (cs ++ option_to_list c.loop-part.cutter.last) pages)) u.nsegments
    ≤ c.loop-part.list.spare + length c.loop-part.list.items →
    IsOk c.add_next-2.result) same c.add_next-2.ensures.within in
    λ room need. absurd (not_refused c.add_next-2.result c.in_err-few-2.field-0.0 c.in_err-few-2.was
    (within (closed t m uncut ps) inv.so_far
    (omega (
      arith,
      ap (λ (o : Option Chunk). need_of (closed t m uncut ps ++ option_to_list o)) is,
      ap need_of all.chunks,
      (holds_seen g.I.Iterator.next_gives (λ xs. need_of (stream_chunks t m xs) ≤ c.args.bounced.now.spare)
          c.into_iter-part-iterator.result c.loop-part.yielded c.loop-part.part-iterator
          c.into_iter-part-iterator.ensures.into_iter_gives need c.loop-part.yielded_by),
      inv.bounced_room,
    ))
    (omega (
      arith,
      ap (λ (o : Option Chunk). length (placed_pieces t (closed t m uncut ps ++ option_to_list o) pages))
          is,
      ap (λ cs. length (placed_pieces t cs pages)) all.chunks,
      (holds_seen g.I.Iterator.next_gives
          (λ xs. min (length (placed_pieces t (stream_chunks t m xs) c.args.pages.now)) t.nsegments
          ≤ c.args.list.now.spare) c.into_iter-part-iterator.result c.loop-part.yielded c.loop-part.part-iterator
          c.into_iter-part-iterator.ensures.into_iter_gives room c.loop-part.yielded_by),
      inv.room,
    ))))

pub returns-then-not-few-clause-built : goal.returns-then-not-few-clause-built
returns-then-not-few-clause-built g c =
    let t = c.args.tag.now in
    let m = c.args.maxmem in
    let pages = c.args.pages.now in
    let ps = c.loop-part.yielded in
    let eff = c.limits-limits.ensures.effective in
    let same = c.limits-limits.ensures.limits in
    let inv = c.loop-part.invariant in
    let stream = holds_seen g.I.Iterator.next_gives IsStream c.into_iter-part-iterator.result c.loop-part.yielded
    c.loop-part.part-iterator c.into_iter-part-iterator.ensures.into_iter_gives
    c.requires.stream c.loop-part.yielded_by in
    let all = holds t m ps eff stream in
    let is = ap (λ (s : Cutter). s.last) inv.cutter in
    let next =
    subst (λ (u : TagLimits). (cs : List Chunk) →
    IsSoFar u pages cs c.loop-part.list.items c.loop-part.bounced.items c.loop-part.few →
    IsSoFar u pages (cs ++ option_to_list c.loop-part.cutter.last) c.add_next-2.new.list.items
    c.add_next-2.new.bounced.items c.in_ok-few-2.few) same c.in_ok-few-2.ensures.so_far in
    let chunks = ap (λ (o : Option Chunk). closed t m uncut ps ++ option_to_list o) is ∙ all.chunks in
    let done =
    subst (λ (cs : List Chunk). IsSoFar t pages cs c.add_next-2.new.list.items c.add_next-2.new.bounced.items
    c.in_ok-few-2.few) chunks (next (closed t m uncut ps) inv.so_far) in
    let run =
    drained g.I.Iterator.next_gives c.into_iter-part-iterator.result ps c.loop-part.part-iterator c.next.new.self
    c.into_iter-part-iterator.ensures.into_iter_gives c.loop-part.yielded_by c.in-None.ensures.steps in
    let over = c.if-not-few.true in (
      ps,
      run,
      subst
          (λ (b : Bool). MatchBool b (IsBuiltFrom t m pages ps c.clear.new.self.items
          c.clear-then-not-few.new.self.items) (OverflowsFrom t m pages ps × (c.clear.new.self.items ≡ [])
          × (c.clear-then-not-few.new.self.items ≡ []))) (sym over) (
            done.too_many over,
            c.clear.ensures.items,
            c.clear-then-not-few.ensures.items,
          ),
    )

pub returns-else-not-few-clause-built : goal.returns-else-not-few-clause-built
returns-else-not-few-clause-built g c =
    let t = c.args.tag.now in
    let m = c.args.maxmem in
    let pages = c.args.pages.now in
    let ps = c.loop-part.yielded in
    let eff = c.limits-limits.ensures.effective in
    let same = c.limits-limits.ensures.limits in
    let inv = c.loop-part.invariant in
    let stream = holds_seen g.I.Iterator.next_gives IsStream c.into_iter-part-iterator.result c.loop-part.yielded
    c.loop-part.part-iterator c.into_iter-part-iterator.ensures.into_iter_gives
    c.requires.stream c.loop-part.yielded_by in
    let all = holds t m ps eff stream in
    let is = ap (λ (s : Cutter). s.last) inv.cutter in
    let next =
    subst (λ (u : TagLimits). (cs : List Chunk) →
    IsSoFar u pages cs c.loop-part.list.items c.loop-part.bounced.items c.loop-part.few →
    IsSoFar u pages (cs ++ option_to_list c.loop-part.cutter.last) c.add_next-2.new.list.items
    c.add_next-2.new.bounced.items c.in_ok-few-2.few) same c.in_ok-few-2.ensures.so_far in
    let chunks = ap (λ (o : Option Chunk). closed t m uncut ps ++ option_to_list o) is ∙ all.chunks in
    let done =
    subst (λ (cs : List Chunk). IsSoFar t pages cs c.add_next-2.new.list.items c.add_next-2.new.bounced.items
    c.in_ok-few-2.few) chunks (next (closed t m uncut ps) inv.so_far) in
    let run =
    drained g.I.Iterator.next_gives c.into_iter-part-iterator.result ps c.loop-part.part-iterator c.next.new.self
    c.into_iter-part-iterator.ensures.into_iter_gives c.loop-part.yielded_by c.in-None.ensures.steps in
    let few = c.if-not-few.false in (
      ps,
      run,
      subst
          (λ (b : Bool). MatchBool b (IsBuiltFrom t m pages ps c.add_next-2.new.list.items
          c.add_next-2.new.bounced.items) (OverflowsFrom t m pages ps × (c.add_next-2.new.list.items ≡ [])
          × (c.add_next-2.new.bounced.items ≡ []))) (sym few) (record {
            segments_are =
                done.segments_are few;
            bounced_are = done.bounced_are few;
          }),
    )
