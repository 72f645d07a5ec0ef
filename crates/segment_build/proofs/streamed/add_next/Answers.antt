use Rattle.std.proofs.Common.{◌≡◌, [], ◌∷◌, ◌++◌, Bool, length, refl, ap, sym, subst, arith}
use Rattle.std.specs.Prelude.{Option, IfOk}
use Rattle.std.specs.Option.{option_to_list}
use Rattle.busdma_machine.specs.declared.machine.chunk.Chunk.{Chunk}
use Rattle.segment_build.specs.Building.{IsSoFar}
use Rattle.busdma_rules.specs.Segments.Building.{placed_pieces}
use Rattle.busdma_rules.specs.Segments.Chunks.{need_of}
use Rattle.busdma_rules.proofs.Segments.Counting.{need_append, need_first}
use Rattle.segment_build.proofs.SoFar.{added_so_far, segments_fit, still_many, used_pages}
use Rattle.segment_build.proofs.streamed.add_next.Goals as goal

pub add_chunk-requires-clause-page : goal.add_chunk-requires-clause-page
add_chunk-requires-clause-page c bounced =
    let t = c.args.limits.now in
    let pages = c.args.pages.now in
    let so_far = c.requires.so_far in
    let cs = so_far.0 in
    let chunk = c.in-Some.chunk in
    let h =
    subst (λ (b : Bool). IsSoFar t pages cs c.args.list.now.items c.args.bounced.now.items b) c.if-few.true
    so_far.1 in
    let one = need_first chunk [] in
    let is : need_of (chunk ∷ []) ≡ 1 = rw bounced refl in
    omega (
      arith,
      used_pages t pages cs c.args.list.now.items c.args.bounced.now.items h,
      so_far.2,
      ap (λ (o : Option Chunk). need_of (cs ++ option_to_list o)) c.in-Some.is,
      need_append cs (chunk ∷ []),
      is,
    )

pub returns-in-Some-clause-so_far : goal.returns-in-Some-clause-so_far
returns-in-Some-clause-so_far c = λ cs so_far.
    let t = c.args.limits.now in
    let pages = c.args.pages.now in
    let h =
    subst (λ (b : Bool). IsSoFar t pages cs c.args.list.now.items c.args.bounced.now.items b) c.if-few.true so_far
    in
    let a = c.add_chunk.ensures in
    subst (λ (o : Option Chunk). IfOk c.add_chunk.result
    (IsSoFar t pages (cs ++ option_to_list o) c.add_chunk.new.list.items c.add_chunk.new.bounced.items))
    (sym c.in-Some.is)
    (added_so_far c.add_chunk.result t pages cs c.args.list.now.items c.add_chunk.new.list.items
    c.args.bounced.now.items c.add_chunk.new.bounced.items c.in-Some.chunk h a.bounced a.added a.few a.many)

pub returns-in-Some-clause-within : goal.returns-in-Some-clause-within
returns-in-Some-clause-within c = λ cs so_far need room.
    let t = c.args.limits.now in
    let pages = c.args.pages.now in
    let chunk = c.in-Some.chunk in
    let h =
    subst (λ (b : Bool). IsSoFar t pages cs c.args.list.now.items c.args.bounced.now.items b) c.if-few.true so_far
    in
    let used = used_pages t pages cs c.args.list.now.items c.args.bounced.now.items h in
    let fit = segments_fit t pages cs c.args.list.now.items c.args.bounced.now.items chunk h in
    let is = c.in-Some.is in
    c.add_chunk.ensures.within
    (omega (
      arith,
      used,
      need,
      ap (λ (o : Option Chunk). need_of (cs ++ option_to_list o)) is,
      need_append cs (chunk ∷ []),
    ))
    (omega (arith, fit, room, ap (λ (o : Option Chunk). length (placed_pieces t (cs ++ option_to_list o) pages)) is))

pub returns-in_default-clause-so_far : goal.returns-in_default-clause-so_far
returns-in_default-clause-so_far c = λ cs so_far.
    let t = c.args.limits.now in
    let pages = c.args.pages.now in
    let h =
    subst (λ (b : Bool). IsSoFar t pages cs c.args.list.now.items c.args.bounced.now.items b) c.if-few.false so_far
    in
    subst (λ (b : Bool). IsSoFar t pages (cs ++ option_to_list c.args.next) c.args.list.now.items
    c.args.bounced.now.items b) (sym c.if-few.false)
    (still_many t pages cs (option_to_list c.args.next) c.args.list.now.items c.args.list.now.items
    c.args.bounced.now.items c.args.bounced.now.items h)
