use Rattle.std.proofs.Common.{◌≡◌, ◌≤◌, ℕ, Bool, true, false, List, [], length, min, ap, refl, sym, ◌∙◌, subst, arith}
use Rattle.std.specs.Prelude.{MatchBool}
use Rattle.busdma_machine.specs.declared.machine.address.Segment.{Segment}
use Rattle.busdma_machine.specs.declared.machine.chunk.Chunk.{Chunk}
use Rattle.busdma_machine.specs.declared.machine.chunk.Part.{Part}
use Rattle.busdma_machine.specs.declared.tags.tag.TagLimits.{TagLimits}
use Rattle.busdma_machine.specs.Machine.Entry.{IsStream}
use Rattle.segment_build.specs.Conditions.{HasRooms}
use Rattle.segment_build.specs.Streams.{IsBuiltFrom, OverflowsFrom}
use Rattle.segment_build.proofs.FrontsAsk.{HasRooms-front}
use Rattle.segment_build.proofs.Iterating.{along_first, drained_first}
use Rattle.memory_load.specs.MemoryLoad.{run_parts, unaligned}
use Rattle.memory_load.proofs.Segments.{are_many, are_segments, bounced_none, needs_none, pieces_are}
use Rattle.memory_load.proofs.building.build_memory.Goals as goal

on-true : (P Q : Type 0) (b : Bool) → b ≡ true → MatchBool b P Q → P
on-true P Q true e h = h
on-true P Q false e h = absurd (cc)

on-false : (P Q : Type 0) (b : Bool) → b ≡ false → MatchBool b P Q → Q
on-false P Q true e h = absurd (cc)
on-false P Q false e h = h

-- what was built of a stream by a tag is what is built of the run
built-of : (t u : TagLimits) (first len : ℕ) (ps : List Part) (list : List Segment) (bounced : List Chunk) →
    u ≡ unaligned t → ps ≡ run_parts true first len → IsBuiltFrom u 0 [] ps list bounced →
    IsBuiltFrom (unaligned t) 0 [] (run_parts true first len) list bounced
built-of t u first len ps list bounced same seen built =
    subst (λ (p : TagLimits × List Part). IsBuiltFrom p.0 0 [] p.1 list bounced) (λ i. (same i, seen i)) built

overflows-of : (t u : TagLimits) (first len : ℕ) (ps : List Part) →
    u ≡ unaligned t → ps ≡ run_parts true first len → OverflowsFrom u 0 [] ps →
    OverflowsFrom (unaligned t) 0 [] (run_parts true first len)
overflows-of t u first len ps same seen over =
    subst (λ (p : TagLimits × List Part). OverflowsFrom p.0 0 [] p.1) (λ i. (same i, seen i)) over

pub build_into-requires-clause-room : goal.build_into-requires-clause-room
build_into-requires-clause-room c =
    let t = c.args.tag.now in
    let parts = run_parts true c.args.first.0 c.args.len in
    let room = c.args.list.now.spare in
    let bounced_room = c.args.bounced.now.spare in
    let same = c.unaligned-unaligned.ensures in
    let need = needs_none t c.args.first.0 c.args.len in
    let pieces = ap length (pieces_are t c.args.first.0 c.args.len) in
    let given = c.requires.room in
    let has : HasRooms (unaligned t) 0 [] room bounced_room parts =
    record {
      stream = subst IsStream c.run_parts.ensures.parts (c.run_parts.ensures.stream c.requires.small);
      need = omega (arith, need);
      fits = omega (arith, pieces, given);
      bounced_fit = omega (arith, need);
    } in
    let all : HasRooms c.unaligned-unaligned.result 0 [] room bounced_room c.run_parts.result =
    subst (λ (u : TagLimits). HasRooms u 0 [] room bounced_room c.run_parts.result) (sym same)
    (subst (HasRooms (unaligned t) 0 [] room bounced_room) (sym c.run_parts.ensures.parts) has) in
    record {
      at_frames = tt;
      empty = c.requires.empty;
      empty_bounced = c.requires.empty_bounced;
      fronts =
          along_first (λ (ps : List Part). ps) (HasRooms c.unaligned-unaligned.result 0 [] room bounced_room)
          (HasRooms-front c.unaligned-unaligned.result 0 [] room bounced_room c.fronts_ask_no_more.ensures)
          c.run_parts.result all;
    }

pub returns-clause-built : goal.returns-clause-built
returns-clause-built c few =
    let t = c.args.tag.now in
    let ran = c.build_into.ensures.built in
    let seen =
    sym (drained_first (λ (ps : List Part). ps) c.run_parts.result ran.0 ran.1) ∙ c.run_parts.ensures.parts in
    let list = c.build_into.new.list.items in
    let is =
    built-of t c.unaligned-unaligned.result c.args.first.0 c.args.len ran.0 list c.build_into.new.bounced.items
    c.unaligned-unaligned.ensures seen (on-true _ _ c.build_into.result few ran.2) in
    are_segments t c.args.first.0 c.args.len list is.segments_are

pub returns-clause-few : goal.returns-clause-few
returns-clause-few c few =
    let t = c.args.tag.now in
    let ran = c.build_into.ensures.built in
    let seen =
    sym (drained_first (λ (ps : List Part). ps) c.run_parts.result ran.0 ran.1) ∙ c.run_parts.ensures.parts in
    let list = c.build_into.new.list.items in
    let is =
    built-of t c.unaligned-unaligned.result c.args.first.0 c.args.len ran.0 list c.build_into.new.bounced.items
    c.unaligned-unaligned.ensures seen (on-true _ _ c.build_into.result few ran.2) in
    let short = is.segments_are.1 in
    subst (λ segments. length segments ≤ t.nsegments)
    (are_segments t c.args.first.0 c.args.len list is.segments_are) short

pub returns-clause-many : goal.returns-clause-many
returns-clause-many c many =
    let t = c.args.tag.now in
    let ran = c.build_into.ensures.built in
    let seen =
    sym (drained_first (λ (ps : List Part). ps) c.run_parts.result ran.0 ran.1) ∙ c.run_parts.ensures.parts in
    are_many t c.args.first.0 c.args.len
    (overflows-of t c.unaligned-unaligned.result c.args.first.0 c.args.len ran.0 c.unaligned-unaligned.ensures seen
    (on-false _ _ c.build_into.result many ran.2).0)

-- what is bounced of the stream is nothing
pub returns-clause-bounced : goal.returns-clause-bounced
returns-clause-bounced c = by c.build_into.result refl
  where
    t : TagLimits
    t = c.args.tag.now

    by : (few : Bool) → c.build_into.result ≡ few → c.build_into.new.bounced.items ≡ []
    by true few =
        let ran = c.build_into.ensures.built in
        let seen =
        sym (drained_first (λ (ps : List Part). ps) c.run_parts.result ran.0 ran.1) ∙ c.run_parts.ensures.parts in
        let list = c.build_into.new.list.items in
        let is =
        built-of t c.unaligned-unaligned.result c.args.first.0 c.args.len ran.0 list c.build_into.new.bounced.items
        c.unaligned-unaligned.ensures seen (on-true _ _ c.build_into.result few ran.2) in
        is.bounced_are ∙ bounced_none t c.args.first.0 c.args.len
    by false many = (on-false _ _ c.build_into.result many c.build_into.ensures.built.2).2
