use Rattle.std.proofs.Common.{◌≡◌, ◌<◌, ◌≤◌, length, sym, ap, ◌∙◌, subst, arith}
use Rattle.busdma_machine.specs.declared.tags.tag.TagLimits.{TagLimits}
use Rattle.busdma_machine.specs.Machine.Entry.{unmapped_of}
use Rattle.memory_load.specs.MemoryLoad.{memory_pieces}
use Rattle.busdma_rules.specs.Segments.Building.{placed_pieces}
use Rattle.busdma_rules.specs.Segments.Chunks.{need_of}
use Rattle.segment_build.specs.Streams.{stream_chunks}
use Rattle.ideal_lane.specs.Loads.{limits_of}
use Rattle.ideal_lane.specs.State.{LaneMap}
use Rattle.lane_state.specs.Ideal.{ideal_of}
use Rattle.lane_state.specs.Kept.{map_of, memory_of, tag_of}
use Rattle.lane_state.specs.Loading.{IsWanted, bio_bytes, bio_of, map_chunks}
use Rattle.lane_loads.proofs.Asked.{plain-chunks}
use Rattle.lane_loads.proofs.Chunked.{load-chunks, kept-limits}
use Rattle.lane_state.proofs.LoadStreams.{none-unmapped}
use Rattle.lane_state.proofs.MapValues.{image-none, image-some}
use Rattle.lane_loads.proofs.OwnLoads.{own-wanted}
use Rattle.lane_loads.proofs.loads.measure_load.Goals as goal

pub returns-in_err-made-clause-long : goal.returns-in_err-made-clause-long
returns-in_err-made-clause-long c =
    let h = c.args.holdings.now in
    let o = c.in_ok-kept.kept.now in
    let is = image-some map_of h.maps.map c.args.map o (sym c.in_ok-kept.ensures) in
    let stands = (c.requires.stands.each c.args.map (map_of o) is).there in
    let none = image-none tag_of h.tags.map o.tag (sym c.in_err-made.ensures) in
    absurd (cc)

pub returns-then-limits-len-clause-long : goal.returns-then-limits-len-clause-long
returns-then-limits-len-clause-long c other found =
    let h = c.args.holdings.now in
    let l = ideal_of h in
    let o = c.in_ok-kept.kept.now in
    let made = c.in_ok-made.made.now in
    let is = image-some map_of h.maps.map c.args.map o (sym c.in_ok-kept.ensures) in
    let same : map_of o ≡ other = cc in
    let limits = kept-limits h (map_of o) made (sym c.in_ok-made.ensures) in
    let long : c.limits-limits.result.now.maxsize < bio_bytes (bio_of c.args.bytes) =
    subst (λ n. c.limits-limits.result.now.maxsize < n) c.len-len.ensures c.if-limits-len.true in
    subst (λ (x : LaneMap). (limits_of l x).maxsize < bio_bytes (bio_of c.args.bytes)) same
    (subst (λ (u : TagLimits). u.maxsize < bio_bytes (bio_of c.args.bytes))
    (c.limits-limits.ensures.limits ∙ sym limits)
    long)

pub memory_pieces-requires-clause-inside : goal.memory_pieces-requires-clause-inside
memory_pieces-requires-clause-inside c =
    let h = c.args.holdings.now in
    let own = c.in-Some.own.now in
    let first = c.requires.first (memory_of own) (image-some memory_of h.memories.map c.args.map own
    (sym c.in-Some.ensures)) in
    let end = first.inside in
    omega (arith, end, c.len-len.ensures)

pub returns-in-Some-clause-wanted : goal.returns-in-Some-clause-wanted
returns-in-Some-clause-wanted c other found =
    let h = c.args.holdings.now in
    let l = ideal_of h in
    let own = c.in-Some.own.now in
    let b = bio_of c.args.bytes in
    let o = c.in_ok-kept.kept.now in
    let made = c.in_ok-made.made.now in
    let is = image-some map_of h.maps.map c.args.map o (sym c.in_ok-kept.ensures) in
    let same : map_of o ≡ other = cc in
    let there = image-some memory_of h.memories.map c.args.map own (sym c.in-Some.ensures) in
    let limits = kept-limits h (map_of o) made (sym c.in_ok-made.ensures) in
    let tag : c.limits-limits.result.now ≡ made.tag = c.limits-limits.ensures.limits in
    let pieces = c.memory_pieces.ensures ∙ ap (λ n. length (memory_pieces made.tag own.first.0 n)) c.len-len.ensures in
    subst (λ (x : LaneMap). IsWanted (limits_of l x) (map_chunks l c.args.map x b) (bio_bytes b) 0
    c.min-segments.result) same
    (own-wanted l c.args.map (map_of o) b (memory_of own) there (c.requires.first (memory_of own) there) made.tag limits
    (subst (λ (u : TagLimits). bio_bytes b ≤ u.maxsize) tag
    (subst (λ n. n ≤ c.limits-limits.result.now.maxsize) c.len-len.ensures c.if-limits-len.false))
    c.min-segments.result
    (omega (arith, pieces, c.min-segments.ensures, ap (λ (u : TagLimits). u.nsegments) tag)))

pub returns-in_default-measure_parts-clause-long : goal.returns-in_default-measure_parts-clause-long
returns-in_default-measure_parts-clause-long c other found =
    absurd (none-unmapped (ideal_of c.args.holdings.now) (bio_of c.args.bytes) c.requires.reached
    c.in_default-measure_parts.field-0
    (sym (ap unmapped_of c.parts.ensures.parts) ∙ c.in_default-measure_parts.ensures))

pub returns-clause-wanted : goal.returns-clause-wanted
returns-clause-wanted c other found =
    let h = c.args.holdings.now in
    let l = ideal_of h in
    let o = c.in_ok-kept.kept.now in
    let made = c.in_ok-made.made.now in
    let b = bio_of c.args.bytes in
    let is = image-some map_of h.maps.map c.args.map o (sym c.in_ok-kept.ensures) in
    let same : map_of o ≡ other = cc in
    let limits = kept-limits h (map_of o) made (sym c.in_ok-made.ensures) in
    let chunks = ap (stream_chunks made.tag h.maxmem) c.parts.ensures.parts
    ∙ load-chunks l b (map_of o) made.tag c.requires.reached limits
    ∙ sym (plain-chunks l c.args.map (map_of o) b
    (image-none memory_of h.memories.map c.args.map (sym c.in_default.ensures))) in
    let measured = c.in-Fits.ensures in
    let tag : c.limits-limits.result.now ≡ made.tag = c.limits-limits.ensures.limits in
    let base : IsWanted made.tag (map_chunks l c.args.map (map_of o) b) (bio_bytes b) c.in-Fits.need
    c.min-segments-2.result =
    record {
      short = subst (λ (u : TagLimits). bio_bytes b ≤ u.maxsize) tag
          (subst (λ n. n ≤ c.limits-limits.result.now.maxsize) c.len-len.ensures c.if-limits-len.false);
      need = measured.need ∙ ap need_of chunks;
      segments = λ pages are. omega (
        arith,
        measured.pieces pages are,
        ap (λ cs. length (placed_pieces made.tag cs pages)) chunks,
        c.min-segments-2.ensures,
        ap (λ (u : TagLimits). u.nsegments) tag,
      );
    } in
    subst (λ (x : LaneMap). IsWanted (limits_of l x) (map_chunks l c.args.map x b) (bio_bytes b) c.in-Fits.need
    c.min-segments-2.result) same
    (subst (λ (u : TagLimits). IsWanted u (map_chunks l c.args.map (map_of o) b) (bio_bytes b) c.in-Fits.need
    c.min-segments-2.result)
    (sym limits) base)
