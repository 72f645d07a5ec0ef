use Rattle.std.proofs.Common.{◌≡◌, ◌+◌, ◌<◌, ◌≤◌, ◌∙◌, [], length, take, drop, get_or, None, sym, subst, ap, arith}
use Rattle.std.proofs.lemmas.List.{take_min, drop_min, drop_more, drop_all}
use Rattle.std.specs.Option.{option_map}
use Rattle.busdma_rules.specs.Rings.Ranges.{segments_byte_count, place_of}
use Rattle.dma_map.specs.declared.part.Part.{Part}
use Rattle.dma_map.specs.Parts.{ArePartsOf}
use Rattle.dma_map.proofs.Parts.{behind-part, bytes-cut, found-in-part, part-bytes, place-within}
use Rattle.dma_map.proofs.index.Index.find.Goals as goal
use Rattle.dma_map.proofs.index.Index.find.Goals.{else-may_have-via-else-may_have}
use Rattle.dma_map.proofs.index.Index.find.Goals.{else-may_have-via-then-may_have+in-None-1}

pub overflow_add-result : goal.overflow_add-result
overflow_add-result c =
    let rest = c.loop-part.rest.now in
    let there = sym (c.in-Some.ensures.place ∙ ap (place_of c.args.addr c.args.len) c.split_at.ensures.front) in
    omega (
      arith,
      bytes-cut c.min.result rest,
      place-within c.args.addr c.args.len c.in-Some.at (take c.min.result rest) there,
    )

pub returns-in-loop-part : goal.returns-in-loop-part
returns-in-loop-part c =
    let there = sym (c.in-Some.ensures.place ∙ ap (place_of c.args.addr c.args.len) c.split_at.ensures.front) in
    sym (found-in-part c.args.addr c.args.len c.loop-part.before c.min.result c.in-Some.at c.args.segments.now
    c.loop-part.rest.now c.loop-part.invariant.place there)

pub loop-part-preserved : goal.loop-part-preserved
loop-part-preserved c =
    let all = c.args.segments.now in
    let rest = c.loop-part.rest.now in
    let parts = c.args.self.now.parts in
    let index = c.loop-part.part-index in
    let most = c.part_len-most.result in
    let none : Part = record { bytes = 0; least = 0; end = 0; pages = 0 } in
    let inside : index < length parts = omega (arith, c.requires.indexed.sixteen) in
    let cut =
    subst (λ ps. ArePartsOf most ps rest []) (drop_more parts index none inside) c.loop-part.invariant.cut in
    let first : c.split_at.result.0.now ≡ take most rest =
    c.split_at.ensures.front ∙ ap (λ n. take n rest) c.min.ensures ∙ take_min most rest in
    let second : c.split_at.result.1.now ≡ drop most rest =
    c.split_at.ensures.back ∙ ap (λ n. drop n rest) c.min.ensures ∙ drop_min most rest in
    let bytes : (get_or parts index none).bytes ≡ segments_byte_count (take most rest) =
    part-bytes most c.loop-part.before all rest (get_or parts index none) c.requires.short c.loop-part.invariant.bytes
    cut.0 in
    let passed : place_of c.args.addr c.args.len (take most rest) ≡ None =
    elim c.else-may_have.branch [
      | else-may_have-via-else-may_have w ↦
          c.may_have-in-loop-part.ensures (take most rest) cut.0 w.if-may_have.false
      | else-may_have-via-then-may_have+in-None-1 w ↦
          let told : w.find.result ≡ None = cc in
          sym (w.find.ensures.place ∙ ap (place_of c.args.addr c.args.len) first) ∙ told
    ] in
    record {
      cut = subst (λ ss. ArePartsOf most (drop (index + 1) parts) ss []) (sym second) cut.1;
      bytes = omega (arith, bytes, bytes-cut most rest, ap segments_byte_count second);
      place =
          behind-part c.args.addr c.args.len c.loop-part.before most all rest c.loop-part.invariant.place passed
          ∙ ap (λ n. option_map (λ at. c.loop-part.before + n + at) (place_of c.args.addr c.args.len (drop most rest)))
          (sym bytes)
          ∙ ap (λ ss. option_map (λ at. c.loop-part.before + (get_or parts index none).bytes + at)
          (place_of c.args.addr c.args.len ss)) (sym second);
    }

pub returns : goal.returns
returns c =
    let rest = c.loop-part.rest.now in
    let parts = c.args.self.now.parts in
    let past : length parts ≤ c.loop-part.part-index = omega (arith, c.requires.indexed.sixteen) in
    let none : rest ≡ [] =
    subst (λ ps. ArePartsOf c.part_len-most.result ps rest []) (drop_all c.loop-part.part-index parts past)
    c.loop-part.invariant.cut in
    sym (c.loop-part.invariant.place
    ∙ ap (λ ss. option_map (λ at. c.loop-part.before + at) (place_of c.args.addr c.args.len ss)) none)
