use Rattle.std.proofs.Common.{◌≡◌, ◌+◌, ◌-◌, ◌<◌, ◌∙◌, [], length, take, drop, get_or, sym, subst, ap, arith}
use Rattle.std.proofs.lemmas.List.{take_min, drop_min, drop_more}
use Rattle.std.specs.List.{AllByRecursion}
use Rattle.ring_device.specs.Ends.{EndsLow}
use Rattle.busdma_rules.specs.Rings.Ranges.{address_of, segments_byte_count}
use Rattle.dma_map.specs.declared.part.Part.{Part}
use Rattle.dma_map.specs.Parts.{ArePartsOf}
use Rattle.dma_map.proofs.Parts.{address-behind-part, address-in-part, bytes-cut, low-behind}
use Rattle.dma_map.proofs.index.Index.address_of.Goals as goal

pub returns-then-inside-part : goal.returns-then-inside-part
returns-then-inside-part c =
    let rest = c.loop-part.rest.now in
    let parts = c.args.self.now.parts in
    let index = c.loop-part.part-index in
    let most = c.part_len-most.result in
    let none : Part = record { bytes = 0; least = 0; end = 0; pages = 0 } in
    let inside : index < length parts = omega (arith, c.requires.indexed.sixteen) in
    let cut =
    subst (λ ps. ArePartsOf most ps rest []) (drop_more parts index none inside) c.loop-part.invariant.cut in
    let first : c.split_at.result.0.now ≡ take most rest =
    c.split_at.ensures.front ∙ ap (λ n. take n rest) c.min.ensures ∙ take_min most rest in
    let bytes : (get_or parts index none).bytes ≡ segments_byte_count (take most rest) =
    cut.0.bytes (omega (arith, c.loop-part.invariant.short, bytes-cut most rest)) in
    c.address_of.ensures.address ∙ ap (address_of c.loop-part.inside c.args.len) first
    ∙ sym (address-in-part c.loop-part.inside c.args.len most rest (omega (arith, bytes, c.if-inside-part.true)))
    ∙ sym c.loop-part.invariant.address

pub loop-part-preserved : goal.loop-part-preserved
loop-part-preserved c =
    let rest = c.loop-part.rest.now in
    let parts = c.args.self.now.parts in
    let index = c.loop-part.part-index in
    let most = c.part_len-most.result in
    let none : Part = record { bytes = 0; least = 0; end = 0; pages = 0 } in
    let inside : index < length parts = omega (arith, c.requires.indexed.sixteen) in
    let cut =
    subst (λ ps. ArePartsOf most ps rest []) (drop_more parts index none inside) c.loop-part.invariant.cut in
    let second : c.split_at.result.1.now ≡ drop most rest =
    c.split_at.ensures.back ∙ ap (λ n. drop n rest) c.min.ensures ∙ drop_min most rest in
    let bytes : (get_or parts index none).bytes ≡ segments_byte_count (take most rest) =
    cut.0.bytes (omega (arith, c.loop-part.invariant.short, bytes-cut most rest)) in
    record {
      cut = subst (λ ss. ArePartsOf most (drop (index + 1) parts) ss []) (sym second) cut.1;
      short = omega (arith, c.loop-part.invariant.short, bytes-cut most rest, ap segments_byte_count second);
      low = subst (AllByRecursion EndsLow) (sym second) (low-behind most rest c.loop-part.invariant.low);
      address =
          c.loop-part.invariant.address
          ∙ address-behind-part c.loop-part.inside c.args.len most rest (omega (arith, bytes, c.if-inside-part.false))
          ∙ ap (λ n. address_of (c.loop-part.inside - n) c.args.len (drop most rest)) (sym bytes)
          ∙ ap (address_of (c.loop-part.inside - (get_or parts index none).bytes) c.args.len) (sym second);
    }
