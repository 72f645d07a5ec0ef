use Rattle.std.proofs.Common.{◌<◌, length, take, arith, bit_or}
use Rattle.std.proofs.lemmas.List.Elements.{All-more, All-weaker}
use Rattle.std.proofs.lemmas.List.Sums.{sum_by_more}
use Rattle.busdma_machine.specs.declared.machine.address.Segment.{Segment}
use Rattle.dma_map.specs.Pages.{HasPages}
use Rattle.dma_map.specs.Parts.{IsBetween}
use Rattle.dma_map.proofs.Pages.{HasPages-added, HasPages-kept}
use Rattle.dma_map.proofs.part.Part.of.Goals as goal

pub loop-segment-preserved : goal.loop-segment-preserved
loop-segment-preserved c =
    let part = c.loop-segment.part in
    let segments = c.args.segments.now in
    let index = c.loop-segment.segment-index in
    let none : Segment = record { addr = record { 0 = 0 }; len = 0 } in
    let inside : index < length segments = omega arith in
    let pages = bit_or part.pages c.pages_of.result in
    record {
      bytes = λ short. omega (arith, short, sum_by_more (λ (s : Segment). s.len) segments index none inside);
      between =
          All-more (IsBetween c.min.result c.max.result) segments index none inside
          (All-weaker (IsBetween part.least part.end) (IsBetween c.min.result c.max.result)
          (λ s is. record { begins = omega (arith, is.begins); ends = omega (arith, is.ends) })
          (take index segments) c.loop-segment.invariant.between)
          (record { begins = omega arith; ends = omega arith });
      pages =
          All-more (HasPages pages) segments index none inside
          (All-weaker (HasPages part.pages) (HasPages pages) (HasPages-kept part.pages c.pages_of.result)
          (take index segments) c.loop-segment.invariant.pages)
          (HasPages-added part.pages c.pages_of.result _ c.pages_of.ensures);
    }
