use Rattle.std.proofs.Common.{length, ap, arith}
use Rattle.std.specs.Vec.Iter.{into_iter_items}
use Rattle.std.proofs.lemmas.List.{length-append}
use Rattle.bounce_zone.proofs.zone.append.Goals as goal

pub push_back_reserved-requires : goal.push_back_reserved-requires
push_back_reserved-requires c =
    omega (
      arith,
      ap length c.loop-page.invariant.together,
      length-append c.loop-page.queue.items (into_iter_items c.loop-page.page-iterator),
      length-append c.args.queue.now.items c.args.pages.items,
      ap length c.in-Some.ensures.steps.0,
      c.loop-page.invariant.capacity,
      c.requires,
    )
