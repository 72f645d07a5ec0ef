use Rattle.std.proofs.Common.{arith}
use Rattle.std.proofs.lemmas.List.{at_drop_more, at_drop_all}
use Rattle.busdma_machine.specs.Runs.{addresses}
use Rattle.loan_table.proofs.Addresses.{no_extent}
use Rattle.loan_table.proofs.Places.{places_step, places_end}
use Rattle.loan_table.proofs.buffer.places_over.Goals as goal

pub loop-extent-preserved : goal.loop-extent-preserved
loop-extent-preserved c = record {
  counted = λ a. places_step c.loop-extent.places c.count_run.new.places _ a _ _ _ _
      (at_drop_more addresses c.args.extents.now c.loop-extent.extent-index no_extent c.loop-extent-test.true)
      (c.count_run.ensures.counts a) (c.loop-extent.invariant.counted a);
  in_room = omega (arith, c.count_run.ensures.room, c.loop-extent.invariant.in_room);
}

pub returns : goal.returns
returns c =
    λ a. places_end c.loop-extent.places a _ _
    (at_drop_all addresses c.args.extents.now c.loop-extent.extent-index c.loop-extent-test.false)
    (c.loop-extent.invariant.counted a)
