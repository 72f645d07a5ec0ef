use Rattle.std.proofs.Common.{◌∙◌, arith}
use Rattle.std.proofs.lemmas.List.{at_drop_more, at_drop_all}
use Rattle.busdma_machine.specs.Runs.{addresses}
use Rattle.loan_table.proofs.Addresses.{writes_step, write_end, AreIn-append, no_extent}
use Rattle.loan_table.proofs.marks.set_extents.Goals as goal

pub set_extent-requires-clause-there : goal.set_extent-requires-clause-there
set_extent-requires-clause-there c =
    (AreIn-append _ _ _
    (rw (at_drop_more addresses c.args.extents.now c.loop-extent.extent-index no_extent c.loop-extent-test.true) at
    c.loop-extent.invariant.marked.1)).0

pub loop-extent-preserved : goal.loop-extent-preserved
loop-extent-preserved c = record {
  marked =
      writes_step _ _ _ _ _ _ _ (at_drop_more addresses c.args.extents.now c.loop-extent.extent-index no_extent
      c.loop-extent-test.true) c.set_extent.ensures.bytes c.loop-extent.invariant.marked;
  in_room = omega (arith, c.set_extent.ensures.room, c.loop-extent.invariant.in_room);
  same_room = c.set_extent.ensures.there_room ∙ c.loop-extent.invariant.same_room;
}

pub returns-clause-bytes : goal.returns-clause-bytes
returns-clause-bytes c =
    write_end _ _ _ _ (at_drop_all addresses c.args.extents.now c.loop-extent.extent-index c.loop-extent-test.false)
    c.loop-extent.invariant.marked.0
