use Rattle.std.proofs.Common.{sym, subst, arith}
use Rattle.busdma_machine.specs.Runs.{addresses}
use Rattle.loan_table.specs.Kept.{AreLow}
use Rattle.loan_table.proofs.Addresses.{AllEnd, AreIn-set_all, AreLow-set_all}
use Rattle.loan_table.proofs.Rooms.{used_extents, room_kept}
use Rattle.loan_table.proofs.table.LoanTable.note_write.Goals as goal

pub set_extents-requires-clause-ends : goal.set_extents-requires-clause-ends
set_extents-requires-clause-ends c = AllEnd _ c.self.invariant.low _ (rw (← c.self.view_is) at c.requires.there)

pub invariant_of-self : goal.invariant_of-self
invariant_of-self c = record {
  ordered = c.self.invariant.ordered;
  inside =
      λ m. rw c.set_extents.ensures.bytes (AreIn-set_all _
      (addresses c.args.bytes.now) _ _ (c.self.invariant.inside m));
  prepared =
      λ m. rw c.set_extents.ensures.bytes (AreIn-set_all _
      (addresses c.args.bytes.now) _ _ (c.self.invariant.prepared m));
  low =
      subst AreLow (sym c.set_extents.ensures.bytes)
      (AreLow-set_all _ (addresses c.args.bytes.now) _
      (rw (← c.self.view_is) at c.requires.there) c.self.invariant.low);
  counted = c.self.invariant.counted;
  room = used_extents c.self.inside.bytes c.set_extents.new.bytes c.self.inside.positions c.self.inside.spare _
      c.self.invariant.room (rw (← c.self.view_is) at c.requires.room)
      c.set_extents.ensures.room c.set_extents.ensures.there_room;
  lent_counted = c.self.invariant.lent_counted;
  idle = c.self.invariant.idle;
  count_room = room_kept c.self.inside.lent c.self.inside.positions c.self.inside.spare _ (omega arith)
      c.self.invariant.count_room;
}
