use Rattle.std.proofs.Common.{◌+◌, ◌≤◌, length, sym, subst, arith}
use Rattle.loan_table.specs.Kept.{AreLow}
use Rattle.busdma_machine.specs.Machine.Wire.{stretch}
use Rattle.busdma_rules.specs.Lending.Loans.{loan_of, addresses_of}
use Rattle.loan_table.specs.Trees.{opened}
use Rattle.loan_table.proofs.Addresses.{AreIn-set_all, AreLow-set_all}
use Rattle.loan_table.proofs.MarkLaws.{AreIn-range}
use Rattle.loan_table.proofs.Rooms.{count_bound, needs_spare, used_bytes, room_kept}
use Rattle.loan_table.proofs.table.LoanTable.note_dev_write.Goals as goal

pub set_range-requires-clause-range : goal.set_range-requires-clause-range
set_range-requires-clause-range c = rw c.row_of-row.ensures (rw (← c.self.view_is) at c.requires.range)

pub set_range-requires-clause-there : goal.set_range-requires-clause-there
set_range-requires-clause-there c =
    rw c.row_of-row.ensures
    (AreIn-range _ c.args.off c.args.len _ (c.self.invariant.inside c.args.map.made_at))

pub set_range-requires-clause-room : goal.set_range-requires-clause-room
set_range-requires-clause-room c =
    let ps = (loan_of (opened c.self.inside.loans) c.args.map.made_at).positions in
    let range : c.args.off + c.args.len ≤ length ps = rw (← c.self.view_is) at c.requires.range in
    let all : length ps ≤ c.self.inside.positions =
    rw c.self.invariant.counted at (count_bound c.self.inside.loans.entries c.args.map.made_at) in
    omega (arith, range, all, c.self.invariant.room.forgets)

pub invariant_of-self : goal.invariant_of-self
invariant_of-self c =
    let ps = (loan_of (opened c.self.inside.loans) c.args.map.made_at).positions in
    let range : c.args.off + c.args.len ≤ length ps = rw (← c.self.view_is) at c.requires.range in
    let all : length ps ≤ c.self.inside.positions =
    rw c.self.invariant.counted at (count_bound c.self.inside.loans.entries c.args.map.made_at) in
    record {
      ordered = c.self.invariant.ordered;
      inside =
          λ m. rw c.set_range.ensures.bytes
          (AreIn-set_all _ (addresses_of (stretch c.args.off c.args.len c.row_of-row.result.now.positions)) _ _
          (c.self.invariant.inside m));
      prepared =
          λ m. rw c.set_range.ensures.bytes
          (AreIn-set_all _ (addresses_of (stretch c.args.off c.args.len c.row_of-row.result.now.positions)) _ _
          (c.self.invariant.prepared m));
      low = subst AreLow (sym c.set_range.ensures.bytes)
          (AreLow-set_all _ (addresses_of (stretch c.args.off c.args.len c.row_of-row.result.now.positions)) _
          (rw c.row_of-row.ensures
          (AreIn-range _ c.args.off c.args.len _ (c.self.invariant.inside c.args.map.made_at)))
          c.self.invariant.low);
      counted = c.self.invariant.counted;
      room =
          used_bytes c.self.inside.bytes c.set_range.new.bytes c.self.inside.positions c.self.inside.spare
          c.args.len c.spare_after-self-inside.result c.self.invariant.room (omega (arith, range, all))
          (needs_spare c.args.off c.args.len c.self.inside.spare ps range (rw (← c.self.view_is) at c.requires.room))
          c.set_range.ensures.room c.spare_after-self-inside.ensures.small
          c.spare_after-self-inside.ensures.some c.set_range.ensures.there_room;
      lent_counted = c.self.invariant.lent_counted;
      idle = c.self.invariant.idle;
      count_room = room_kept c.self.inside.lent c.self.inside.positions c.self.inside.spare _
          c.spare_after-self-inside.ensures.small c.self.invariant.count_room;
    }
