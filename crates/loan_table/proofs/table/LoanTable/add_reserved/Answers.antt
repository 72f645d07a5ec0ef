use Rattle.std.proofs.Common.{sym, subst, arith}
use Rattle.busdma_machine.specs.Runs.{run_of}
use Rattle.loan_table.specs.Kept.{AreLow}
use Rattle.busdma_rules.specs.Lending.Loans.{loan_of, addresses_of}
use Rattle.loan_table.specs.Table.{AreIn}
use Rattle.loan_table.specs.Trees.{closed, opened}
use Rattle.loan_table.proofs.Addresses.{AreIn-set_all, AreLow-add}
use Rattle.loan_table.proofs.Rooms.{one_run, two_edges, room_left, room_kept}
use Rattle.loan_table.proofs.table.LoanTable.add_reserved.Goals as goal

pub add_run-requires-clause-room : goal.add_run-requires-clause-room
add_run-requires-clause-room c = one_run c.self.inside.bytes c.self.inside.positions c.self.inside.spare
    c.self.invariant.room (rw (← c.self.view_is) at c.requires.room)

pub add_run-requires-clause-there_room : goal.add_run-requires-clause-there_room
add_run-requires-clause-there_room c = two_edges c.self.inside.bytes c.self.inside.positions c.self.inside.spare
    c.self.invariant.room (rw (← c.self.view_is) at c.requires.room)

pub invariant_of-self : goal.invariant_of-self
invariant_of-self c =
    let run = run_of c.args.pa.0 c.args.len in
    let is = c.add_run.ensures.bytes in
    record {
      ordered = c.self.invariant.ordered;
      inside = λ m. subst (λ b. AreIn b (addresses_of (loan_of (opened c.self.inside.loans) m).positions)) (sym is)
          (AreIn-set_all _ run c.args.known _ (c.self.invariant.inside m));
      prepared = λ m. subst (λ b. AreIn b (addresses_of (loan_of (closed c.self.inside.loans) m).positions)) (sym is)
          (AreIn-set_all _ run c.args.known _ (c.self.invariant.prepared m));
      low =
          subst AreLow (sym is) (AreLow-add c.self.inside.bytes.bytes c.args.pa.0 c.args.len c.args.known
          c.requires.below c.self.invariant.low);
      counted = c.self.invariant.counted;
      room =
          room_left c.self.inside.bytes c.add_run.new.self c.self.inside.positions c.self.inside.spare
          c.self.invariant.room (rw (← c.self.view_is) at c.requires.room) c.add_run.ensures.room;
      lent_counted = c.self.invariant.lent_counted;
      idle = c.self.invariant.idle;
      count_room = room_kept c.self.inside.lent c.self.inside.positions c.self.inside.spare 0 (omega arith)
          c.self.invariant.count_room;
    }
