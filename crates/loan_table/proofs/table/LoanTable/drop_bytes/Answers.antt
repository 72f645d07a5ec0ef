use Rattle.std.proofs.Common.{sym, subst, arith}
use Rattle.busdma_machine.specs.Runs.{run_of}
use Rattle.loan_table.specs.Kept.{AreLow, HasItsBytes}
use Rattle.loan_table.specs.Trees.{closed, opened}
use Rattle.loan_table.proofs.Addresses.{run_fits}
use Rattle.loan_table.proofs.Removal.{HasItsBytes-without, AreLow-without}
use Rattle.loan_table.proofs.Rooms.{room_kept}
use Rattle.loan_table.proofs.table.LoanTable.drop_bytes.Goals as goal

pub remove_run-requires-clause-fits : goal.remove_run-requires-clause-fits
remove_run-requires-clause-fits c =
    run_fits c.self.inside.bytes.bytes c.self.invariant.low c.args.pa.0 c.args.len
    (rw (← c.self.view_is) at c.requires.there) (omega arith)

pub invariant_of-self : goal.invariant_of-self
invariant_of-self c =
    let run = run_of c.args.pa.0 c.args.len in
    let gone = c.remove_run.ensures.bytes in
    record {
      ordered = c.self.invariant.ordered;
      inside =
          subst (λ bytes. HasItsBytes bytes (opened c.self.inside.loans)) (sym gone)
          (HasItsBytes-without c.self.inside.bytes.bytes (opened c.self.inside.loans) run
          (rw (← c.self.view_is) at c.requires.free) c.self.invariant.inside);
      prepared =
          subst (λ bytes. HasItsBytes bytes (closed c.self.inside.loans)) (sym gone)
          (HasItsBytes-without c.self.inside.bytes.bytes (closed c.self.inside.loans) run
          (rw (← c.self.view_is) at c.requires.unprepared) c.self.invariant.prepared);
      low = subst AreLow (sym gone) (AreLow-without c.self.inside.bytes.bytes run c.self.invariant.low);
      counted = c.self.invariant.counted;
      room = record {
        forgets = omega (arith, c.remove_run.ensures.room, c.self.invariant.room.forgets);
        changes = λ some. absurd (omega arith);
        drops = λ some. absurd (omega arith);
      };
      lent_counted = c.self.invariant.lent_counted;
      idle = c.self.invariant.idle;
      count_room = room_kept c.self.inside.lent c.self.inside.positions c.self.inside.spare 0 (omega arith)
          c.self.invariant.count_room;
    }

pub returns-clause-bytes : goal.returns-clause-bytes
returns-clause-bytes c = rw (← c.self.view_is) c.remove_run.ensures.bytes
