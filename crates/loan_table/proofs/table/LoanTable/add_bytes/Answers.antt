use Rattle.std.proofs.Common.{ap, sym, subst, ◌∙◌, arith}
use Rattle.busdma_machine.specs.Runs.{run_of}
use Rattle.loan_table.specs.Kept.{AreLow}
use Rattle.busdma_rules.specs.Lending.Loans.{loan_of, addresses_of}
use Rattle.loan_table.specs.Table.{AreIn, set_all}
use Rattle.loan_table.specs.Trees.{closed, opened}
use Rattle.loan_table.proofs.Addresses.{AreIn-set_all, AreLow-add}
use Rattle.loan_table.proofs.Rooms.{room_made}
use Rattle.loan_table.proofs.table.LoanTable.add_bytes.Goals as goal

pub invariant_of-self-2 : goal.invariant_of-self-2
invariant_of-self-2 c =
    let run = run_of c.args.pa.0 c.args.len in
    let is = c.add_run.ensures.bytes ∙ ap (λ b. set_all b run c.args.known) c.reserve.ensures.bytes in
    record {
      ordered = c.self.invariant.ordered;
      inside = λ m. subst (λ b. AreIn b (addresses_of (loan_of (opened c.self.inside.loans) m).positions)) (sym is)
          (AreIn-set_all _ run c.args.known _ (c.self.invariant.inside m));
      prepared = λ m. subst (λ b. AreIn b (addresses_of (loan_of (closed c.self.inside.loans) m).positions)) (sym is)
          (AreIn-set_all _ run c.args.known _ (c.self.invariant.prepared m));
      low =
          subst AreLow (sym is) (AreLow-add c.self.inside.bytes.bytes c.args.pa.0 c.args.len c.args.known
          c.requires.below c.self.invariant.low);
      counted = c.self.invariant.counted;
      room =
          room_made c.add_run.new.self c.self.inside.positions c.self.inside.spare
          (omega (arith, c.in_ok-edges_for.ensures, c.in_ok-reserve.ensures.ok, c.add_run.ensures.room))
          (omega (arith, c.in_ok-reserve.ensures.there_ok, c.add_run.ensures.there_room));
      lent_counted = c.self.invariant.lent_counted;
      idle = c.self.invariant.idle;
      count_room = c.self.invariant.count_room;
    }
