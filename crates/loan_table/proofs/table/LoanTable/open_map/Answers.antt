use Rattle.std.proofs.Common.{◌∙◌, sym, subst, refl, Some}
use Rattle.loan_table.specs.Counted.{IsCounted, LendsNothing}
use Rattle.loan_table.proofs.Recounting.{counted_with}
use Rattle.loan_table.proofs.Trees.{not_open}
use Rattle.busdma_rules.specs.Lending.Loans.{loan_of, addresses_of}
use Rattle.loan_table.specs.Table.{AreIn}
use Rattle.loan_table.specs.Trees.{closed, opened}
use Rattle.loan_table.proofs.MarkLaws.{put_loan, take_loan}
use Rattle.loan_table.proofs.table.LoanTable.open_map.Goals as goal

pub invariant_of-self : goal.invariant_of-self
invariant_of-self c =
    let loans = c.self.inside.loans in
    let map = c.args.map.made_at in
    record {
      ordered = c.open.ensures.ordered;
      inside = λ m. rw c.open.ensures.opened
          (put_loan (λ ps. AreIn c.self.inside.bytes.bytes (addresses_of ps)) (opened loans) map
          (loan_of (closed loans) map) (c.self.invariant.prepared map) c.self.invariant.inside m);
      prepared = λ m. rw c.open.ensures.closed
          (take_loan (λ ps. AreIn c.self.inside.bytes.bytes (addresses_of ps)) (closed loans) map tt
          c.self.invariant.prepared m);
      low = c.self.invariant.low;
      counted = c.open.ensures.count ∙ c.self.invariant.counted;
      room = c.self.invariant.room;
      lent_counted = subst (IsCounted c.self.inside.lent) (sym c.open.ensures.opened)
          (counted_with c.self.inside.lent (opened loans) map (Some (loan_of (closed loans) map))
          c.self.invariant.lent_counted
          (not_open loans.entries map (rw (← c.self.view_is) at c.requires)) (c.self.invariant.idle map));
      idle = λ m. rw c.open.ensures.closed
          (take_loan LendsNothing (closed loans) map (λ way a. refl) c.self.invariant.idle m);
      count_room = c.self.invariant.count_room;
    }
