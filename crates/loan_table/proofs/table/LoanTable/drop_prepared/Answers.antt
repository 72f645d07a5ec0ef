use Rattle.std.proofs.Common.{◌≡◌, ◌+◌, ◌∙◌, false, refl, None, arith, sym, subst}
use Rattle.loan_table.specs.Counted.{IsCounted, LendsNothing}
use Rattle.loan_table.specs.Kept.{position_count}
use Rattle.busdma_rules.specs.Lending.Loans.{addresses_of}
use Rattle.loan_table.specs.Table.{AreIn}
use Rattle.loan_table.specs.Trees.{closed}
use Rattle.loan_table.proofs.MarkLaws.{take_loan}
use Rattle.loan_table.proofs.Results.{is_none}
use Rattle.loan_table.proofs.Rooms.{count_taken, left_by_map, count_room_less}
use Rattle.loan_table.proofs.Trees.{loans_in-change, opened_stay}
use Rattle.loan_table.proofs.table.LoanTable.drop_prepared.Goals as goal

pub overflow_sub-self : goal.overflow_sub-self
overflow_sub-self c =
    let sum : position_count c.remove-gone.new.self.entries + c.positions_of.result ≡ c.self.inside.positions =
    count_taken c.self.inside.loans.entries c.remove-gone.new.self.entries _ _ _ c.remove-gone.ensures.entries
    c.remove-gone.ensures.value c.positions_of.ensures ∙ c.self.invariant.counted in
    omega (arith, sum)

pub invariant_of-self : goal.invariant_of-self
invariant_of-self c =
    let es = c.self.inside.loans.entries in
    let map = c.args.map.made_at in
    let sum : position_count c.remove-gone.new.self.entries + c.positions_of.result ≡ c.self.inside.positions =
    count_taken es c.remove-gone.new.self.entries _ _ _ c.remove-gone.ensures.entries
    c.remove-gone.ensures.value c.positions_of.ensures ∙ c.self.invariant.counted in
    record {
      ordered = c.remove-gone.ensures.ordered;
      inside = λ m. rw (opened_stay es c.remove-gone.new.self.entries map
          (is_none _ (rw (← c.self.view_is) at c.requires)) c.remove-gone.ensures.updates.0)
          (c.self.invariant.inside m);
      prepared = λ m. rw (loans_in-change false es c.remove-gone.new.self.entries map None
          c.remove-gone.ensures.updates.0)
          (take_loan (λ ps. AreIn c.self.inside.bytes.bytes (addresses_of ps)) (closed c.self.inside.loans) map tt
          c.self.invariant.prepared m);
      low = c.self.invariant.low;
      counted = omega (arith, sum);
      room = left_by_map c.self.inside.bytes c.self.inside.bytes c.self.inside.positions _ c.self.inside.spare
          c.positions_of.result c.self.invariant.room (omega (arith, sum)) (omega arith) refl;
      lent_counted = subst (IsCounted c.self.inside.lent) (sym (opened_stay es c.remove-gone.new.self.entries map
          (is_none _ (rw (← c.self.view_is) at c.requires)) c.remove-gone.ensures.updates.0))
          c.self.invariant.lent_counted;
      idle = λ m. rw (loans_in-change false es c.remove-gone.new.self.entries map None
          c.remove-gone.ensures.updates.0)
          (take_loan LendsNothing (closed c.self.inside.loans) map (λ way a. refl) c.self.invariant.idle m);
      count_room = count_room_less c.self.inside.lent c.self.inside.lent c.self.inside.positions _ c.self.inside.spare
          c.positions_of.result c.self.invariant.count_room (omega (arith, sum)) (λ way. omega arith);
    }

pub returns-clause-prepared : goal.returns-clause-prepared
returns-clause-prepared c =
    rw (← c.self.view_is) (loans_in-change false c.self.inside.loans.entries c.remove-gone.new.self.entries
    c.args.map.made_at None c.remove-gone.ensures.updates.0)

pub returns-clause-loans : goal.returns-clause-loans
returns-clause-loans c =
    rw (← c.self.view_is) (opened_stay c.self.inside.loans.entries c.remove-gone.new.self.entries c.args.map.made_at
    (is_none _ (rw (← c.self.view_is) at c.requires)) c.remove-gone.ensures.updates.0)
