use Rattle.std.proofs.Common.{◌≡◌, ◌+◌, ◌-◌, length, ap, sym, subst, ◌∙◌, arith, Bool, true, false, Some, None, cond}
use Rattle.std.proofs.Common.{unwrap_or, refl}
use Rattle.std.specs.Option.{option_map}
use Rattle.std.specs.Ordering.{nat_cmp}
use Rattle.std.specs.BTreeMap.{insert_entry}
use Rattle.std.specs.FinMap.{FinMap}
use Rattle.busdma_machine.specs.Runs.{addresses}
use Rattle.loan_table.specs.declared.slot.Slot.{Slot}
use Rattle.loan_table.specs.Kept.{AreLow, position_count}
use Rattle.loan_table.proofs.Keeping.{kept_more}
use Rattle.busdma_rules.specs.Lending.Loans.{Loan, addresses_of, no_loan}
use Rattle.loan_table.specs.Table.{AreIn}
use Rattle.loan_table.specs.Trees.{closed, opened, with_value, loan_if, loans_in}
use Rattle.loan_table.proofs.Addresses.{AllEnd}
use Rattle.loan_table.proofs.MarkLaws.{with_loan, addresses_of-unlent}
use Rattle.loan_table.proofs.Rooms.{count_put, room_made, count_room_made}
use Rattle.loan_table.specs.Counted.{IsCounted, LendsNothing}
use Rattle.loan_table.proofs.Recounting.{counted_with, none_lent}
use Rattle.loan_table.proofs.Results.{is_none}
use Rattle.loan_table.proofs.Trees.{loans_in-change}
use Rattle.loan_table.proofs.table.LoanTable.put_map.Goals as goal

-- the loan that a slot gives to the open maps, and to the others
if_open : (b : Bool) (row loan : Loan) → row ≡ loan →
    loan_if true (record { is_open = b; row = row }) ≡ cond b (Some loan) None
if_open true row loan e = ap Some e
if_open false row loan e = refl

if_closed : (b : Bool) (row loan : Loan) → row ≡ loan →
    loan_if false (record { is_open = b; row = row }) ≡ cond b None (Some loan)
if_closed true row loan e = refl
if_closed false row loan e = ap Some e

inside_open : (m : FinMap nat_cmp Bool) (b : Bool) (row : Loan) → AreIn m (addresses_of row.positions) →
    AreIn m (addresses_of (unwrap_or (loan_if true (record { is_open = b; row = row })) no_loan).positions)
inside_open m true row h = h
inside_open m false row h = tt

inside_closed : (m : FinMap nat_cmp Bool) (b : Bool) (row : Loan) → AreIn m (addresses_of row.positions) →
    AreIn m (addresses_of (unwrap_or (loan_if false (record { is_open = b; row = row })) no_loan).positions)
inside_closed m true row h = tt
inside_closed m false row h = h

idle_open : (b : Bool) (row : Loan) → LendsNothing row.positions →
    LendsNothing (unwrap_or (loan_if true (record { is_open = b; row = row })) no_loan).positions
idle_open true row h = h
idle_open false row h = λ way a. refl

idle_closed : (b : Bool) (row : Loan) → LendsNothing row.positions →
    LendsNothing (unwrap_or (loan_if false (record { is_open = b; row = row })) no_loan).positions
idle_closed true row h = λ way a. refl
idle_closed false row h = h

pub over-requires-clause-ends : goal.over-requires-clause-ends
over-requires-clause-ends c = AllEnd _ c.self.invariant.low _ (rw (← c.self.view_is) at c.requires.there)

pub overflow_sub-self : goal.overflow_sub-self
overflow_sub-self c =
    let slot : Slot = record { is_open = c.args.is_open; row = c.in_ok-row.row } in
    let es = c.self.inside.loans.entries in
    let sum : position_count (insert_entry nat_cmp es c.args.map.made_at slot) + c.positions_of.result
    ≡ position_count es + length c.in_ok-row.row.positions =
    ap (λ n. position_count (insert_entry nat_cmp es c.args.map.made_at slot) + n) (c.positions_of.ensures
    ∙ ap (λ o. unwrap_or (option_map (λ (s : Slot). length s.row.positions) o) 0) c.in_ok-gone.ensures.old)
    ∙ count_put es c.args.map.made_at slot c.self.invariant.ordered in
    omega (arith, sum, c.in_ok-positions.ensures, (rw c.as_row.ensures at c.len.ensures), c.self.invariant.counted)

pub invariant_of-self-2 : goal.invariant_of-self-2
invariant_of-self-2 c =
    let slot : Slot = record { is_open = c.args.is_open; row = c.in_ok-row.row } in
    let es = c.self.inside.loans.entries in
    let bytes = c.self.inside.bytes.bytes in
    let map = c.args.map.made_at in
    let sum : position_count c.insert.new.self.entries + c.positions_of.result
    ≡ position_count es + length c.in_ok-row.row.positions =
    ap (λ ds. position_count ds + c.positions_of.result) c.in_ok-gone.ensures.entries
    ∙ ap (λ n. position_count (insert_entry nat_cmp es map slot) + n) (c.positions_of.ensures
    ∙ ap (λ o. unwrap_or (option_map (λ (s : Slot). length s.row.positions) o) 0) c.in_ok-gone.ensures.old)
    ∙ count_put es map slot c.self.invariant.ordered in
    let there : AreIn bytes (addresses_of c.in_ok-row.row.positions) =
    rw (c.in_ok-row.ensures, addresses_of-unlent (addresses c.args.bytes.now))
    (rw (← c.self.view_is) at c.requires.there) in
    let idle : LendsNothing c.in_ok-row.row.positions =
    rw c.in_ok-row.ensures (λ way a. none_lent way a (addresses c.args.bytes.now)) in
    record {
      ordered = c.in_ok-gone.ensures.ordered;
      inside = λ m.
          rw (
            c.reserve.ensures.bytes,
            loans_in-change true es c.insert.new.self.entries map (Some slot) c.in_ok-gone.ensures.updates.0,
          )
          (with_loan (λ ps. AreIn bytes (addresses_of ps)) _ map (loan_if true slot)
          (inside_open bytes c.args.is_open c.in_ok-row.row there) c.self.invariant.inside m);
      prepared = λ m.
          rw (
            c.reserve.ensures.bytes,
            loans_in-change false es c.insert.new.self.entries map (Some slot) c.in_ok-gone.ensures.updates.0,
          )
          (with_loan (λ ps. AreIn bytes (addresses_of ps)) _ map (loan_if false slot)
          (inside_closed bytes c.args.is_open c.in_ok-row.row there) c.self.invariant.prepared m);
      low = subst AreLow (sym c.reserve.ensures.bytes) c.self.invariant.low;
      counted = omega (
        arith,
        sum,
        c.in_ok-positions.ensures,
        (rw c.as_row.ensures at c.len.ensures),
        c.self.invariant.counted,
      );
      room =
          room_made c.reserve.new.self (c.in_ok-positions.positions - c.positions_of.result) c.self.inside.spare
          (omega (arith, c.in_ok-edges_for.ensures, c.in_ok-reserve.ensures.ok))
          (omega (arith, c.in_ok-reserve.ensures.there_ok));
      lent_counted = subst (IsCounted c.reserve-2.new.self)
          (sym (loans_in-change true es c.insert.new.self.entries map (Some slot) c.in_ok-gone.ensures.updates.0))
          (counted_with c.reserve-2.new.self (loans_in true es) map (loan_if true slot)
          (λ way a. c.reserve-2.ensures.same way a ∙ c.self.invariant.lent_counted way a)
          (is_none _ (rw (← c.self.view_is) at c.requires.fresh)) (idle_open c.args.is_open c.in_ok-row.row idle));
      idle = λ m.
          rw (loans_in-change false es c.insert.new.self.entries map (Some slot) c.in_ok-gone.ensures.updates.0)
          (with_loan LendsNothing (loans_in false es) map (loan_if false slot)
          (idle_closed c.args.is_open c.in_ok-row.row idle) c.self.invariant.idle m);
      count_room = count_room_made c.reserve-2.new.self (c.in_ok-positions.positions - c.positions_of.result)
          c.self.inside.spare (λ way. omega (arith, c.in_ok-changes_for.ensures, c.in_ok-reserve-2.ensures.ok way));
    }

pub returns-clause-loans : goal.returns-clause-loans
returns-clause-loans c =
    let slot : Slot = record { is_open = c.args.is_open; row = c.in_ok-row.row } in
    rw (← c.self.view_is)
    (loans_in-change true c.self.inside.loans.entries c.insert.new.self.entries c.args.map.made_at
    (Some slot) c.in_ok-gone.ensures.updates.0
    ∙ ap (with_value (opened c.self.inside.loans) c.args.map.made_at)
    (if_open c.args.is_open c.in_ok-row.row _ c.in_ok-row.ensures))

pub returns-clause-prepared : goal.returns-clause-prepared
returns-clause-prepared c =
    let slot : Slot = record { is_open = c.args.is_open; row = c.in_ok-row.row } in
    rw (← c.self.view_is)
    (loans_in-change false c.self.inside.loans.entries c.insert.new.self.entries c.args.map.made_at
    (Some slot) c.in_ok-gone.ensures.updates.0
    ∙ ap (with_value (closed c.self.inside.loans) c.args.map.made_at)
    (if_closed c.args.is_open c.in_ok-row.row _ c.in_ok-row.ensures))

pub invariant_of-self-in_err-gone : goal.invariant_of-self-in_err-gone
invariant_of-self-in_err-gone c =
    kept_more c.self.inside.bytes c.reserve.new.self c.self.inside.loans c.insert.new.self c.self.inside.lent
    c.reserve-2.new.self c.self.inside.positions c.self.inside.spare c.self.invariant (sym c.in_err-gone.ensures.err)
    c.reserve.ensures.bytes c.reserve.ensures.room c.reserve.ensures.there_room c.reserve-2.ensures.same
    c.reserve-2.ensures.room
