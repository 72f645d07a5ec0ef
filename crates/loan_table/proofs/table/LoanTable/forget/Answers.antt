use Rattle.std.proofs.Common.{◌≡◌, ◌+◌, length, ap, sym, ◌∙◌, subst, true, false, is_some, refl, None, arith, []}
use Rattle.loan_table.specs.Counted.{IsCounted, IsRecounted, HoldsCount}
use Rattle.loan_table.proofs.Recounting.{counted_without, held_loan}
use Rattle.std.specs.List.{filter}
use Rattle.loan_table.specs.Kept.{AreLow, position_count}
use Rattle.busdma_rules.specs.Lending.Loans.{Loan, to_write, addresses_of}
use Rattle.loan_table.specs.Table.{AreIn, set_all}
use Rattle.loan_table.specs.Trees.{loans_in}
use Rattle.loan_table.proofs.Addresses.{AreIn-set_all, AreLow-set_all}
use Rattle.loan_table.proofs.LoansInTree.{loan_found}
use Rattle.loan_table.proofs.MarkLaws.{take_loan, AreIn-filter}
use Rattle.loan_table.proofs.Rooms.{count_removed, left_by_map, count_room_less}
use Rattle.loan_table.proofs.Trees.{closed_stay, is_there, loans_in-change, open_there}
use Rattle.loan_table.proofs.table.LoanTable.forget.Goals as goal

pub unwrap-slot-requires : goal.unwrap-slot-requires
unwrap-slot-requires c = ap is_some c.remove.ensures.value
    ∙ is_there true c.self.inside.loans.entries c.args.map.made_at (rw (← c.self.view_is) at c.requires)

pub lose_lent-requires-clause-there : goal.lose_lent-requires-clause-there
lose_lent-requires-clause-there c =
    let at = sym c.remove.ensures.value ∙ c.unwrap-slot.ensures in
    rw c.into_row-row.ensures (subst (λ (l : Loan). AreIn c.self.inside.bytes.bytes (addresses_of l.positions))
    (loan_found c.self.inside.loans.entries c.args.map.made_at _ at
    (open_there _ _ _ at (rw (← c.self.view_is) at c.requires)))
    (c.self.invariant.inside c.args.map.made_at))

pub lose_lent-requires-clause-room : goal.lose_lent-requires-clause-room
lose_lent-requires-clause-room c =
    let sum : position_count c.remove.new.self.entries
    + length c.unwrap-slot.result.row.positions ≡ c.self.inside.positions =
    ap (λ es. position_count es + length c.unwrap-slot.result.row.positions) c.remove.ensures.entries
    ∙ count_removed c.self.inside.loans.entries _ c.unwrap-slot.result (sym c.remove.ensures.value
    ∙ c.unwrap-slot.ensures) ∙ c.self.invariant.counted in
    omega (arith, sum, ap (λ (l : Loan). length l.positions) c.into_row-row.ensures, c.self.invariant.room.forgets)

pub uncount-requires-clause-held : goal.uncount-requires-clause-held
uncount-requires-clause-held c =
    let at = sym c.remove.ensures.value ∙ c.unwrap-slot.ensures in
    rw c.into_row-row.ensures (subst (λ (l : Loan). HoldsCount c.self.inside.lent l.positions)
    (loan_found c.self.inside.loans.entries c.args.map.made_at _ at
    (open_there _ _ _ at (rw (← c.self.view_is) at c.requires)))
    (held_loan c.self.inside.lent (loans_in true c.self.inside.loans.entries) c.args.map.made_at
    c.self.invariant.lent_counted))

pub uncount-requires-clause-room : goal.uncount-requires-clause-room
uncount-requires-clause-room c way =
    let sum : position_count c.remove.new.self.entries
    + length c.unwrap-slot.result.row.positions ≡ c.self.inside.positions =
    ap (λ es. position_count es + length c.unwrap-slot.result.row.positions) c.remove.ensures.entries
    ∙ count_removed c.self.inside.loans.entries _ c.unwrap-slot.result (sym c.remove.ensures.value
    ∙ c.unwrap-slot.ensures) ∙ c.self.invariant.counted in
    omega (
      arith,
      sum,
      ap (λ (l : Loan). length l.positions) c.into_row-row.ensures,
      c.self.invariant.count_room.forgets
          way,
    )

pub overflow_sub-self : goal.overflow_sub-self
overflow_sub-self c =
    let sum : position_count c.remove.new.self.entries
    + length c.unwrap-slot.result.row.positions ≡ c.self.inside.positions =
    ap (λ es. position_count es + length c.unwrap-slot.result.row.positions) c.remove.ensures.entries
    ∙ count_removed c.self.inside.loans.entries _ c.unwrap-slot.result (sym c.remove.ensures.value
    ∙ c.unwrap-slot.ensures) ∙ c.self.invariant.counted in
    omega (arith, sum, ap (λ (l : Loan). length l.positions) c.into_row-row.ensures, c.len.ensures)

pub invariant_of-self : goal.invariant_of-self
invariant_of-self c =
    let gone_bytes = rw c.into_row-row.ensures at c.lose_lent.ensures.bytes in
    let gone_room = rw c.into_row-row.ensures at c.lose_lent.ensures.room in
    let gone_counts = rw c.into_row-row.ensures at c.uncount.ensures.counts in
    let gone_count_room = rw c.into_row-row.ensures at c.uncount.ensures.room in
    let gone_len = rw c.into_row-row.ensures at c.len.ensures in
    let bytes = c.self.inside.bytes.bytes in
    let es = c.self.inside.loans.entries in
    let map = c.args.map.made_at in
    let slot = c.unwrap-slot.result in
    let gone = addresses_of (filter to_write slot.row.positions) in
    let at = sym c.remove.ensures.value ∙ c.unwrap-slot.ensures in
    let is_open = open_there es map slot at (rw (← c.self.view_is) at c.requires) in
    let found = loan_found es map slot at is_open in
    let there = subst (λ (l : Loan). AreIn bytes (addresses_of l.positions)) found (c.self.invariant.inside map) in
    let sum : position_count c.remove.new.self.entries
    + length c.unwrap-slot.result.row.positions ≡ c.self.inside.positions =
    ap (λ es. position_count es + length c.unwrap-slot.result.row.positions) c.remove.ensures.entries
    ∙ count_removed es _ slot at ∙ c.self.invariant.counted in
    record {
      ordered = c.remove.ensures.ordered;
      inside = λ m.
          rw (
            gone_bytes,
            loans_in-change true es c.remove.new.self.entries map None c.remove.ensures.updates.0,
          )
          (take_loan (λ ps. AreIn (set_all bytes gone false) (addresses_of ps)) _ map tt
          (λ q. AreIn-set_all _ gone false _ (c.self.invariant.inside q)) m);
      prepared = λ m.
          rw (
            gone_bytes,
            closed_stay es c.remove.new.self.entries map slot None at is_open refl c.remove.ensures.updates.0,
          )
          (AreIn-set_all _ gone false _ (c.self.invariant.prepared m));
      low =
          subst AreLow (sym gone_bytes)
          (AreLow-set_all bytes gone false (AreIn-filter bytes to_write slot.row.positions there)
          c.self.invariant.low);
      counted = omega (arith, sum, gone_len);
      room = left_by_map c.self.inside.bytes c.lose_lent.new.bytes c.self.inside.positions _ c.self.inside.spare
          (length slot.row.positions) c.self.invariant.room (omega (arith, sum, gone_len))
          gone_room c.lose_lent.ensures.there_room;
      lent_counted = subst (IsCounted c.uncount.new.lent)
          (sym (loans_in-change true es c.remove.new.self.entries map None c.remove.ensures.updates.0))
          (counted_without c.self.inside.lent c.uncount.new.lent (loans_in true es) map c.self.invariant.lent_counted
          (subst (λ (l : Loan). IsRecounted c.self.inside.lent c.uncount.new.lent l.positions []) (sym found)
          gone_counts));
      idle = λ m. rw (closed_stay es c.remove.new.self.entries map slot None at is_open refl
          c.remove.ensures.updates.0) (c.self.invariant.idle m);
      count_room = count_room_less c.self.inside.lent c.uncount.new.lent c.self.inside.positions _ c.self.inside.spare
          (length slot.row.positions) c.self.invariant.count_room (omega (arith, sum, gone_len))
          gone_count_room;
    }

pub returns-clause-bytes : goal.returns-clause-bytes
returns-clause-bytes c =
    let at = sym c.remove.ensures.value ∙ c.unwrap-slot.ensures in
    rw (← c.self.view_is)
    ((rw c.into_row-row.ensures at c.lose_lent.ensures.bytes)
    ∙ ap (λ (l : Loan). set_all c.self.inside.bytes.bytes (addresses_of (filter to_write l.positions)) false)
    (sym (loan_found c.self.inside.loans.entries c.args.map.made_at _ at
    (open_there _ _ _ at (rw (← c.self.view_is) at c.requires)))))

pub returns-clause-loans : goal.returns-clause-loans
returns-clause-loans c =
    rw (← c.self.view_is) (loans_in-change true c.self.inside.loans.entries c.remove.new.self.entries
    c.args.map.made_at None c.remove.ensures.updates.0)

pub returns-clause-prepared : goal.returns-clause-prepared
returns-clause-prepared c =
    let at = sym c.remove.ensures.value ∙ c.unwrap-slot.ensures in
    rw (← c.self.view_is) (closed_stay c.self.inside.loans.entries c.remove.new.self.entries c.args.map.made_at
    c.unwrap-slot.result None at (open_there _ _ _ at (rw (← c.self.view_is) at c.requires)) refl
    c.remove.ensures.updates.0)

pub returns-clause-there : goal.returns-clause-there
returns-clause-there c = rw (← c.self.view_is) (AreIn-filter _ to_write _ (c.self.invariant.inside c.args.map.made_at))
