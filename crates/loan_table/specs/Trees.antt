-- Tree maps of slots as finite maps: the loans of the open maps, and the loans of the prepared ones.
use Rattle.std.specs.Prelude.{ℕ, Bool, true, false, if◌then◌else◌, List, [], ◌∷◌, Option, Some, None}
use Rattle.std.specs.Ordering.{nat_cmp}
use Rattle.std.specs.BTreeMap.{BTreeMap}
use Rattle.std.specs.FinMap.{FinMap, empty, insert, remove}
use Rattle.loan_table.specs.declared.slot.Slot.{Slot}
use Rattle.busdma_rules.specs.Lending.Loans.{Loan, Loans}

-- a finite map with the given value at a key, or with no value there
abbrev pub with_value : {X : Type 0} → FinMap nat_cmp X → ℕ → Option X → FinMap nat_cmp X
with_value m k None = remove m k
with_value m k (Some x) = insert m k x

-- the loan of a slot, if its map is open; with is_open false, if its map is only prepared
abbrev pub loan_if : Bool → Slot → Option Loan
loan_if true slot = if slot.is_open then Some slot.row else None
loan_if false slot = if slot.is_open then None else Some slot.row

-- the loans of the slots whose maps are open; with is_open false, of those that are only prepared
abbrev pub loans_in : Bool → List (ℕ × Slot) → Loans
loans_in is_open [] = empty
loans_in is_open (e ∷ es) = with_value (loans_in is_open es) e.0 (loan_if is_open e.1)

-- the loans of the open maps of a tree
abbrev pub opened : BTreeMap ℕ Slot → Loans
opened t = loans_in true t.entries

-- the loans of the prepared maps of a tree
abbrev pub closed : BTreeMap ℕ Slot → Loans
closed t = loans_in false t.entries
