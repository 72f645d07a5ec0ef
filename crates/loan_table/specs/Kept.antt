-- What each table keeps, and its values as codes.
use Rattle.std.specs.Prelude.{◌≡◌, sum_by, length, ℕ, ◌+◌, ◌≤◌, ◌<◌, ◌^◌, Bool, List, IsSome, refl}
use Rattle.std.specs.Coded.{Coded, code_by, coded×, coded_ℕ, coded_bool}
use Rattle.std.specs.Ordering.{nat_cmp}
use Rattle.std.specs.BTreeMap.{BTreeMap, IsOrdered}
use Rattle.std.specs.FinMap.{FinMap, get}
use Rattle.std.specs.FinMap as map
use Rattle.loan_table.specs.declared.slot.Slot.{Slot}
use Rattle.loan_table.specs.declared.lent.LentCounts.{LentCounts}
use Rattle.loan_table.specs.Counted.{LendsNothing, IsCounted, HasCountRoom}
use Rattle.std.specs.Map.{values_of}
use Rattle.loan_table.specs.Marks.{Marks}
use Rattle.busdma_rules.specs.Lending.Loans.{Loans, loan_of, addresses_of}
use Rattle.loan_table.specs.Rows.{loan_code}
use Rattle.loan_table.specs.Table.{Table, AreIn}
use Rattle.loan_table.specs.Trees.{opened, closed}

-- the byte of each position of each buffer is in the table
abbrev pub HasItsBytes : FinMap nat_cmp Bool → Loans → Type 0
HasItsBytes bytes loans = (m : ℕ) → AreIn bytes (addresses_of (loan_of loans m).positions)

-- each byte of a table is below 2^42, so that the number of its frame is below 2^30
abbrev pub AreLow : FinMap nat_cmp Bool → Type 0
AreLow bytes = (a : ℕ) → IsSome (get bytes a) → a < 2 ^ 42

-- how many positions the maps of a table have, open or prepared
abbrev pub position_count : List (ℕ × Slot) → ℕ
position_count entries = sum_by (λ s. length s.row.positions) (values_of entries)

-- the marks have room to forget every map; and, if extents may change, to change each position once and so
-- many extents before that, and for bytes to come or go
pub record HasRoom (bytes : Marks) (positions spare : ℕ) : Type 0 where
  pub forgets : positions + positions ≤ bytes.room
  pub changes : 0 < spare → positions + positions + (positions + positions) + (spare + spare) ≤ bytes.room
  pub drops : 0 < spare → 2 ≤ bytes.there_room

-- the maps of these loans lend nothing; this holds of maps that are only prepared
abbrev pub AreIdle : Loans → Type 0
AreIdle loans = (m : ℕ) → LendsNothing (loan_of loans m).positions

-- the invariant of each table over its fields
pub record IsKept (bytes : Marks) (loans : BTreeMap ℕ Slot) (lent : LentCounts) (positions spare : ℕ) : Type 0 where
  pub ordered : IsOrdered nat_cmp loans
  pub inside : HasItsBytes bytes.bytes (opened loans)
  pub prepared : HasItsBytes bytes.bytes (closed loans)
  pub low : AreLow bytes.bytes
  pub counted : position_count loans.entries ≡ positions
  pub room : HasRoom bytes positions spare
  pub lent_counted : IsCounted lent (opened loans)
  pub idle : AreIdle (closed loans)
  pub count_room : HasCountRoom lent positions spare

-- the value of a table as a code
abbrev pub table_code : Coded Table
table_code =
    code_by (FinMap nat_cmp Bool × (Loans × (Loans × ℕ)))
    (coded× (map.code coded_ℕ coded_bool)
    (coded× (map.code coded_ℕ loan_code) (coded× (map.code coded_ℕ loan_code) coded_ℕ)))
    (λ t. (t.bytes, (t.loans, (t.prepared, t.spare))))
    (λ t. record { bytes = t.0; loans = t.1.0; prepared = t.1.1.0; spare = t.1.1.1 }) (λ _. refl)
