-- How often the bytes of a driver are lent, and the counts that say so.
use Rattle.std.specs.Prelude.{◌≡◌, ℕ, ◌+◌, ◌≤◌, ◌<◌, ◌&&◌, false, if◌then◌else◌, Bool, List, count_by, sum_by, None}
use Rattle.std.specs.List.{All}
use Rattle.std.specs.FinMap.{entries}
use Rattle.run_set.specs.Counts.{Counts, count}
use Rattle.run_set.specs.Edges.{is_inside_run}
use Rattle.busdma_rules.specs.declared.position.Position.{Position}
use Rattle.loan_table.specs.declared.lent.LentCounts.{LentCounts}
use Rattle.loan_table.specs.declared.row.Way.{Way}
use Rattle.loan_table.specs.declared.row.Way.TheVariants.{ToWrite, ToRead}
use Rattle.loan_table.specs.Kinds.{test_of}
use Rattle.busdma_rules.specs.Lending.SyncEffects.{sync_refusal}
use Rattle.busdma_rules.specs.Lending.Loans.{Loan, Loans, loan_of, is_at, stands_twice}

-- the number of a map, and the loans of its driver
pub record Lender : Type 0 where
  pub loans : Loans
  pub map : ℕ

-- at how many positions of a list the byte at an address is lent in a given way
abbrev pub counted_places : (Position → Bool) → ℕ → List Position → ℕ
counted_places way a ps = count_by (λ p. is_at a p && way p) ps

-- at how many positions of a run of consecutive bytes the byte at an address is lent, if all of them or none
-- is lent
abbrev pub places_in : ℕ → ℕ → Bool → ℕ → ℕ
places_in start len is_lent a = if is_inside_run start (start + len) a && is_lent then 1 else 0

-- at how many positions of all maps the byte at an address is lent in a given way
abbrev pub lent_places : (Position → Bool) → ℕ → Loans → ℕ
lent_places way a loans = sum_by (λ e. counted_places way a e.1.positions) (entries loans)

-- these positions lend no byte in any way
abbrev pub LendsNothing : List Position → Type 0
LendsNothing ps = (way : Way) (a : ℕ) → counted_places (test_of way) a ps ≡ 0

-- if the byte of a position is only once in the loan, the loan lends it at this position or not at all
abbrev pub IsCountPlaced : Loan → Position → Type 0
IsCountPlaced loan p =
    stands_twice p.pa loan ≡ false → (way : Way) → counted_places (test_of way) p.pa loan.positions
    ≡ (if test_of way p then 1 else 0)

-- the counts for a given way of lending
abbrev pub counts_of : LentCounts → Way → Counts
counts_of lent ToWrite = lent.to_write
counts_of lent ToRead = lent.to_read

-- the counts say for each way and byte at how many positions of the loans it is lent
abbrev pub IsCounted : LentCounts → Loans → Type 0
IsCounted lent loans = (way : Way) (a : ℕ) → count (counts_of lent way) a ≡ lent_places (test_of way) a loans

-- the counts are right for a driver's loans, and the loan is that of one of its maps
abbrev pub IsOf : LentCounts → Loan → Lender → Type 0
IsOf lent loan lender = IsCounted lent lender.loans × (loan ≡ loan_of lender.loans lender.map)

-- the counts are at least what the positions lend
abbrev pub HoldsCount : LentCounts → List Position → Type 0
HoldsCount lent ps = (way : Way) (a : ℕ) → counted_places (test_of way) a ps ≤ count (counts_of lent way) a

-- the new counts differ from the old ones as if the first positions had been replaced by the second
abbrev pub IsRecounted : LentCounts → LentCounts → List Position → List Position → Type 0
IsRecounted old new ps qs =
    (way : Way) (a : ℕ) → count (counts_of new way) a + counted_places (test_of way) a ps
    ≡ count (counts_of old way) a + counted_places (test_of way) a qs

-- two values of the counts agree on each way and byte
abbrev pub IsAlike : LentCounts → LentCounts → Type 0
IsAlike old new = (way : Way) (a : ℕ) → count (counts_of new way) a ≡ count (counts_of old way) a

-- the counts say that no position lends the byte at an address
abbrev pub IsUnlent : LentCounts → ℕ → Type 0
IsUnlent lent a = (way : Way) → count (counts_of lent way) a ≡ 0

-- the counts say that no position lends the bytes from one address up to another
abbrev pub AreUnlent : LentCounts → ℕ → ℕ → Type 0
AreUnlent lent from to = (a : ℕ) → from ≤ a → a < to → IsUnlent lent a

-- a sync call by a map of a driver is refused at none of those positions whose byte is in a run
abbrev pub MeetsNothing : Lender → ℕ → List Position → ℕ → ℕ → Type 0
MeetsNothing lender ops ps start len =
    All (λ p. start ≤ p.pa → p.pa < start + len → sync_refusal lender.loans lender.map ops p ≡ None) ps

-- the counts have room for a given number of changes
abbrev pub HasChanges : LentCounts → ℕ → Type 0
HasChanges lent n = (way : Way) → n ≤ (counts_of lent way).room

-- the new counts have at most a given amount of room less than the old ones
abbrev pub UsesChanges : LentCounts → LentCounts → ℕ → Type 0
UsesChanges old new n = (way : Way) → (counts_of old way).room ≤ (counts_of new way).room + n

-- the counts have room to forget every map; and, if extents may change, to change each position once before
-- that
pub record HasCountRoom (lent : LentCounts) (positions spare : ℕ) : Type 0 where
  pub forgets : HasChanges lent positions
  pub changes : 0 < spare → HasChanges lent (positions + positions)
