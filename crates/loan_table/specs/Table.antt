-- A table of Known marks and loans, and what its calls do to it.
use Rattle.std.specs.Prelude.{◌≡◌, ℕ, ◌+◌, ◌%◌, Bool, false, ◌&&◌, ◌||◌, not, List, [], ◌∷◌, ◌==◌, if◌then◌else◌}
use Rattle.std.specs.Prelude.{unwrap_or, IsSome, IsNone, ⊤}
use Rattle.std.specs.List.{All}
use Rattle.std.specs.Ordering.{nat_cmp}
use Rattle.std.specs.FinMap.{FinMap, get, insert, remove}
use Rattle.busdma_machine.specs.declared.report.Judged.{Judged}
use Rattle.busdma_machine.specs.declared.report.Judged.TheVariants.{Fine, Refused}
use Rattle.busdma_rules.specs.declared.position.Position.{Position}
use Rattle.busdma_rules.specs.Lending.Loans.{Loans, loan_of}
use Rattle.busdma_rules.specs.Lending.SyncEffects.{synced, lost}

-- the driver's bytes by physical address, each Known or not; the loans of its loaded maps; the loans that are
-- prepared for maps to come; and for how many extents there is room to change
pub record Table : Type 0 where
  pub bytes : FinMap nat_cmp Bool
  pub loans : Loans
  pub prepared : Loans
  pub spare : ℕ

-- the byte at an address is among the bytes and marked Known
abbrev pub is_marked : FinMap nat_cmp Bool → ℕ → Bool
is_marked bytes a = unwrap_or (get bytes a) false

-- the byte at an address is Known
abbrev pub is_marked_known : Table → ℕ → Bool
is_marked_known t a = is_marked t.bytes a

-- the map is in the table and open
abbrev pub HasMap : Table → ℕ → Type 0
HasMap t m = IsSome (get t.loans m)

-- a loan is prepared for the map
abbrev pub IsPrepared : Table → ℕ → Type 0
IsPrepared t m = IsSome (get t.prepared m)

-- the positions of the buffer of an open map
abbrev pub buffer_of : Table → ℕ → List Position
buffer_of t m = (loan_of t.loans m).positions

-- each of these bytes is among the bytes of a table
abbrev pub AreIn : FinMap nat_cmp Bool → List ℕ → Type 0
AreIn bytes [] = Unit {0}
AreIn bytes (a ∷ rest) = IsSome (get bytes a) × AreIn bytes rest

-- none of these bytes is among the bytes of a table
abbrev pub AreNew : FinMap nat_cmp Bool → List ℕ → Type 0
AreNew bytes [] = Unit {0}
AreNew bytes (a ∷ rest) = IsNone (get bytes a) × AreNew bytes rest

-- the bytes of a table with the bytes at these addresses marked Known or Unknown
abbrev pub set_all : FinMap nat_cmp Bool → List ℕ → Bool → FinMap nat_cmp Bool
set_all bytes [] known = bytes
set_all bytes (a ∷ rest) known = set_all (insert bytes a known) rest known

-- the bytes of a table without the bytes at these addresses
abbrev pub without : FinMap nat_cmp Bool → List ℕ → FinMap nat_cmp Bool
without bytes [] = bytes
without bytes (a ∷ rest) = without (remove bytes a) rest

-- the address is one of these
abbrev pub is_among : ℕ → List ℕ → Bool
is_among a [] = false
is_among a (b ∷ rest) = (a == b) || is_among a rest

-- none of these bytes is in the buffer of a map
abbrev pub AreFree : Loans → List ℕ → Type 0
AreFree loans bytes = (m : ℕ) → All (λ p. is_among p.pa bytes ≡ false) (loan_of loans m).positions

-- two tables are equal except for their room
pub record IsSame (t u : Table) : Type 0 where
  pub bytes : u.bytes ≡ t.bytes
  pub loans : u.loans ≡ t.loans
  pub prepared : u.prepared ≡ t.prepared

-- a table after a sync of a range of a map's buffer that is not refused
pub record IsSynced (t u : Table) (m off len ops : ℕ) : Type 0 where
  pub bytes : u.bytes ≡ set_all t.bytes (lost t.loans m off len ops) false
  pub loans : u.loans ≡ synced t.loans m off len ops
  pub prepared : u.prepared ≡ t.prepared

-- a fact that holds if the judgement is Fine
abbrev pub OnFine : Judged → Type 0 → Type 0
OnFine Fine P = P
OnFine (Refused r) P = ⊤

-- a fact that holds if the judgement is a refusal
abbrev pub OnRefused : Judged → Type 0 → Type 0
OnRefused Fine P = ⊤
OnRefused (Refused r) P = P

-- a byte directly follows another, in the same frame
abbrev pub is_next : ℕ → ℕ → Bool
is_next before a = (a == before + 1) && not (a % 4096 == 0)

-- how many extents begin in these bytes, if they come after a given byte
abbrev pub more_extents : ℕ → List ℕ → ℕ
more_extents before [] = 0
more_extents before (a ∷ rest) = (if is_next before a then 0 else 1) + more_extents a rest

-- how many extents hold bytes in order; each is as long as it can be in its frame
abbrev pub extent_count : List ℕ → ℕ
extent_count [] = 0
extent_count (a ∷ rest) = 1 + more_extents a rest
