-- What each row of a table keeps, and its value as a code.
use Rattle.std.specs.Prelude.{◌≡◌, ◌==◌, ◌+◌, ◌≤◌, ◌<◌, ◌^◌, count_by, length, map, ℕ, Bool, List, [], ◌∷◌, refl}
use Rattle.std.specs.Prelude.{Option, Some, None}
use Rattle.std.specs.List.{All}
use Rattle.std.specs.Coded.{Coded, code_by, coded×, coded_ℕ, coded_bool, coded_list}
use Rattle.run_set.specs.Counts.{Counts, count}
use Rattle.run_set.specs.Edges.{Edges, Rises}
use Rattle.busdma_machine.specs.declared.machine.address.Extent.{Extent}
use Rattle.busdma_machine.specs.Runs.{addresses, byte_count, run_of}
use Rattle.loan_table.specs.Ends.{Ends}
use Rattle.busdma_rules.specs.declared.position.Position.{Position}
use Rattle.busdma_rules.specs.Lending.Loans.{Loan, addresses_of}
use Rattle.loan_table.specs.Table.{extent_count}

-- at how many places of a list a number is
abbrev pub stands : ℕ → List ℕ → ℕ
stands a bytes = count_by (λ b. b == a) bytes

-- the counts say of each number at how many places of a list it is
abbrev pub CountsPlaces : Counts → List ℕ → Type 0
CountsPlaces places bytes = (a : ℕ) → count places a ≡ stands a bytes

-- either the counts say of each number at how many places of a list it is, or there are no counts and no
-- number is at more than one place
abbrev pub AreCounted : Option Counts → List ℕ → Type 0
AreCounted (Some places) bytes = CountsPlaces places bytes
AreCounted None bytes = (a : ℕ) → stands a bytes ≤ 1

-- the positions at which stretches begin, if the first begins at a given one
abbrev pub starts_from : ℕ → List Extent → List ℕ
starts_from at [] = []
starts_from at (e ∷ es) = at ∷ starts_from (at + e.len) es

-- the invariant of each buffer over its fields
pub record IsBuffer (stretches : List Extent) (starts : List ℕ) (len : ℕ) (places : Option Counts) : Type 0 where
  pub ends : All Ends stretches
  pub begun : starts ≡ starts_from 0 stretches
  pub long : byte_count stretches ≡ len
  pub small : byte_count stretches < 2 ^ 64
  pub counted : AreCounted places (addresses stretches)

-- the bytes of an extent, if it has any, lie from one address up to another
pub record LiesFromTo (first end : ℕ) (e : Extent) : Type 0 where
  pub from : 0 < e.len → first ≤ e.pa.0
  pub to : 0 < e.len → e.pa.0 + e.len ≤ end

-- each of these bytes lies in a run
abbrev pub AreWithin : Extent → List ℕ → Type 0
AreWithin run bytes = All (λ a. (run.pa.0 ≤ a) × (a < run.pa.0 + run.len)) bytes

-- the positions of bytes in order, counted from a place on; each is lent as two sets of places say
abbrev pub placed : (ℕ → Bool) → (ℕ → Bool) → ℕ → List ℕ → List Position
placed reads writes at [] = []
placed reads writes at (a ∷ rest) =
    record { pa = a; to_read = reads at; to_write = writes at } ∷ placed reads writes (at + 1) rest

-- a set of places among n with room for each change
pub record IsRoomy (set : Edges) (n : ℕ) : Type 0 where
  pub rise : Rises 0 (n + 1) set.edges
  pub room : n + 3 ≤ length set.edges + set.room

-- the invariant of each row over its fields
pub record IsLoanRow (to_read to_write : Edges) (buffer : List ℕ) (extents : ℕ) : Type 0 where
  pub read : IsRoomy to_read (length buffer)
  pub write : IsRoomy to_write (length buffer)
  pub small : length buffer < 2 ^ 64
  pub parted : extents ≡ extent_count buffer

-- n positions of consecutive bytes, from a first position on, all lent as the first is
abbrev pub alike : Position → ℕ → List Position
alike p n = map (λ a. record { pa = a; to_read = p.to_read; to_write = p.to_write }) (run_of p.pa n)

-- the positions of bytes, each lent as a given position is
abbrev pub lent_like : Position → List ℕ → List Position
lent_like p bytes = map (λ a. record { pa = a; to_read = p.to_read; to_write = p.to_write }) bytes

-- these positions are all lent as a given position is
abbrev pub AreAlike : Position → List Position → Type 0
AreAlike p ps = ps ≡ lent_like p (addresses_of ps)

-- the value of a position as a code
abbrev pub position_code : Coded Position
position_code =
    code_by (ℕ × (Bool × Bool)) (coded× coded_ℕ (coded× coded_bool coded_bool)) (λ p. (p.pa, (p.to_read, p.to_write)))
    (λ t. record { pa = t.0; to_read = t.1.0; to_write = t.1.1 }) (λ _. refl)

-- the value of a loan as a code
abbrev pub loan_code : Coded Loan
loan_code =
    code_by (Bool × List Position) (coded× coded_bool (coded_list position_code)) (λ l. (l.coherent, l.positions))
    (λ t. record { coherent = t.0; positions = t.1 }) (λ _. refl)
