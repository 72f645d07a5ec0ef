-- What the maps of a driver lend. A loaded map lends each byte of its buffer to its device: to read, to write, for both
-- or not at all. This project's own rule, after what bus_dmamap_sync(9) asks.
use Rattle.std.specs.Prelude.{ℕ, Bool, false, ◌&&◌, ◌||◌, not, ◌==◌, List, [], map, unwrap_or, nat_lt, count_by}
use Rattle.std.specs.List.{list_any}
use Rattle.std.specs.Ordering.{nat_cmp}
use Rattle.std.specs.FinMap.{FinMap, get, entries}
use Rattle.busdma_machine.specs.Machine.Wire.{stretch}
use Rattle.busdma_rules.specs.declared.position.Position.{Position}

-- the loan of a loaded map: the positions of its buffer, in order; a coherent map lends nothing
pub record Loan : Type 0 where
  pub coherent : Bool
  pub positions : List Position

-- the loaded maps of a driver, by the places in its script that made them
abbrev pub Loans : Type 0
Loans = FinMap nat_cmp Loan

-- the loan of a map that is not loaded: it has no position
abbrev pub no_loan : Loan
no_loan = record { coherent = false; positions = [] }

-- the loan of the map that was made at place m of the script
abbrev pub loan_of : Loans → ℕ → Loan
loan_of loans m = unwrap_or (get loans m) no_loan

-- the position is lent to the device to read
abbrev pub to_read : Position → Bool
to_read p = p.to_read

-- the position is lent to the device to write
abbrev pub to_write : Position → Bool
to_write p = p.to_write

-- the position is lent to the device, to read or to write
abbrev pub in_any_way : Position → Bool
in_any_way p = p.to_read || p.to_write

-- the byte of the position is at this physical address
abbrev pub is_at : ℕ → Position → Bool
is_at a p = p.pa == a

-- a loan lends the byte at a physical address, in this way
abbrev pub lends : (Position → Bool) → ℕ → Loan → Bool
lends way a loan = list_any (λ p. is_at a p && way p) loan.positions

-- some map of the driver lends the byte at a physical address, in this way
abbrev pub lent : (Position → Bool) → ℕ → Loans → Bool
lent way a loans = list_any (λ e. lends way a e.1) (entries loans)

-- some map of the driver other than m lends the byte at a physical address, in this way
abbrev pub lent_elsewhere : (Position → Bool) → ℕ → ℕ → Loans → Bool
lent_elsewhere way m a loans = list_any (λ e. not (e.0 == m) && lends way a e.1) (entries loans)

-- the byte at a physical address is at more than one position of the buffer
abbrev pub stands_twice : ℕ → Loan → Bool
stands_twice a loan = nat_lt 1 (count_by (is_at a) loan.positions)

-- the physical addresses of positions, in order
abbrev pub addresses_of : List Position → List ℕ
addresses_of ps = map (λ p. p.pa) ps

-- the physical addresses of the bytes of a range of a map's buffer, in order
abbrev pub load_bytes : Loans → ℕ → ℕ → ℕ → List ℕ
load_bytes loans m off len = addresses_of (stretch off len (loan_of loans m).positions)

-- positions for the bytes at these physical addresses, none of them lent
abbrev pub unlent_positions : List ℕ → List Position
unlent_positions bytes = map (λ a. record { pa = a; to_read = false; to_write = false }) bytes

-- the loan of a map that has just been loaded with the bytes at these physical addresses: nothing is lent
abbrev pub new_loan : Bool → List ℕ → Loan
new_loan coherent bytes = record { coherent = coherent; positions = unlent_positions bytes }
