-- When the ideal memory and the wire agree, for any traces of the loads.
use Rattle.std.specs.Prelude.{◌≡◌, ℕ, true, false, Some, slice_get}
use Rattle.busdma_rules.specs.declared.position.Position.{Position}
use Rattle.busdma_rules.specs.Lending.Loans.{Loans, loan_of, to_write, in_any_way, lent}
use Rattle.busdma_machine.specs.Machine.Wire.{Wire, Traces, Placed}
use Rattle.ideal_lane.specs.IdealMemory.{IdealMemory, Known}
use Rattle.ideal_lane.specs.State.{LaneState}
use Rattle.ideal_wire.specs.Traces.{traces_of}

-- a position is at a place of a map's load
abbrev pub IsAt : Loans → ℕ → ℕ → Position → Type 0
IsAt loans m i p = slice_get (loan_of loans m).positions i ≡ Some p

-- this position is at a place of the trace of a map's load
abbrev pub IsPlacedAt : Traces → ℕ → ℕ → Placed → Type 0
IsPlacedAt traces m i t = slice_get (traces m) i ≡ Some t

-- A Known byte that is lent to write is where the device reaches it by the position that lends it. A Known byte that is
-- lent only to read is where the device reaches it by each position that lends it. A Known byte that is not lent to
-- write is in the buffer.
pub record HasTrueByte (memory : IdealMemory) (loans : Loans) (traces : Traces) (w : Wire) : Type 0 where
  pub written : (m i : ℕ) (p : Position) (t : Placed) (v : ℕ) → IsAt loans m i p → IsPlacedAt traces m i t →
      p.to_write ≡ true → memory p.pa ≡ Some (Known v) → w t.bus ≡ v
  pub read : (m i : ℕ) (p : Position) (t : Placed) (v : ℕ) → IsAt loans m i p → IsPlacedAt traces m i t →
      p.to_read ≡ true → lent to_write p.pa loans ≡ false → memory p.pa ≡ Some (Known v) → w t.bus ≡ v
  pub kept : (a v : ℕ) → lent to_write a loans ≡ false → memory a ≡ Some (Known v) → w a ≡ v

-- What the rules of lending keep: a byte that is lent to write is once in the buffer of its map, and no other map lends
-- it. A coherent map lends nothing.
pub record IsExclusive (loans : Loans) : Type 0 where
  pub once : (m i j : ℕ) (p q : Position) → IsAt loans m i p → IsAt loans m j q →
      p.to_write ≡ true → p.pa ≡ q.pa → i ≡ j
  pub alone : (m n i j : ℕ) (p q : Position) → IsAt loans m i p → IsAt loans n j q → p.to_write ≡ true →
      in_any_way q ≡ true → p.pa ≡ q.pa → m ≡ n
  pub unlent : (m i : ℕ) (p : Position) → (loan_of loans m).coherent ≡ true → IsAt loans m i p → in_any_way p ≡ false

-- the wire is faithful to an ideal memory and to what is lent of it
pub record IsFaithfulTo (memory : IdealMemory) (loans : Loans) (traces : Traces) (w : Wire) : Type 0 where
  pub exclusive : IsExclusive loans
  pub agrees : HasTrueByte memory loans traces w

-- the wire of a driver is faithful to its ideal state
abbrev pub IsFaithful : LaneState → Wire → Type 0
IsFaithful l w = IsFaithfulTo l.memory l.loans (traces_of l) w
