-- A faithful wire, with what the frames of pages and buffers say of it.
use Rattle.std.proofs.Common.{◌≡◌, ℕ, Bool, true, false, Some}
use Rattle.busdma_machine.specs.Machine.Wire.{Wire, Traces, Placed, buffers}
use Rattle.busdma_rules.specs.declared.position.Position.{Position}
use Rattle.busdma_rules.specs.Lending.Loans.{loan_of, addresses_of}
use Rattle.ideal_lane.specs.IdealMemory.{Known}
use Rattle.ideal_lane.specs.Places.{physical}
use Rattle.ideal_lane.specs.State.{LaneState}
use Rattle.ideal_wire.specs.Centre.{IsAt, IsPlacedAt, HasTrueByte, IsExclusive}

-- What frames give, if `own` marks the driver's own bytes: what the driver reaches, what is Known and what is in a
-- buffer is its own; a bus address that is its own is the byte's own address; a bus address in a page belongs to one
-- position; and a coherent map has no page and no byte of another map.
pub record ArePlaced (own : ℕ → Bool) (l : LaneState) (traces : Traces) : Type 0 where
  pub reached : (va pa : ℕ) → physical l va ≡ Some pa → own pa ≡ true
  pub known : (a v : ℕ) → l.memory a ≡ Some (Known v) → own a ≡ true
  pub buffer : (m : ℕ) → buffers (traces m) ≡ addresses_of (loan_of l.loans m).positions
  pub lies : (m i : ℕ) (t : Placed) → IsPlacedAt traces m i t → own t.pa ≡ true
  pub unbounced : (m i : ℕ) (t : Placed) → IsPlacedAt traces m i t → own t.bus ≡ true → t.bus ≡ t.pa
  pub paged : (m n i j : ℕ) (t u : Placed) → IsPlacedAt traces m i t → IsPlacedAt traces n j u →
      t.bus ≡ u.bus → own t.bus ≡ false → (m ≡ n) × (i ≡ j)
  pub coherent : (m i : ℕ) (t : Placed) → (loan_of l.loans m).coherent ≡ true → IsPlacedAt traces m i t → t.bus ≡ t.pa
  pub apart : (m n i j : ℕ) (p q : Position) → (loan_of l.loans m).coherent ≡ true → IsAt l.loans m i p →
      IsAt l.loans n j q → p.pa ≡ q.pa → m ≡ n

pub record Faithful (own : ℕ → Bool) (l : LaneState) (traces : Traces) (w : Wire) : Type 0 where
  pub placed : ArePlaced own l traces
  pub exclusive : IsExclusive l.loans
  pub agrees : HasTrueByte l.memory l.loans traces w
