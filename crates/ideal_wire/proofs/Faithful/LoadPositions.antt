-- What is known of the positions of loads if the wire is faithful.
use Rattle.std.proofs.Common.{◌≡◌, ℕ, Bool, true, false, ◌||◌, slice_get, refl, sym, ap, ◌∙◌}
use Rattle.std.proofs.lemmas.Bool.{false≢true}
use Rattle.busdma_rules.specs.declared.position.Position.{Position}
use Rattle.busdma_rules.specs.Lending.Loans.{loan_of, in_any_way}
use Rattle.ideal_lane.specs.State.{LaneState}
use Rattle.ideal_wire.specs.Centre.{IsAt, IsPlacedAt, IsExclusive}
use Rattle.busdma_machine.specs.Machine.Wire.{Traces, Placed}
use Rattle.ideal_wire.proofs.Faithful.PlacedWires.{ArePlaced}
use Rattle.ideal_wire.proofs.Laid.Positions.{Twin, twin_of, found_one}

pub written_any : (p : Position) → p.to_write ≡ true → in_any_way p ≡ true
written_any p h = ap (λ b. p.to_read || b) h ∙ either p.to_read
  where
    either : (b : Bool) → (b || true) ≡ true
    either true = refl
    either false = refl

pub read_any : (p : Position) → p.to_read ≡ true → in_any_way p ≡ true
read_any p h = ap (λ b. b || p.to_write) h

-- ---- loans, traces and pages
module _ (own : ℕ → Bool) (l : LaneState) (traces : Traces) (placed : ArePlaced own l traces) where
  -- the place of a position in its trace
  pub place_of : (m i : ℕ) (p : Position) → IsAt l.loans m i p →
      Twin (λ (p : Position). p.pa) (λ (t : Placed). t.pa) (traces m) i p
  place_of m i p h =
      twin_of (λ p. p.pa) (λ t. t.pa) (loan_of l.loans m).positions (traces m) (sym (placed.buffer m)) i p h

  pub position_of : (m i : ℕ) (t : Placed) → IsPlacedAt traces m i t →
      Twin (λ (t : Placed). t.pa) (λ (p : Position). p.pa) (loan_of l.loans m).positions i t
  position_of m i t h =
      twin_of (λ t. t.pa) (λ p. p.pa) (traces m) (loan_of l.loans m).positions (placed.buffer m) i t h

  -- a position and its place in the trace have one address
  pub same_pa : (m i : ℕ) (p : Position) (t : Placed) → IsAt l.loans m i p → IsPlacedAt traces m i t → p.pa ≡ t.pa
  same_pa m i p t h k = let w =
      place_of m i p h in w.same ∙ ap (λ (u : Placed). u.pa) (found_one (slice_get (traces m) i) w.twin t w.found k)

  pub one_placed : (m n i j : ℕ) (t u : Placed) → IsPlacedAt traces m i t →
      IsPlacedAt traces n j u → m ≡ n → i ≡ j → t ≡ u
  one_placed m n i j t u h k e f =
      found_one (slice_get (traces n) j) t u (sym (λ x. slice_get (traces (e x)) (f x)) ∙ h) k

  pub one_position : (m n i j : ℕ) (p q : Position) → IsAt l.loans m i p → IsAt l.loans n j q → m ≡ n → i ≡ j → p ≡ q
  one_position m n i j p q h k e f =
      found_one (slice_get (loan_of l.loans n).positions j) p q
      (sym (λ x. slice_get (loan_of l.loans (e x)).positions (f x)) ∙ h) k

  -- the byte of a bus address in the driver's own frames
  pub own_bus : (m i a : ℕ) (t : Placed) → IsPlacedAt traces m i t → own a ≡ true → a ≡ t.bus → a ≡ t.pa
  own_bus m i a t h k e = e ∙ placed.unbounced m i t h (sym (ap own e) ∙ k)

  -- a bus address belongs to one byte only
  pub bus_of_one : (m n i j : ℕ) (t u : Placed) → IsPlacedAt traces m i t →
      IsPlacedAt traces n j u → t.bus ≡ u.bus → t.pa ≡ u.pa
  bus_of_one m n i j t u h k e = by (own t.bus) refl
    where
      by : (b : Bool) → own t.bus ≡ b → t.pa ≡ u.pa
      by true o = sym (placed.unbounced m i t h o) ∙ own_bus n j t.bus u k o e
      by false o = let s =
          placed.paged m n i j t u h k e o in ap (λ (x : Placed). x.pa) (one_placed m n i j t u h k s.0 s.1)

  module _ (exclusive : IsExclusive l.loans) where
    -- a position that lends a byte is the one that lends it to write
    pub same_lender : (m n i j : ℕ) (p q : Position) → IsAt l.loans m i p → IsAt l.loans n j q → p.to_write ≡ true →
        in_any_way q ≡ true → p.pa ≡ q.pa → (m ≡ n) × (i ≡ j)
    same_lender m n i j p q h k pw qa e =
        let mn = exclusive.alone m n i j p q h k pw qa e in
        (mn, exclusive.once n i j p q (sym (λ x. slice_get (loan_of l.loans (mn x)).positions i) ∙ h) k pw e)

    -- no position lends a byte of a coherent map
    pub coherent_unlent : (m n i j : ℕ) (p q : Position) → (loan_of l.loans m).coherent ≡ true → IsAt l.loans m i p →
        IsAt l.loans n j q → in_any_way q ≡ true → p.pa ≡ q.pa → ⊥
    coherent_unlent m n i j p q c h k qa e =
        let mn = placed.apart m n i j p q c h k e in
        false≢true (sym (exclusive.unlent n j q (sym (λ x. (loan_of l.loans (mn x)).coherent) ∙ c) k) ∙ qa)
