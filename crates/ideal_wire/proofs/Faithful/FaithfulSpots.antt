-- Accesses by a device to bytes of loads, at any places, of a faithful wire.
use Rattle.std.proofs.Common.{◌≡◌, ℕ, Bool, true, false, ◌==◌, List, map, slice_get, Some, ◌⊎◌, inl, inr, refl, sym}
use Rattle.std.proofs.Common.{ap, ◌∙◌}
use Rattle.std.proofs.lemmas.Bool.{false≢true}
use Rattle.busdma_machine.specs.Machine.Wire.{Wire, Traces, Placed, put}
use Rattle.busdma_rules.specs.declared.position.Position.{Position}
use Rattle.busdma_rules.specs.Lending.Loans.{loan_of, to_read, to_write, in_any_way, lent}
use Rattle.ideal_lane.specs.IdealMemory.{Known, written}
use Rattle.ideal_lane.specs.State.{LaneState}
use Rattle.ideal_wire.specs.Centre.{IsAt, IsPlacedAt}
use Rattle.ideal_wire.proofs.Faithful.BytesPut.{eqb_alike, both_written, map_own, written_known}
use Rattle.ideal_wire.proofs.Faithful.LoadPositions.{written_any, read_any, same_pa, one_placed, one_position, own_bus}
use Rattle.ideal_wire.proofs.Faithful.LoadPositions.{bus_of_one}
use Rattle.ideal_wire.proofs.Faithful.LoadPositions.{same_lender, coherent_unlent}
use Rattle.ideal_wire.proofs.Faithful.Lent.{lender_of, lent_by}
use Rattle.ideal_wire.proofs.Faithful.PlacedWires.{Faithful}
use Rattle.ideal_wire.proofs.Laid.Positions.{twin_of}

-- a byte of a load, by its physical and its bus address: its place in a map's load. The map is coherent, or the
-- position is lent in some way
pub record Spot (l : LaneState) (traces : Traces) (way : Position → Bool) (pa bus : ℕ) : Type 0 where
  pub by_map : ℕ
  pub place : ℕ
  pub position : Position
  pub placed : Placed
  pub at : IsAt l.loans by_map place position
  pub stands : IsPlacedAt traces by_map place placed
  pub is_pa : position.pa ≡ pa
  pub is_bus : placed.bus ≡ bus
  pub lends : ((loan_of l.loans by_map).coherent ≡ true) ⊎ (way position ≡ true)

module _ (own : ℕ → Bool) (l : LaneState) (traces : Traces) (w : Wire) (f : Faithful own l traces w) where
  -- both addresses of a spot are those of its place in the trace
  traced : {way : Position → Bool} {a b : ℕ} (s : Spot l traces way a b) → s.placed.pa ≡ a
  traced s = sym (same_pa own l traces f.placed s.by_map s.place s.position s.placed s.at s.stands) ∙ s.is_pa

  -- ---- a Known byte that the device may read is at its bus address
  pub spot_stands : {a b : ℕ} (s : Spot l traces to_read a b) (v : ℕ) → l.memory a ≡ Some (Known v) → w b ≡ v
  spot_stands {a} {b} s v is =
      ap w (sym s.is_bus) ∙ by s.lends (lent to_write s.position.pa l.loans) refl
    where
      known : l.memory s.position.pa ≡ Some (Known v)
      known = ap l.memory s.is_pa ∙ is

      by : ((loan_of l.loans s.by_map).coherent ≡ true) ⊎ (s.position.to_read ≡ true) → (x : Bool) →
          lent to_write s.position.pa l.loans ≡ x → w s.placed.bus ≡ v
      by (inl c) false e =
          ap w (f.placed.coherent s.by_map s.place s.placed c s.stands ∙ traced s ∙ sym s.is_pa)
          ∙ f.agrees.kept s.position.pa v e known
      by (inr r) false e = f.agrees.read s.by_map s.place s.position s.placed v s.at s.stands r e known
      by (inl c) true e =
          let q = lender_of to_write s.position.pa l.loans e in
          absurd (coherent_unlent own l traces f.placed f.exclusive s.by_map q.by_map s.place q.place s.position
          q.position c s.at q.at (written_any q.position q.lends) (sym q.same))
      by (inr r) true e =
          let q = lender_of to_write s.position.pa l.loans e in
          let one =
          same_lender own l traces f.placed f.exclusive q.by_map s.by_map q.place s.place q.position s.position q.at
          s.at q.lends (read_any s.position r) q.same in
          let it = one_position own l traces f.placed q.by_map s.by_map q.place s.place q.position s.position q.at s.at
          one.0 one.1 in
          f.agrees.written s.by_map s.place s.position s.placed v s.at s.stands (ap to_write (sym it) ∙ q.lends) known

  -- ---- bytes that the device may write
  -- a position that lends such a byte is the spot
  the_one : {a b : ℕ} (s : Spot l traces to_write a b) (n j : ℕ) (q : Position) (u : Placed) → IsAt l.loans n j q →
      IsPlacedAt traces n j u → in_any_way q ≡ true → q.pa ≡ a → u.bus ≡ b
  the_one {a} {b} s n j q u h g any e = by s.lends
    where
      by : ((loan_of l.loans s.by_map).coherent ≡ true) ⊎ (s.position.to_write ≡ true) → u.bus ≡ b
      by (inl c) =
          absurd (coherent_unlent own l traces f.placed f.exclusive s.by_map n s.place j s.position q c s.at h any
          (s.is_pa ∙ sym e))
      by (inr r) =
          let one =
          same_lender own l traces f.placed f.exclusive s.by_map n s.place j s.position q s.at h r any
          (s.is_pa ∙ sym e) in
          ap (λ (x : Placed). x.bus)
          (sym (one_placed own l traces f.placed s.by_map n s.place j s.placed u s.stands g one.0 one.1))
          ∙ s.is_bus

  lent_alike : {a b : ℕ} (s : Spot l traces to_write a b) (n j : ℕ) (q : Position) (u : Placed) → IsAt l.loans n j q →
      IsPlacedAt traces n j u → in_any_way q ≡ true → (q.pa == a) ≡ (u.bus == b)
  lent_alike {a} {b} s n j q u h g any =
      eqb_alike q.pa a u.bus b (the_one s n j q u h g any)
      (λ e. same_pa own l traces f.placed n j q u h g
      ∙ bus_of_one own l traces f.placed n s.by_map j s.place u s.placed g s.stands (e ∙ sym s.is_bus) ∙ traced s)

  own_alike : {a b : ℕ} (s : Spot l traces to_write a b) (x : ℕ) → lent to_write x l.loans ≡ false → own x ≡ true →
      (x == a) ≡ (x == b)
  own_alike {a} {b} s x free mine =
      eqb_alike x a x b (stays s.lends)
      (λ e. own_bus own l traces f.placed s.by_map s.place x s.placed s.stands mine (e ∙ sym s.is_bus) ∙ traced s)
    where
      stays : ((loan_of l.loans s.by_map).coherent ≡ true) ⊎ (s.position.to_write ≡ true) → x ≡ a → x ≡ b
      stays (inl c) e =
          e ∙ sym (traced s) ∙ sym (f.placed.coherent s.by_map s.place s.placed c s.stands) ∙ s.is_bus
      stays (inr r) e =
          absurd
          (false≢true
          (sym free ∙ lent_by to_write x l.loans s.by_map s.place s.position s.at (s.is_pa ∙ sym e) r))

  module _ {X : Type 0} (pa bus : X → ℕ) (xs : List X) (vs : List ℕ)
      (spots : (k : ℕ) (x : X) → slice_get xs k ≡ Some x → Spot l traces to_write (pa x) (bus x)) where
    both_at : (a b : ℕ) → ((k : ℕ) (x : X) → slice_get xs k ≡ Some x → (a == pa x) ≡ (b == bus x)) →
        ((v : ℕ) → l.memory a ≡ Some (Known v) → w b ≡ v) →
        (v : ℕ) → written (map pa xs) vs l.memory a ≡ Some (Known v) → put (map bus xs) vs w b ≡ v
    both_at a b same h v is = both_written pa bus a b xs vs l.memory w same h v is

    own_spot : (k : ℕ) (x : X) → slice_get xs k ≡ Some x → own (pa x) ≡ true
    own_spot k x at =
        let s = spots k x at in ap own (sym (traced s)) ∙ f.placed.lies s.by_map s.place s.placed s.stands

    known_own : (a v : ℕ) → written (map pa xs) vs l.memory a ≡ Some (Known v) → own a ≡ true
    known_own a v is =
        written_known (map pa xs) vs l.memory a (own a ≡ true) one (λ u h. f.placed.known a u h) v is
      where
        one : (k y : ℕ) → slice_get (map pa xs) k ≡ Some y → a ≡ y → own a ≡ true
        one k y at e =
            let q = twin_of (λ (b : ℕ). b) pa (map pa xs) xs (map_own (map pa xs)) k y at in
            ap own (e ∙ q.same) ∙ own_spot k q.twin q.found

    pub spots_written : Faithful own (record l { memory = written (map pa xs) vs l.memory }) traces
        (put (map bus xs) vs w)
    spots_written = record {
      placed = record {
        reached = f.placed.reached;
        known = known_own;
        buffer = f.placed.buffer;
        lies = f.placed.lies;
        unbounced = f.placed.unbounced;
        paged = f.placed.paged;
        coherent = f.placed.coherent;
        apart = f.placed.apart;
      };
      exclusive = f.exclusive;
      agrees = record {
        written =
            λ n j q u v h g tw is. both_at q.pa u.bus
            (λ k x at. lent_alike (spots k x at) n j q u h g (written_any q tw))
            (λ x k. f.agrees.written n j q u x h g tw k) v is;
        read =
            λ n j q u v h g tr free is. both_at q.pa u.bus
            (λ k x at. lent_alike (spots k x at) n j q u h g (read_any q tr))
            (λ x k. f.agrees.read n j q u x h g tr free k) v is;
        kept =
            λ a v free is. both_at a a (λ k x at. own_alike (spots k x at) a free (known_own a v is))
            (λ x k. f.agrees.kept a x free k) v is;
      };
    }
