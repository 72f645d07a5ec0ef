-- Accesses of a faithful wire.
use Rattle.std.proofs.Common.{◌≡◌, ℕ, ◌+◌, Bool, true, false, cond, ◌||◌, ◌==◌, List, map}
use Rattle.std.proofs.Common.{slice_get, Option, Some, None, unwrap_or, ◌⊎◌, inl, inr, refl, sym, ap, ◌∙◌, subst}
use Rattle.std.specs.Option.{option_map}
use Rattle.std.proofs.lemmas.Bool.{false≢true}
use Rattle.std.proofs.lemmas.Option.{slice_get-map}
use Rattle.busdma_machine.specs.declared.report.Judged.TheVariants.{Fine}
use Rattle.busdma_machine.specs.declared.report.ReportName.{ReportName}
use Rattle.busdma_machine.specs.declared.report.ReportName.TheVariants.{CpuReadLent, CpuWriteLent}
use Rattle.busdma_machine.specs.declared.report.ReportName.TheVariants.{DeviceReadUnlent, DeviceWriteUnlent}
use Rattle.busdma_machine.specs.declared.report.ReportName.TheVariants.{StaleByte}
use Rattle.busdma_machine.specs.Judging.{judged}
use Rattle.busdma_machine.specs.Machine.Wire.{Wire, Traces, Placed, buffers, buses, stretch, put}
use Rattle.busdma_rules.specs.Memory.Translation.{missing, unreached, physical_or_0}
use Rattle.busdma_rules.specs.declared.position.Position.{Position}
use Rattle.busdma_rules.specs.Lending.Loans.{loan_of, to_write, in_any_way, lent, addresses_of, load_bytes}
use Rattle.busdma_rules.specs.Lending.Access.{cpu_read_answer, cpu_write_answer, dev_read_answer, dev_write_answer}
use Rattle.busdma_rules.specs.Lending.Access.{cpu_read_refusal, cpu_write_refusal, dev_read_refusal, dev_write_refusal}
use Rattle.ideal_lane.specs.Accesses.{values}
use Rattle.ideal_lane.specs.IdealMemory.{Known, is_known, value, written}
use Rattle.ideal_lane.specs.Places.{physical, bytes_at}
use Rattle.ideal_lane.specs.State.{LaneState}
use Rattle.ideal_wire.specs.Centre.{IsAt, IsPlacedAt}
use Rattle.ideal_wire.proofs.Faithful.BytesPut.{known_value, eqb_alike, both_written, written_known, same_values}
use Rattle.ideal_wire.proofs.Faithful.BytesPut.{same_reads}
use Rattle.ideal_wire.proofs.Faithful.BytesPut.{same_range, map_own}
use Rattle.ideal_wire.proofs.Faithful.LoadPositions.{written_any, read_any, same_pa, own_bus}
use Rattle.ideal_wire.proofs.Faithful.FaithfulSpots.{Spot, spot_stands, spots_written}
use Rattle.ideal_wire.proofs.Faithful.Lent.{lent_by}
use Rattle.ideal_wire.proofs.Faithful.PlacedWires.{Faithful}
use Rattle.ideal_wire.proofs.Laid.Positions.{found_one, of_range, twin_of, fine_at}

-- what the tests say of a byte that passes them
cpu_read_passes : (b k : Bool) (x y : ReportName) →
    cond b (Some x) (cond k None (Some y)) ≡ None → (b ≡ false) × (k ≡ true)
cpu_read_passes true k x y h = absurd (cc)
cpu_read_passes false true x y h = (refl, refl)
cpu_read_passes false false x y h = absurd (cc)

cpu_write_passes : (b : Bool) (x : ReportName) → cond b (Some x) None ≡ None → b ≡ false
cpu_write_passes true x h = absurd (cc)
cpu_write_passes false x h = refl

pub dev_read_passes : (c b k : Bool) (x y : ReportName) →
    cond (c || b) (cond k None (Some y)) (Some x) ≡ None → ((c ≡ true) ⊎ (b ≡ true)) × (k ≡ true)
dev_read_passes true b true x y h = (inl refl, refl)
dev_read_passes true b false x y h = absurd (cc)
dev_read_passes false true true x y h = (inr refl, refl)
dev_read_passes false true false x y h = absurd (cc)
dev_read_passes false false k x y h = absurd (cc)

pub dev_write_passes : (c b : Bool) (x : ReportName) → cond (c || b) None (Some x) ≡ None → (c ≡ true) ⊎ (b ≡ true)
dev_write_passes true b x h = inl refl
dev_write_passes false true x h = inr refl
dev_write_passes false false x h = absurd (cc)

not_missing : (o : Option ℕ) → missing o ≡ None → o ≡ Some (unwrap_or o 0)
not_missing None h = absurd (cc)
not_missing (Some pa) h = refl

-- what the driver reads, if each Known byte that is not lent to write is in the wire
pub cpu_read_of : (l : LaneState) (w : Wire) (bytes : List ℕ) →
    ((a v : ℕ) → lent to_write a l.loans ≡ false → l.memory a ≡ Some (Known v) → w a ≡ v)
    → cpu_read_answer (is_known l.memory) l.loans bytes ≡ Fine → values l bytes ≡ map w bytes
cpu_read_of l w bytes kept fine = same_reads bytes (λ a. value (l.memory a)) w at
  where
    at : (k a : ℕ) → slice_get bytes k ≡ Some a → value (l.memory a) ≡ w a
    at k a h =
        let p =
        cpu_read_passes (lent to_write a l.loans) (is_known l.memory a) CpuReadLent StaleByte
        (fine_at (cpu_read_refusal (is_known l.memory) l.loans) 0 bytes fine k a h) in
        sym (kept a (value (l.memory a)) p.0 (known_value (l.memory a) p.1))

-- ---- the driver's
module _ (own : ℕ → Bool) (l : LaneState) (traces : Traces) (w : Wire) (f : Faithful own l traces w) where
  -- the bytes that the driver reaches are its own
  pub reached_own : (vas : List ℕ) → judged (unreached (physical l)) 0 vas ≡ Fine → (k a : ℕ) →
      slice_get (bytes_at l vas) k ≡ Some a → own a ≡ true
  reached_own vas h k a at =
      by (slice_get vas k) refl (sym (slice_get-map (physical_or_0 (physical l)) vas k) ∙ at)
    where
      by : (o : Option ℕ) → slice_get vas k ≡ o →
          option_map (physical_or_0 (physical l)) o ≡ Some a → own a ≡ true
      by None e is = absurd (cc)
      by (Some va) e is =
          let there = not_missing (physical l va) (fine_at (unreached (physical l)) 0 vas h k va e) in
          f.placed.reached va a (there ∙ ap Some (found_one _ _ a refl is))

  -- a byte that is written is lent in no way
  module _ (bytes vs : List ℕ) (mine : (k a : ℕ) → slice_get bytes k ≡ Some a →
      own a ≡ true) (free : cpu_write_answer l.loans bytes ≡ Fine) where
    unlent : (k a m i : ℕ) (p : Position) → slice_get bytes k ≡ Some a →
        IsAt l.loans m i p → in_any_way p ≡ true → p.pa ≡ a → ⊥
    unlent k a m i p at h any e =
        false≢true
        (sym (cpu_write_passes (lent in_any_way a l.loans) CpuWriteLent
        (fine_at (cpu_write_refusal l.loans) 0 bytes free k a at)) ∙ lent_by in_any_way a l.loans m i p h e any)

    -- no bus address of a position that lends is written
    apart : (m i : ℕ) (p : Position) (t : Placed) → IsAt l.loans m i p → IsPlacedAt traces m i t →
        in_any_way p ≡ true → (k a : ℕ) → slice_get bytes k ≡ Some a → (p.pa == a) ≡ (t.bus == a)
    apart m i p t h g any k a at =
        eqb_alike p.pa a t.bus a (λ e. absurd (unlent k a m i p at h any e))
        (λ e. absurd (unlent k a m i p at h any (same_pa own l traces f.placed m i p t h g
        ∙ sym (own_bus own l traces f.placed m i a t g (mine k a at) (sym e)))))

    both : (a b : ℕ) → ((k x : ℕ) → slice_get bytes k ≡ Some x → (a == x) ≡ (b == x)) →
        ((v : ℕ) → l.memory a ≡ Some (Known v) → w b ≡ v) → (v : ℕ) →
        written bytes vs l.memory a ≡ Some (Known v) → put bytes vs w b ≡ v
    both a b same h v is =
        ap (λ ks. put ks vs w b) (sym (map_own bytes))
        ∙ both_written (λ x. x) (λ x. x) a b bytes vs l.memory w same h v
        (ap (λ ks. written ks vs l.memory a) (map_own bytes) ∙ is)

    pub cpu_written : Faithful own (record l { memory = written bytes vs l.memory }) traces (put bytes vs w)
    cpu_written = record {
      placed = record {
        reached = f.placed.reached;
        known = λ a v is. written_known bytes vs l.memory a (own a ≡ true) (λ k x at e. ap own e
            ∙ mine k x at) (λ u h. f.placed.known a u h) v is;
        buffer = f.placed.buffer;
        lies = f.placed.lies;
        unbounced = f.placed.unbounced;
        paged = f.placed.paged;
        coherent = f.placed.coherent;
        apart = f.placed.apart;
      };
      exclusive = f.exclusive;
      agrees = record {
        written =
            λ m i p t v h g tw is. both p.pa t.bus (apart m i p t h g (written_any p tw))
            (λ u k. f.agrees.written m i p t u h g tw k) v is;
        read =
            λ m i p t v h g tr free is. both p.pa t.bus (apart m i p t h g (read_any p tr))
            (λ u k. f.agrees.read m i p t u h g tr free k) v is;
        kept = λ a v free is. both a a (λ k x at. refl) (λ u k. f.agrees.kept a u free k) v is;
      };
    }

-- ---- the device's, of a range of a map's load
module _ (own : ℕ → Bool) (l : LaneState) (traces : Traces) (w : Wire)
    (f : Faithful own l traces w) (m off len : ℕ) where
  range_alike : addresses_of (stretch off len (loan_of l.loans m).positions) ≡ buffers (stretch off len (traces m))
  range_alike =
      same_range (λ (p : Position). p.pa) (λ (t : Placed). t.pa) off len
      (loan_of l.loans m).positions (traces m) (sym (f.placed.buffer m))

  -- a place of the range: the position, and its place in the trace
  record At (k : ℕ) (t : Placed) : Type 0 where
    position : Position
    in_range : slice_get (stretch off len (loan_of l.loans m).positions) k ≡ Some position
    at : IsAt l.loans m (off + k) position
    placed : IsPlacedAt traces m (off + k) t
    same : position.pa ≡ t.pa

  at_range : (k : ℕ) (t : Placed) → slice_get (stretch off len (traces m)) k ≡ Some t → At k t
  at_range k t h =
      let q =
      twin_of (λ (t : Placed). t.pa) (λ (p : Position). p.pa) (stretch off len (traces m))
      (stretch off len (loan_of l.loans m).positions) (sym range_alike) k t h in
      record {
        position = q.twin;
        in_range = q.found;
        at = (of_range (loan_of l.loans m).positions off len k q.twin q.found).whole;
        placed = (of_range (traces m) off len k t h).whole;
        same = sym q.same;
      }

  spot : {way : Position → Bool} (k : ℕ) (t : Placed) (s : At k t) →
      ((loan_of l.loans m).coherent ≡ true) ⊎ (way s.position ≡ true) → Spot l traces way t.pa t.bus
  spot k t s lends = record {
    by_map = m;
    place = off + k;
    position = s.position;
    placed = t;
    at = s.at;
    stands = s.placed;
    is_pa = s.same;
    is_bus = refl;
    lends = lends;
  }

  read_at : dev_read_answer (is_known l.memory) (loan_of l.loans m) off len ≡ Fine → (k : ℕ) (t : Placed) →
      slice_get (stretch off len (traces m)) k ≡ Some t → value (l.memory t.pa) ≡ w t.bus
  read_at allowed k t h =
      let s = at_range k t h in
      let p = s.position in
      let passes =
      dev_read_passes (loan_of l.loans m).coherent p.to_read (is_known l.memory p.pa) DeviceReadUnlent StaleByte
      (fine_at (dev_read_refusal (is_known l.memory) (loan_of l.loans m).coherent) 0
      (stretch off len (loan_of l.loans m).positions) allowed k p s.in_range) in
      sym (spot_stands own l traces w f (spot k t s passes.0) (value (l.memory t.pa))
      (known_value (l.memory t.pa) (ap (is_known l.memory) (sym s.same) ∙ passes.1)))

  -- what the device reads
  pub dev_read_of : dev_read_answer (is_known l.memory) (loan_of l.loans m) off len ≡ Fine →
      values l (load_bytes l.loans m off len) ≡ map w (buses (stretch off len (traces m)))
  dev_read_of fine =
      ap (map (λ a. value (l.memory a))) range_alike
      ∙ same_values (stretch off len (traces m)) (λ a. value (l.memory a)) w (read_at fine)

  -- what it writes
  pub dev_written : (vs : List ℕ) → dev_write_answer (loan_of l.loans m) off len ≡ Fine →
      Faithful own (record l { memory = written (load_bytes l.loans m off len) vs l.memory }) traces
      (put (buses (stretch off len (traces m))) vs w)
  dev_written vs allowed =
      subst (λ keys. Faithful own (record l { memory = written keys vs l.memory }) traces
      (put (buses (stretch off len (traces m))) vs w)) (sym range_alike)
      (spots_written own l traces w f (λ (t : Placed). t.pa) (λ (t : Placed). t.bus) (stretch off len (traces m)) vs
      spots)
    where
      spots : (k : ℕ) (t : Placed) → slice_get (stretch off len (traces m)) k ≡ Some t →
          Spot l traces to_write t.pa t.bus
      spots k t h =
          let s = at_range k t h in
          spot k t s
          (dev_write_passes (loan_of l.loans m).coherent s.position.to_write DeviceWriteUnlent
          (fine_at (dev_write_refusal (loan_of l.loans m).coherent) 0 (stretch off len (loan_of l.loans m).positions)
          allowed k s.position s.in_range))
