-- Raw accesses of a faithful wire.
use Rattle.std.proofs.Common.{◌≡◌, ℕ, Bool, true, false, List, length, map, slice_get, Some, unwrap_or}
use Rattle.std.proofs.Common.{◌⊎◌, inl, inr, sym, ap, ◌∙◌}
use Rattle.busdma_machine.specs.declared.report.Judged.TheVariants.{Fine}
use Rattle.busdma_machine.specs.declared.report.ReportName.TheVariants.{DeviceReadUnlent, DeviceWriteUnlent, StaleByte}
use Rattle.busdma_machine.specs.Judging.{judged}
use Rattle.busdma_machine.specs.Machine.Wire.{Wire, put}
use Rattle.busdma_machine.specs.Runs.{run_of}
use Rattle.busdma_rules.specs.Iommu.Space.{translated}
use Rattle.busdma_rules.specs.Lending.Access.{dev_read_refusal, dev_write_refusal}
use Rattle.busdma_rules.specs.Lending.Loans.{to_read, to_write}
use Rattle.ideal_lane.specs.Accesses.{raw_bytes, raw_refusal, values}
use Rattle.ideal_lane.specs.IdealMemory.{is_known, value, written}
use Rattle.ideal_lane.specs.State.{LaneState}
use Rattle.ideal_wire.specs.Traces.{traces_of}
use Rattle.ideal_wire.proofs.Faithful.BytesPut.{known_value, map_own, same_reads}
use Rattle.ideal_wire.proofs.Faithful.FaithfulAccess.{dev_read_passes, dev_write_passes}
use Rattle.ideal_wire.proofs.Faithful.FaithfulSpots.{Spot, spot_stands, spots_written}
use Rattle.ideal_wire.proofs.Faithful.PlacedWires.{Faithful}
use Rattle.ideal_wire.proofs.Laid.Positions.{fine_at, twin_of}
use Rattle.ideal_wire.proofs.Faithful.RawAccess.{AreFound, raw-reached, spot-of}

second : {b : Bool} → (false ≡ true) ⊎ (b ≡ true) → b ≡ true
second (inl none) = absurd (cc)
second (inr e) = e

module _ (own : ℕ → Bool) (l : LaneState) (w : Wire) (f : Faithful own l (traces_of l) w) (all : AreFound l)
    (t addr : ℕ) where
  abbrev raw : ℕ → ℕ
  raw a = unwrap_or (translated (l.spaces t) a) 0

  -- what the device writes
  pub raw_written : (vs : List ℕ) →
      judged (raw_refusal DeviceWriteUnlent (dev_write_refusal false) l t) 0 (run_of addr (length vs)) ≡ Fine →
      Faithful own (record l { memory = written (raw_bytes l t (run_of addr (length vs))) vs l.memory }) (traces_of l)
      (put (raw_bytes l t (run_of addr (length vs))) vs w)
  raw_written vs fine = spots_written own l (traces_of l) w f raw raw (run_of addr (length vs)) vs spots
    where
      spots : (k a : ℕ) → slice_get (run_of addr (length vs)) k ≡ Some a →
          Spot l (traces_of l) to_write (raw a) (raw a)
      spots k a at =
          let s = raw-reached l all DeviceWriteUnlent (dev_write_refusal false) t a
          (fine_at (raw_refusal DeviceWriteUnlent (dev_write_refusal false) l t) 0 (run_of addr (length vs)) fine k a
          at) in
          spot-of l all to_write s
          (second (dev_write_passes false s.position.to_write DeviceWriteUnlent s.allowed))

  -- what it reads
  pub raw_read : (len : ℕ) →
      judged (raw_refusal DeviceReadUnlent (dev_read_refusal (is_known l.memory) false) l t) 0 (run_of addr len)
      ≡ Fine → values l (raw_bytes l t (run_of addr len)) ≡ map w (raw_bytes l t (run_of addr len))
  raw_read len fine = same_reads (raw_bytes l t (run_of addr len)) (λ x. value (l.memory x)) w at
    where
      here : (k a : ℕ) → slice_get (run_of addr len) k ≡ Some a → value (l.memory (raw a)) ≡ w (raw a)
      here k a is =
          let s = raw-reached l all DeviceReadUnlent
          (dev_read_refusal (is_known l.memory) false) t a
          (fine_at (raw_refusal DeviceReadUnlent (dev_read_refusal (is_known l.memory) false) l t) 0
          (run_of addr len) fine k a is) in
          let passes =
          dev_read_passes false s.position.to_read (is_known l.memory s.position.pa) DeviceReadUnlent StaleByte
          s.allowed in
          sym (spot_stands own l (traces_of l) w f (spot-of l all to_read s (second passes.0))
          (value (l.memory (raw a)))
          (known_value (l.memory (raw a)) (ap (is_known l.memory) (sym s.is_pa) ∙ passes.1)))

      at : (k x : ℕ) → slice_get (raw_bytes l t (run_of addr len)) k ≡ Some x → value (l.memory x) ≡ w x
      at k x is =
          let q = twin_of (λ (b : ℕ). b) raw (raw_bytes l t (run_of addr len)) (run_of addr len)
          (map_own (raw_bytes l t (run_of addr len))) k x is in
          ap (λ b. value (l.memory b)) q.same ∙ here k q.twin q.found ∙ ap w (sym q.same)
