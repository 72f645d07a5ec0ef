-- The clusters of a send, and that they have the bytes of its chain once these are copied.
use Rattle.std.proofs.Common.{◌≡◌, ℕ, List, [], length, Option, Some, None, slice_get, is_some, refl, ap, sym, ◌∙◌}
use Rattle.std.proofs.Common.{true, unwrap_or}
use Rattle.std.proofs.lemmas.List.{length-map}
use Rattle.std.proofs.lemmas.Option.{slice_get-map}
use Rattle.std.specs.Option.{option_map}
use Rattle.busdma_machine.specs.declared.machine.address.Span.{Span}
use Rattle.busdma_machine.specs.declared.machine.bio.Bio.TheVariants.{Vector}
use Rattle.busdma_machine.specs.declared.report.Judged.TheVariants.{Fine}
use Rattle.busdma_machine.specs.Machine.Spans.{span_addresses}
use Rattle.busdma_base.specs.Scenarios.Buffers.{AreClustersFor}
use Rattle.busdma_rules.specs.Memory.Translation.{physical_or_0}
use Rattle.ideal_lane.specs.Accesses.{values}
use Rattle.ideal_lane.specs.Loads.{load_addresses, load_judged}
use Rattle.ideal_lane.specs.Places.{physical}
use Rattle.ideal_lane.specs.Sends.{Send, chain_bytes, cluster_bytes, copied}
use Rattle.ideal_lane.specs.State.{LaneState}
use Rattle.ideal_wire.specs.Apart.{IsApart}
use Rattle.ideal_wire.specs.Laid.{AreLaid}
use Rattle.ideal_wire.specs.Machine.{IsInMachine}
use Rattle.ideal_wire.proofs.Loads.MemoryLoads.{count-spans}
use Rattle.ideal_wire.proofs.Faithful.PlacedLoads.{reaches}
use Rattle.ideal_wire.proofs.Laid.Positions.{found_one}
use Rattle.ideal_wire.proofs.Apart.ReachedOnce.{reached-once}
use Rattle.ideal_wire.proofs.Loads.Reaching.{each-byte}
use Rattle.ideal_wire.proofs.Faithful.Twins.{HasNoTwins, no-twins, values-written}

module _ (l : LaneState) (laid : AreLaid l) (s : Send) where
  -- each byte of spans that may be loaded is at an address that the driver reaches
  pub byte-at : (spans : List Span) → load_judged l s.map (Vector spans) ≡ Fine → (k a : ℕ) →
      slice_get (load_addresses l (Vector spans)) k ≡ Some a →
      (va : ℕ) × (slice_get (span_addresses spans) k ≡ Some va) × (physical l va ≡ Some a)
  byte-at spans fine k a e =
      by (slice_get (span_addresses spans) k) refl
      (sym (slice_get-map (physical_or_0 (physical l)) (span_addresses spans) k) ∙ e)
    where
      by : (o : Option ℕ) → slice_get (span_addresses spans) k ≡ o →
          option_map (physical_or_0 (physical l)) o ≡ Some a →
          (va : ℕ) × (slice_get (span_addresses spans) k ≡ Some va) × (physical l va ≡ Some a)
      by None f g = absurd (cc)
      by (Some va) f g =
          let r = each-byte l s.map (Vector spans) fine k va f in
          let at : r.0 ≡ a =
          sym (ap (λ o. unwrap_or o 0) r.1) ∙ found_one (Some (physical_or_0 (physical l) va)) _ a refl g in
          (va, f, r.1 ∙ ap (λ y. Some y) at)

  -- each byte of spans that may be loaded is the driver's own
  pub bytes-own : (spans : List Span) → load_judged l s.map (Vector spans) ≡ Fine → (k a : ℕ) →
      slice_get (load_addresses l (Vector spans)) k ≡ Some a → is_some (l.memory a) ≡ true
  bytes-own spans fine k a e = let r = byte-at spans fine k a e in laid.owned a (reaches l laid r.0 a r.2)

  module _ (apart : IsApart l) (machine : IsInMachine l) (has : AreClustersFor s.chain s.clusters)
      (fine : load_judged l s.map (Vector s.clusters) ≡ Fine) where
    -- no byte of the clusters is there twice
    clusters-once : HasNoTwins (cluster_bytes s l)
    clusters-once i j a e f =
        let x = byte-at s.clusters fine i a e in
        let y = byte-at s.clusters fine j a f in
        let same : y.0 ≡ x.0 = reached-once l laid apart machine y.0 x.0 a y.2 x.2 in
        no-twins [] (span_addresses s.clusters) has.unlike i j x.0 x.1 (y.1 ∙ ap (λ v. Some v) same)

    pub same-count : length (cluster_bytes s l) ≡ length (values l (chain_bytes s l))
    same-count =
        length-map (span_addresses s.clusters) (physical_or_0 (physical l))
        ∙ count-spans s.clusters ∙ has.alike ∙ sym (count-spans s.chain)
        ∙ sym (length-map (span_addresses s.chain) (physical_or_0 (physical l)))
        ∙ sym (length-map (chain_bytes s l) (λ a. Rattle.ideal_lane.specs.IdealMemory.value (l.memory a)))

    -- after the copy the clusters have the bytes of the chain, in order
    pub copied-values : values (copied s l) (cluster_bytes s l) ≡ values l (chain_bytes s l)
    copied-values =
        values-written (cluster_bytes s l) (values l (chain_bytes s l)) l.memory clusters-once
        (bytes-own s.clusters fine) same-count
