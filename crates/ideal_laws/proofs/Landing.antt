-- Where raw accesses and named ranges land.
use Rattle.std.proofs.Common.{◌≡◌, ℕ, ◌+◌, ◌^◌, Bool, true, false, ◌||◌, not, cond, List}
use Rattle.std.proofs.Common.{slice_get, Option, Some, None, is_some, unwrap_or, nat_le, refl, sym, ap, ◌∙◌, subst}
use Rattle.std.proofs.lemmas.Option.{slice_get-map}
use Rattle.std.specs.FinMap.{get, entries}
use Rattle.std.specs.Option.{option_map, option_map_or}
use Rattle.busdma_machine.specs.declared.report.ReportName.{ReportName}
use Rattle.busdma_machine.specs.declared.report.ReportName.TheVariants.{Untranslated}
use Rattle.busdma_machine.specs.Machine.Wire.{Placed, buses, stretch}
use Rattle.busdma_machine.specs.Runs.{run_of}
use Rattle.busdma_rules.specs.Iommu.Space.{translated}
use Rattle.busdma_rules.specs.declared.position.Position.{Position}
use Rattle.busdma_rules.specs.Lending.Loans.{loan_of, addresses_of}
use Rattle.busdma_rules.specs.Rings.Ranges.{place_of}
use Rattle.busdma_rules.specs.Segments.Segmentation.{segment_bytes}
use Rattle.ideal_lane.specs.Accesses.{position_in, raw_refusal, unless_unlent}
use Rattle.ideal_lane.specs.Loads.{is_device}
use Rattle.ideal_lane.specs.Outcomes.{is_loaded}
use Rattle.ideal_lane.specs.Standing.{Stands}
use Rattle.ideal_lane.specs.State.{LaneState, LaneMap, Stage, Idle, Waiting, Loaded, Returning}
use Rattle.ideal_lane.specs.Syncs.{bounced_in}
use Rattle.ideal_lane.specs.Unloads.{segments_in}
use Rattle.ideal_wire.specs.Laid.{AreLaid, LiesIn}
use Rattle.ideal_wire.specs.Mapped.{AreMapped}
use Rattle.ideal_wire.specs.Spaced.{AreSpaced, is_spaced}
use Rattle.ideal_wire.specs.Traces.{bus_at, stage_at, stage_in, traces_of}
use Rattle.ideal_wire.specs.WireStep.{load_buses}
use Rattle.ideal_wire.proofs.Faithful.Buses.{placed-at, placed-buffers}
use Rattle.ideal_wire.proofs.Faithful.BytesPut.{map_own, same_range}
use Rattle.ideal_wire.proofs.Laid.Positions.{Twin, found_one, twin_of}
use Rattle.ideal_wire.proofs.Faithful.RawPlaces.{HasByte, position-found}
use Rattle.ideal_laws.specs.RawReached.{IsJudgedByte}
use Rattle.ideal_laws.proofs.NamedRanges.{found_bytes}
use Rattle.ideal_laws.proofs.Unbounced.{unbounced}

-- ---- raw accesses

-- the segments of what is not loaded have no byte
some-byte : (s : Stage) (i a : ℕ) → slice_get (segment_bytes (segments_in s)) i ≡ Some a → is_loaded s ≡ true
some-byte Idle i a e = absurd (cc)
some-byte (Waiting w) i a e = absurd (cc)
some-byte (Loaded bounced segments pages) i a e = refl
some-byte Returning i a e = absurd (cc)

some-of : (x : Option ℕ) → is_some x ≡ true → x ≡ Some (unwrap_or x 0)
some-of None h = absurd (cc)
some-of (Some x) h = refl

module _ (l : LaneState) (stands : Stands l) (laid : AreLaid l) (spaced : AreSpaced l) (mapped : AreMapped l) where
  -- an address that a tag's device reaches is one of an IOMMU tag
  device-tag : (t a : ℕ) → is_some (translated (l.spaces t) a) ≡ true → is_spaced l t ≡ true
  device-tag t a some = by (is_spaced l t) refl
    where
      by : (b : Bool) → is_spaced l t ≡ b → is_spaced l t ≡ true
      by true e = e
      by false e =
          let none : is_some (translated (l.spaces t) a) ≡ false =
          ap (λ s. is_some (translated s a)) (spaced.none t e) in
          absurd (cc)

  -- where the byte at a device address is
  abbrev raw : ℕ → ℕ → ℕ
  raw t a = unwrap_or (translated (l.spaces t) a) 0

  lands-at : (t a : ℕ) (p : Position) → is_some (translated (l.spaces t) a) ≡ true → HasByte l t a p → p.pa ≡ raw t a
  lands-at t a p some h = u.same ∙ sym own ∙ bus
    where
      m : ℕ
      m = h.by_map

      bytes : List ℕ
      bytes = addresses_of (loan_of l.loans m).positions

      device : is_device l h.map ≡ true
      device = ap (is_spaced l) h.tag ∙ device-tag t a some

      u : Twin (λ (q : Position). q.pa) (λ (x : Placed). x.pa) (traces_of l m) h.place p
      u = twin_of (λ q. q.pa) (λ x. x.pa) (loan_of l.loans m).positions (traces_of l m)
          (sym (placed-buffers (bounced_in (stage_at l m)) 0 bytes)) h.place p h.at

      own : u.twin.bus ≡ u.twin.pa
      own = (placed-at (bounced_in (stage_at l m)) 0 bytes h.place u.twin u.found).1
          ∙ ap (λ cs. bus_at cs (0 + h.place) u.twin.pa) (unbounced l stands laid m h.map h.there device)

      found : Some (translated (l.spaces h.map.tag) a) ≡ Some (Some u.twin.bus)
      found =
          sym (ap (option_map (translated (l.spaces h.map.tag))) h.byte)
          ∙ sym (slice_get-map (translated (l.spaces h.map.tag)) (segment_bytes (segments_in h.map.stage)) h.place)
          ∙ ap (λ xs. slice_get xs h.place)
          (mapped.each m h.map h.there device (some-byte h.map.stage h.place a h.byte)).found
          ∙ slice_get-map (λ x. Some x) (buses (traces_of l m)) h.place
          ∙ ap (option_map (λ x. Some x)) (slice_get-map (λ (x : Placed). x.bus) (traces_of l m) h.place
          ∙ ap (option_map (λ (x : Placed). x.bus)) u.found)

      bus : u.twin.bus ≡ raw t a
      bus =
          sym
          (ap (λ k. raw k a) (sym h.tag)
          ∙ ap (λ o. unwrap_or o 0)
          (found_one (Some (translated (l.spaces h.map.tag) a)) _ (Some u.twin.bus) refl found))

  pub judged-byte : (unlent : ReportName) (refusal : Position → Option ReportName) (t a : ℕ) →
      raw_refusal unlent refusal l t a ≡ None → IsJudgedByte l t a refusal
  judged-byte unlent refusal t a fine =
      by (nat_le (2 ^ 64) a) (is_some (translated (l.spaces t) a)) refl (position_in l t a (entries l.maps)) refl fine
    where
      at-last : (p : Position) → is_some (translated (l.spaces t) a) ≡ true → HasByte l t a p → refusal p ≡ None →
          IsJudgedByte l t a refusal
      at-last p some h allowed = record {
        by_map = h.by_map;
        own = h.map;
        there = h.there;
        tag = h.tag;
        place = h.place;
        position = p;
        at = h.at;
        byte = h.byte;
        lands = some-of (translated (l.spaces t) a) some ∙ ap Some (sym (lands-at t a p some h));
        allowed = allowed;
      }

      by : (high some : Bool) → is_some (translated (l.spaces t) a) ≡ some → (o : Option Position) →
          position_in l t a (entries l.maps) ≡ o →
          cond (high || not some) (Some Untranslated) (unless_unlent unlent refusal o) ≡ None →
          IsJudgedByte l t a refusal
      by true some e o is h = absurd (cc)
      by false false e o is h = absurd (cc)
      by false true e None is h = absurd (cc)
      by false true e (Some p) is h = at-last p e (position-found l t a p is) h

-- ---- named ranges

module _ (l : LaneState) (laid : AreLaid l) (m : ℕ) (o : LaneMap) (addr len at : ℕ) where
  pub named-range : get l.maps m ≡ Some o → is_device l o ≡ false → place_of addr len (segments_in o.stage) ≡ Some at →
      load_buses l m at len ≡ run_of addr len
  named-range there direct found = by o.stage (subst (λ q. LiesIn l m (stage_in q)) there (laid.each m)) found
    where
      by : (s : Stage) → LiesIn l m s → place_of addr len (segments_in s) ≡ Some at → load_buses l m at len
          ≡ run_of addr len
      by Idle lies e = absurd (cc)
      by (Waiting w) lies e = absurd (cc)
      by (Loaded bounced segments pages) lies e =
          same_range (λ (p : Placed). p.bus) (λ (b : ℕ). b) at len (traces_of l m) (segment_bytes segments)
          (sym (lies.trace (ap (λ q. option_map_or (is_device l) q false) there ∙ direct))
          ∙ sym (map_own (segment_bytes segments)))
          ∙ map_own (stretch at len (segment_bytes segments))
          ∙ found_bytes addr len segments at e
      by Returning lies e = absurd (cc)
