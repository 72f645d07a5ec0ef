-- A raw access that is not refused is one of bytes of loads, which are at their own addresses.
use Rattle.std.proofs.Common.{◌≡◌, ℕ, ◌+◌, ◌^◌, Bool, true, false, ◌||◌, not, cond, List, [], ◌∷◌}
use Rattle.std.proofs.Common.{slice_get, Option, Some, None, is_some, unwrap_or, nat_le, refl, sym, ap, ◌∙◌, subst, inr}
use Rattle.std.specs.FinMap.{get, entries}
use Rattle.std.specs.List.{AllZip}
use Rattle.std.specs.Option.{option_map, option_map_or}
use Rattle.std.proofs.lemmas.Option.{slice_get-map}
use Rattle.busdma_machine.specs.declared.machine.chunk.Chunk.{Chunk}
use Rattle.busdma_machine.specs.declared.report.ReportName.{ReportName}
use Rattle.busdma_machine.specs.declared.report.ReportName.TheVariants.{Untranslated}
use Rattle.busdma_machine.specs.Machine.Wire.{Placed, buses}
use Rattle.busdma_rules.specs.Iommu.Space.{translated}
use Rattle.busdma_rules.specs.declared.position.Position.{Position}
use Rattle.busdma_rules.specs.Lending.Loans.{loan_of, addresses_of}
use Rattle.busdma_rules.specs.Segments.Segmentation.{segment_bytes}
use Rattle.ideal_lane.specs.Accesses.{position_in, raw_refusal, unless_unlent}
use Rattle.ideal_lane.specs.Loads.{is_device}
use Rattle.ideal_lane.specs.Outcomes.{is_loaded}
use Rattle.ideal_lane.specs.Standing.{IsPageless, Stands, StandsAt}
use Rattle.ideal_lane.specs.State.{LaneState, LaneMap, LaneTag, Stage, Idle, Waiting, Loaded, Returning}
use Rattle.ideal_lane.specs.Syncs.{bounced_in}
use Rattle.ideal_lane.specs.Unloads.{segments_in}
use Rattle.ideal_wire.specs.Centre.{IsAt, IsPlacedAt}
use Rattle.ideal_wire.specs.Laid.{AreLaid, IsInPage, LiesIn}
use Rattle.ideal_wire.specs.Mapped.{AreMapped}
use Rattle.ideal_wire.specs.Spaced.{AreSpaced, is_spaced}
use Rattle.ideal_wire.specs.Traces.{bus_at, stage_at, stage_in, traces_of}
use Rattle.ideal_wire.proofs.Faithful.Buses.{placed-at, placed-buffers}
use Rattle.ideal_wire.proofs.Faithful.FaithfulSpots.{Spot}
use Rattle.ideal_wire.proofs.Laid.Positions.{Twin, found_one, twin_of}
use Rattle.ideal_wire.proofs.Faithful.RawPlaces.{HasByte, position-found}

-- if no page is held, no chunk is bounced
no-chunk : (cs : List Chunk) (pages : List ℕ) → AllZip IsInPage cs pages → pages ≡ [] → cs ≡ []
no-chunk [] pages paged none = refl
no-chunk (c ∷ cs) [] paged none = absurd paged
no-chunk (c ∷ cs) (p ∷ ps) paged none = absurd (cc)

-- the segments of what is not loaded have no byte
some-byte : (s : Stage) (i a : ℕ) → slice_get (segment_bytes (segments_in s)) i ≡ Some a → is_loaded s ≡ true
some-byte Idle i a e = absurd (cc)
some-byte (Waiting w) i a e = absurd (cc)
some-byte (Loaded bounced segments pages) i a e = refl
some-byte Returning i a e = absurd (cc)

-- what is known of the loads of IOMMU tags' maps at each turn
pub record AreFound (l : LaneState) : Type 0 where
  pub stands : Stands l
  pub laid : AreLaid l
  pub spaced : AreSpaced l
  pub mapped : AreMapped l

module _ (l : LaneState) (all : AreFound l) where
  -- no byte of an IOMMU tag's load is bounced
  unbounced : (m : ℕ) (o : LaneMap) → get l.maps m ≡ Some o → is_device l o ≡ true → bounced_in (stage_at l m) ≡ []
  unbounced m o there device =
      ap (λ q. bounced_in (stage_in q)) there
      ∙ by o.stage (st.pageless zone) (subst (λ q. LiesIn l m (stage_in q)) there (all.laid.each m))
    where
      st : StandsAt l.maxmem l.tags l.mems m o
      st = all.stands.each m o there

      zone : o.zone ≡ None
      zone = st.device (sym (ap (λ q. option_map_or (λ (t : LaneTag). t.device) q false) st.there) ∙ device)

      by : (s : Stage) → IsPageless s → LiesIn l m s → bounced_in s ≡ []
      by Idle none lies = refl
      by (Waiting w) none lies = refl
      by (Loaded bounced segments pages) none lies = no-chunk bounced pages lies.paged none
      by Returning none lies = refl

  -- where the byte at a device address lies
  abbrev raw : ℕ → ℕ → ℕ
  raw t a = unwrap_or (translated (l.spaces t) a) 0

  -- a position of a load at a device address, which lies there and has its bus address there
  pub record Reached (refusal : Position → Option ReportName) (t a : ℕ) : Type 0 where
    pub by_map : ℕ
    pub place : ℕ
    pub position : Position
    pub placed : Placed
    pub at : IsAt l.loans by_map place position
    pub stood : IsPlacedAt (traces_of l) by_map place placed
    pub is_pa : position.pa ≡ raw t a
    pub is_bus : placed.bus ≡ raw t a
    pub allowed : refusal position ≡ None

  pub spot-of : (way : Position → Bool) {refusal : Position → Option ReportName} {t a : ℕ} (s : Reached refusal t a) →
      way s.position ≡ true → Spot l (traces_of l) way (raw t a) (raw t a)
  spot-of way s lends = record {
    by_map = s.by_map;
    place = s.place;
    position = s.position;
    placed = s.placed;
    at = s.at;
    stands = s.stood;
    is_pa = s.is_pa;
    is_bus = s.is_bus;
    lends = inr lends;
  }

  -- an address that a tag's device reaches is one of an IOMMU tag
  device-tag : (t a : ℕ) → is_some (translated (l.spaces t) a) ≡ true → is_spaced l t ≡ true
  device-tag t a some = by (is_spaced l t) refl
    where
      by : (b : Bool) → is_spaced l t ≡ b → is_spaced l t ≡ true
      by true e = e
      by false e =
          let none : is_some (translated (l.spaces t) a) ≡ false =
          ap (λ s. is_some (translated s a)) (all.spaced.none t e) in
          absurd (cc)

  reached-at : (refusal : Position → Option ReportName) (t a : ℕ) (p : Position) →
      is_some (translated (l.spaces t) a) ≡ true → HasByte l t a p → refusal p ≡ None → Reached refusal t a
  reached-at refusal t a p some h allowed = record {
    by_map = h.by_map;
    place = h.place;
    position = p;
    placed = u.twin;
    at = h.at;
    stood = u.found;
    is_pa = u.same ∙ sym own ∙ bus;
    is_bus = bus;
    allowed = allowed;
  }
    where
      m : ℕ
      m = h.by_map

      bytes : List ℕ
      bytes = addresses_of (loan_of l.loans m).positions

      device : is_device l h.map ≡ true
      device = ap (is_spaced l) h.tag ∙ device-tag t a some

      u : Twin (λ (q : Position). q.pa) (λ (x : Placed). x.pa) (traces_of l m) h.place p
      u = twin_of (λ q. q.pa) (λ x. x.pa) (loan_of l.loans m).positions (traces_of l m)
          (sym (placed-buffers (bounced_in (stage_at l m)) 0 bytes)) h.place p h.at

      own : u.twin.bus ≡ u.twin.pa
      own = (placed-at (bounced_in (stage_at l m)) 0 bytes h.place u.twin u.found).1
          ∙ ap (λ cs. bus_at cs (0 + h.place) u.twin.pa) (unbounced m h.map h.there device)

      found : Some (translated (l.spaces h.map.tag) a) ≡ Some (Some u.twin.bus)
      found =
          sym (ap (option_map (translated (l.spaces h.map.tag))) h.byte)
          ∙ sym (slice_get-map (translated (l.spaces h.map.tag)) (segment_bytes (segments_in h.map.stage)) h.place)
          ∙ ap (λ xs. slice_get xs h.place)
          (all.mapped.each m h.map h.there device (some-byte h.map.stage h.place a h.byte)).found
          ∙ slice_get-map (λ x. Some x) (buses (traces_of l m)) h.place
          ∙ ap (option_map (λ x. Some x)) (slice_get-map (λ (x : Placed). x.bus) (traces_of l m) h.place
          ∙ ap (option_map (λ (x : Placed). x.bus)) u.found)

      bus : u.twin.bus ≡ raw t a
      bus =
          sym
          (ap (λ k. raw k a) (sym h.tag)
          ∙ ap (λ o. unwrap_or o 0)
          (found_one (Some (translated (l.spaces h.map.tag) a)) _ (Some u.twin.bus) refl found))

  pub raw-reached : (unlent : ReportName) (refusal : Position → Option ReportName) (t a : ℕ) →
      raw_refusal unlent refusal l t a ≡ None → Reached refusal t a
  raw-reached unlent refusal t a fine =
      by (nat_le (2 ^ 64) a) (is_some (translated (l.spaces t) a)) refl (position_in l t a (entries l.maps)) refl fine
    where
      by : (high some : Bool) → is_some (translated (l.spaces t) a) ≡ some → (o : Option Position) →
          position_in l t a (entries l.maps) ≡ o →
          cond (high || not some) (Some Untranslated) (unless_unlent unlent refusal o) ≡ None → Reached refusal t a
      by true some e o is h = absurd (cc)
      by false false e o is h = absurd (cc)
      by false true e None is h = absurd (cc)
      by false true e (Some p) is h = reached-at refusal t a p e (position-found l t a p is) h
