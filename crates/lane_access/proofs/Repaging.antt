-- A map of a driver that has the same load in pages of the same frames.
use Rattle.std.proofs.Common.{◌≡◌, ◌≢◌, ℕ, ◌+◌, ◌*◌, ◌≤◌, true, false, cond, List, [], ◌∷◌, map, length}
use Rattle.std.proofs.Common.{Some, refl, sym, ap, ◌∙◌, subst, arith}
use Rattle.std.proofs.lemmas.Bool.{eq-eqb, ne_eqb}
use Rattle.std.proofs.lemmas.List.{length-map}
use Rattle.std.specs.List.{AllByRecursion}
use Rattle.std.specs.Option.{option_map}
use Rattle.std.specs.Ordering.{nat_cmp}
use Rattle.std.specs.FinMap.{FinMap, get, insert}
use Rattle.busdma_machine.specs.declared.name.ZoneId.{ZoneId}
use Rattle.busdma_machine.specs.Machine.Page.{FrameBytes}
use Rattle.busdma_machine.specs.Machine.PageList.{page_frames, page_addresses}
use Rattle.busdma_machine.specs.Machine.Wire.{put, with_bytes_of}
use Rattle.lane_state.specs.declared.kept.KeptLoad.{KeptLoad}
use Rattle.dma_map.specs.MapView as held
use Rattle.phys_memory.specs.Memory.{FrameMemory, wire}
use Rattle.phys_memory.proofs.PageBytes.{IsNone}
use Rattle.ideal_lane.specs.State.{LaneState}
use Rattle.ideal_lane.proofs.Lookups.{get_put}
use Rattle.ideal_lane.proofs.Weights.{weigh-put}
use Rattle.lane_state.specs.declared.holdings.Holdings.{Holdings}
use Rattle.lane_state.specs.declared.kept.KeptMap.{KeptMap}
use Rattle.lane_state.specs.Covered.{has_load, is_covered_returning, is_tried, lends_pages, pages_due}
use Rattle.lane_state.specs.Held.{device_view, devices_of}
use Rattle.lane_state.specs.Ideal.{ideal_of}
use Rattle.lane_state.specs.Kept.{device_in, device_of, due_in, due_of, map_of, kept_stage}
use Rattle.lane_state.specs.MapValues.{map_values}
use Rattle.lane_state.specs.PagesLent.{IsRepaged}
use Rattle.lane_state.specs.Wire.{IsWired, held_pages, wire_of}
use Rattle.lane_state.proofs.Bytes.{devices-elsewhere}
use Rattle.lane_state.proofs.ChangeLaws.{held-put}
use Rattle.lane_state.proofs.Devices.{Loading, loading}
use Rattle.lane_state.proofs.MapTables.{AreMaps, returns-alike, told-put}
use Rattle.lane_state.proofs.MapValues.{image-some, map_values-insert}
use Rattle.lane_state.proofs.Places.{put-back}
use Rattle.lane_state.proofs.Views.{IsMine}

-- ---- pages of the same frames
none-of : (ps : List FrameBytes) (f : ℕ) → IsNone ps f → AllByRecursion (λ g. f ≢ g) (page_frames ps)
none-of [] f h = tt
none-of (p ∷ ps) f h = (h.0, none-of ps f h.1)

of-none : (ps : List FrameBytes) (f : ℕ) → AllByRecursion (λ g. f ≢ g) (page_frames ps) → IsNone ps f
of-none [] f h = tt
of-none (p ∷ ps) f h = (h.0, of-none ps f h.1)

none-alike : (ps qs : List FrameBytes) (f : ℕ) → page_frames qs ≡ page_frames ps → IsNone ps f → IsNone qs f
none-alike ps qs f same h = of-none qs f (subst (AllByRecursion (λ g. f ≢ g)) (sym same) (none-of ps f h))

by-frames : (ps : List FrameBytes) → page_addresses ps ≡ map (λ f. 4096 * f) (page_frames ps)
by-frames [] = refl
by-frames (p ∷ ps) = ap (λ xs. 4096 * p.frame ∷ xs) (by-frames ps)

addresses-alike : (ps qs : List FrameBytes) → page_frames qs ≡ page_frames ps → page_addresses qs ≡ page_addresses ps
addresses-alike ps qs same = by-frames qs ∙ ap (map (λ f. 4096 * f)) same ∙ sym (by-frames ps)

lengths-alike : (ps qs : List FrameBytes) → page_frames qs ≡ page_frames ps → length qs ≡ length ps
lengths-alike ps qs same =
    sym (length-map qs (λ (p : FrameBytes). p.frame)) ∙ ap length same ∙ length-map ps (λ (p : FrameBytes). p.frame)

module _ (h : Holdings) (wired : IsWired h) (k : ℕ) (o : KeptMap) (there : get h.maps.map k ≡ Some o)
    (on : has_load (Some o) ≡ true) (next : held.MapView KeptLoad) (repaged : IsRepaged o.map next) where
  abbrev l : LaneState
  l = ideal_of h

  abbrev x : Loading h wired k o there on
  x = loading h wired k o there on

  -- the map with its pages
  abbrev pub changed : KeptMap
  changed = record o { map = next }

  abbrev pub maps : FinMap nat_cmp KeptMap
  maps = insert h.maps.map k changed

  stage : next.stage ≡ held.loaded x.bounced x.segments repaged.pages
  stage = ap (λ (v : held.MapView KeptLoad). v.stage) repaged.is ∙ ap (held.with_pages repaged.pages) x.stage

  frames : page_frames repaged.pages.items ≡ page_frames x.pages.items
  frames = repaged.frames ∙ ap (λ s. page_frames (device_in s).pages) x.stage

  -- the changed map means the same to the ideal driver
  map-same : map_of changed ≡ map_of o
  map-same = λ i. record {
    tag = o.tag;
    zone = option_map (λ (z : ZoneId). z.0) (zones i);
    tried = tries i;
    stage = stages i;
  }
    where
      zones : next.zone ≡ o.map.zone
      zones = ap (λ (v : held.MapView KeptLoad). v.zone) repaged.is

      tries : next.tried ≡ o.map.tried
      tries = ap (λ (v : held.MapView KeptLoad). v.tried) repaged.is

      stages : kept_stage next.stage ≡ kept_stage o.map.stage
      stages =
          ap kept_stage stage
          ∙ ap (λ ps. Rattle.ideal_lane.specs.State.Loaded x.bounced x.segments ps)
          (addresses-alike x.pages.items repaged.pages.items frames)
          ∙ sym (ap kept_stage x.stage)

  pub ideal-maps : map_values map_of maps ≡ l.maps
  ideal-maps =
      map_values-insert map_of h.maps.map k changed
      ∙ ap (insert l.maps k) map-same
      ∙ put-back l.maps k (map_of o) (image-some map_of h.maps.map k o there)

  loads-same : has_load (Some changed) ≡ has_load (get h.maps.map k)
  loads-same = ap (λ v. Rattle.ideal_lane.specs.Outcomes.is_loaded v.stage) map-same ∙ sym (ap has_load there)

  lends-same : lends_pages (Some changed) ≡ lends_pages (get h.maps.map k)
  lends-same = ap Rattle.lane_state.specs.Covered.is_lent stage ∙ sym (h.unlent k)

  pub unlent-maps : (q : ℕ) → lends_pages (get maps q) ≡ false
  unlent-maps q = told-put lends_pages h.maps.map k changed lends-same q ∙ h.unlent q

  -- what holds of the driver's maps holds of these
  pub are-maps : AreMaps maps h.loans.loans h.agenda.returns h.agenda.promised
  are-maps = record {
    loaded = λ q. h.loaded q ∙ sym (told-put has_load h.maps.map k changed loads-same q);
    unlent = unlent-maps;
    promised =
        let weight : pages_due maps + due_of o ≡ pages_due h.maps.map + due_of changed =
        weigh-put due_of h.maps.map k o changed there in
        let before : due_of o ≡ length x.pages.items = ap due_in x.stage in
        let after : due_of changed ≡ length repaged.pages.items = ap due_in stage in
        let size : length repaged.pages.items ≡ length x.pages.items =
        lengths-alike x.pages.items repaged.pages.items frames in
        let few : pages_due h.maps.map ≤ h.agenda.promised = h.promised in
        omega (arith, weight, before, after, size, few);
    returning =
        returns-alike h.maps.map maps h.agenda.returns
        (told-put is_covered_returning h.maps.map k changed
        (ap (λ v. Rattle.lane_state.specs.Covered.returns_in v.stage) map-same ∙ sym (ap is_covered_returning there)))
        h.returning;
    tried = λ q. told-put is_tried h.maps.map k changed
        (ap (λ v. Rattle.std.specs.Prelude.◌||◌ (Rattle.ideal_lane.specs.Outcomes.is_idle v.stage) v.tried) map-same
        ∙ sym (ap is_tried there)) q ∙ h.tried q;
  }

  -- what each map has is as it was, except the bytes of this map's pages
  device-now : devices_of maps k ≡ device_in next.stage
  device-now =
      ap device_of (get_put h.maps.map k changed k
      ∙ ap (λ b. cond b (Some changed) (get h.maps.map k)) (eq-eqb k k refl))

  others : (q : ℕ) → q ≢ k → devices_of maps q ≡ devices_of h.maps.map q
  others q ne = devices-elsewhere h.maps.map k changed q (ne_eqb k q (λ e. ne (sym e)))

  frames-none : (f : ℕ) → IsNone (devices_of h.maps.map k).pages f → IsNone (devices_of maps k).pages f
  frames-none f none =
      subst (λ d. IsNone d.pages f) (sym device-now)
      (subst (λ s. IsNone (device_in s).pages f) (sym stage)
      (none-alike x.pages.items repaged.pages.items f frames
      (subst (λ s. IsNone (device_in s).pages f) x.stage (subst (λ q. IsNone (device_of q).pages f) there none))))

  -- what is held changes as its device reaches it
  pub repaged-put : (n : FrameMemory) (keys vs : List ℕ) →
      ((i a : ℕ) → Rattle.std.specs.Prelude.slice_get keys i ≡ Some a → IsMine h.maps.map k a) →
      device_view (device_in next.stage) n ≡ put keys vs (device_view (device_in o.map.stage) h.memory.memory) →
      with_bytes_of (held_pages maps) (wire n) ≡ put keys vs (wire_of h)
  repaged-put n keys vs mine view =
      held-put l wired.laid wired.apart h.maps.map refl h.unlent maps h.memory.memory n k others frames-none keys vs
      mine
      (ap (λ d. device_view d n) device-now ∙ view
      ∙ sym (ap (λ q. put keys vs (device_view (device_of q) h.memory.memory)) there))
