-- A load that waits, seen by the ideal driver. The bytes that it names are reached, whatever memories come and go.
use Rattle.std.proofs.Common.{◌≡◌, ℕ, true, List, Option, Some, None, is_some, refl, sym, ap, ◌∙◌, subst}
use Rattle.std.proofs.Common.{IfSome, unwrap_or}
use Rattle.std.specs.List.{AllByRecursion}
use Rattle.std.specs.FinMap.{get}
use Rattle.std.specs.Option.{option_map}
use Rattle.busdma_machine.specs.declared.report.Judged.TheVariants.{Fine}
use Rattle.busdma_machine.specs.declared.machine.bio.Bio.{Bio}
use Rattle.busdma_machine.specs.declared.tags.tag.TagLimits.{TagLimits}
use Rattle.busdma_machine.specs.Machine.Entry.{entries_addresses}
use Rattle.busdma_machine.specs.Machine.Spans.{bio_spans}
use Rattle.busdma_base.specs.Scenarios.Buffers.{IsBioOf}
use Rattle.dma_map.specs.declared.room.LoadRoom.{LoadRoom}
use Rattle.dma_map.specs.MapView as held
use Rattle.busdma_rules.specs.Memory.Bios.{is_rounded}
use Rattle.busdma_rules.specs.Lending.Loans.{new_loan}
use Rattle.busdma_rules.specs.Memory.Translation.{Translation, missing, physical_or_0, unreached}
use Rattle.busdma_rules.specs.Segments.Chunks.{chunks_of}
use Rattle.busdma_machine.specs.declared.machine.chunk.Entry.{Entry}
use Rattle.ideal_lane.specs.Loads.{is_coherent, limits_of, load_entries, load_judged, load_translation, no_limits}
use Rattle.ideal_lane.specs.Standing.{IsPageless, Stands}
use Rattle.ideal_lane.specs.State.{LaneMap, LaneMemory, LaneState, LaneTag}
use Rattle.ideal_wire.specs.Laid.{AreInPages, AreLaid, is_loadable}
use Rattle.ideal_wire.specs.Machine.{IsInMachine}
use Rattle.ideal_wire.proofs.Loads.Asked.{all-fine, all-map, all-of, direct-bytes, of-pages, pages-entries}
use Rattle.ideal_wire.proofs.Loads.Bios.{IsOfPages, bio-paged, bio_places, pages-own, with-pages}
use Rattle.ideal_wire.proofs.Loads.MemoryLoads.{memory-ready}
use Rattle.ideal_wire.proofs.Loads.Reaching.{entries-bytes}
use Rattle.lane_state.specs.declared.holdings.Holdings.{Holdings}
use Rattle.lane_state.specs.declared.kept.KeptLoad.{KeptLoad}
use Rattle.lane_state.specs.declared.kept.KeptMap.{KeptMap}
use Rattle.lane_state.specs.declared.kept.KeptTag.{KeptTag}
use Rattle.lane_state.specs.Awaiting.{IsAwaitingNow, awaited_map}
use Rattle.lane_state.specs.Awaiting.{kept_load, limits_at, page_entries}
use Rattle.lane_state.specs.Ideal.{ideal_of}
use Rattle.lane_state.specs.Kept.{map_of, memory_of, kept_stage, tag_of}
use Rattle.lane_state.specs.Loading.{AreOfMap, HasRoomForAny, IsLoadable, bio_chunks, bio_of, bio_reached, load_loan}
use Rattle.lane_state.proofs.Called.{load-kept}
use Rattle.lane_state.proofs.MapValues.{get-map_values, image-none, image-some}

-- ---- the bytes of a load

-- the bytes of pages are reached
pub paged-reached : (l : LaneState) (b : Bio) → AreInPages l.pages b → bio_reached l b ≡ Fine
paged-reached l b paged =
    all-fine (unreached (load_translation l b)) 0 (bio_places b)
    (all-of (IsOfPages l b) _ (λ va r. ap missing (with-pages l b va r.0 r.1)) (bio_places b) (of-pages l b paged))

-- the bytes of a load that is judged fine may be loaded into its map
pub fine-bytes : (l : LaneState) → AreLaid l → IsInMachine l → Stands l → (m : ℕ) (o : LaneMap) →
    get l.maps m ≡ Some o → (b : Bio) → IsBioOf l.pages b → load_judged l m b ≡ Fine → AreOfMap l m b
fine-bytes l laid machine stands m o there b named fine = by (get l.mems m) refl
  where
    u : Translation
    u = load_translation l b

    direct : get l.mems m ≡ None → AreOfMap l m b
    direct none =
        let own = direct-bytes l m b none fine in
        let loads : (va : ℕ) → IsOfPages l b va → is_loadable (get l.mems m) l (physical_or_0 u va) ≡ true =
        λ va r. ap (λ q. is_loadable q l (physical_or_0 u va)) none
        ∙ ap (λ q. is_loadable None l (unwrap_or q 0)) (with-pages l b va r.0 r.1)
        ∙ pages-own l b named va r.0 r.1 in
        subst (AllByRecursion (λ a. is_loadable (get l.mems m) l a ≡ true))
        (sym (entries-bytes u (bio-paged l laid machine b named) (is_rounded b) (bio_spans b)
        (all-of (IsOfPages l b) _ (λ va r. (r.0, with-pages l b va r.0 r.1)) (bio_places b) own)))
        (all-map (physical_or_0 u) (λ a. is_loadable (get l.mems m) l a ≡ true) (bio_places b)
        (all-of (IsOfPages l b) _ loads (bio_places b) own))

    by : (q : Option LaneMemory) → get l.mems m ≡ q → AreOfMap l m b
    by None e = direct e
    by (Some y) e = (memory-ready l laid machine stands m o there y e b fine).loadable

-- ---- the load of a map that waits

-- the limits of a map's tag
limits-are : (h : Holdings) (o : KeptMap) →
    limits_of (ideal_of h) (map_of o) ≡ unwrap_or (limits_at h.tags.map o.tag) no_limits
limits-are h o =
    ap (λ t. unwrap_or (option_map (λ (x : LaneTag). x.limits) t) no_limits) (get-map_values tag_of h.tags.map o.tag)
    ∙ by (get h.tags.map o.tag)
  where
    by : (t : Option KeptTag) →
        unwrap_or (option_map (λ (x : LaneTag). x.limits) (option_map tag_of t)) no_limits
        ≡ unwrap_or (option_map (λ (x : KeptTag). x.tag) t) no_limits
    by None = refl
    by (Some t) = refl

-- each map of a driver that `Stands` has a tag
tagged : (h : Holdings) → Stands (ideal_of h) → (m : ℕ) (o : KeptMap) → get h.maps.map m ≡ Some o →
    is_some (limits_at h.tags.map o.tag) ≡ true
tagged h stands m o there =
    let at = stands.each m (map_of o) (image-some map_of h.maps.map m o there) in
    by (get h.tags.map o.tag)
    (ap is_some (sym (get-map_values tag_of h.tags.map o.tag) ∙ at.there))
  where
    by : (t : Option KeptTag) → is_some (option_map tag_of t) ≡ true →
        is_some (option_map (λ (x : KeptTag). x.tag) t) ≡ true
    by None e = e
    by (Some t) e = refl

module _ (h : Holdings) (stands : Stands (ideal_of h)) (m : ℕ) (w : KeptLoad) (room : LoadRoom) (o : KeptMap)
    (there : get h.maps.map m ≡ Some o) where
  abbrev l : LaneState
  l = ideal_of h

  abbrev bio : Bio
  bio = bio_of w.bytes

  image : get l.maps m ≡ Some (map_of o)
  image = image-some map_of h.maps.map m o there

  entered : AreInPages l.pages bio → page_entries l.pages bio ≡ load_entries l bio
  entered paged = pages-entries l bio (of-pages l bio paged)

  -- a load begins to wait with what was prepared
  pub begins-waiting : get h.memories.map m ≡ None → AreInPages h.pages.now bio → IsLoadable h.pages.now bio →
      ((x : LaneMap) → get l.maps m ≡ Some x → HasRoomForAny (limits_of l x) (bio_chunks l x bio) w.need room) →
      get h.loans.prepared m ≡ Some (load_loan l m bio) →
      IsAwaitingNow h.pages.now h.maxmem (limits_at h.tags.map o.tag) (get h.loans.prepared m) w room
  begins-waiting own paged loadable fits prepared = record {
    loadable = loadable;
    paged = paged;
    tagged = tagged h stands m o there;
    fits = subst (λ (p : TagLimits × List Entry). HasRoomForAny p.0 (chunks_of p.0 h.maxmem p.1) w.need room)
        (λ i. (limits-are h o i, sym (entered paged) i)) (fits (map_of o) image);
    prepared = prepared
        ∙ (λ i. Some (new_loan (is_coherent (image-none memory_of h.memories.map m own i))
        (entries_addresses (sym (entered paged) i))));
  }

-- what is needed to end a load that has waited
pub record IsAwaited (h : Holdings) (m : ℕ) (w : KeptLoad) (room : LoadRoom) : Type 0 where
  pub own : get (ideal_of h).mems m ≡ None
  pub reached : bio_reached (ideal_of h) (bio_of w.bytes) ≡ Fine
  pub loadable : IsLoadable h.pages.now (bio_of w.bytes)
  pub fits : (o : LaneMap) → get (ideal_of h).maps m ≡ Some o →
      HasRoomForAny (limits_of (ideal_of h) o) (bio_chunks (ideal_of h) o (bio_of w.bytes)) w.need room
  pub prepared : get h.loans.prepared m ≡ Some (load_loan (ideal_of h) m (bio_of w.bytes))

-- the map that waits is not a memory's
unowned : (l : LaneState) → Stands l → (m : ℕ) (o : LaneMap) → get l.maps m ≡ Some o → (o.zone ≡ None → ⊥) →
    get l.mems m ≡ None
unowned l stands m o there zoned = by (get l.mems m) refl
  where
    by : (q : Option LaneMemory) → get l.mems m ≡ q → get l.mems m ≡ None
    by None e = e
    by (Some y) e = absurd (zoned ((stands.each m o there).memory (ap is_some e)))

pub waits-with : (h : Holdings) → Stands (ideal_of h) → (m at : ℕ) (w : KeptLoad) (room : LoadRoom) →
    kept_load (get h.maps.map m) ≡ Some (at, w, room) → IsAwaited h m w room
waits-with h stands m at w room kept =
    let l = ideal_of h in
    let x = load-kept (get h.maps.map m) at w room kept in
    let o = x.0 in
    let bio = bio_of w.bytes in
    let image : get l.maps m ≡ Some (map_of o) = image-some map_of h.maps.map m o x.1 in
    let waits : ◌≡◌ {A = Option (KeptLoad × LoadRoom × Option TagLimits)} (awaited_map h.tags.map (get h.maps.map m))
    (Some (w, room, limits_at h.tags.map o.tag)) =
    ap (awaited_map h.tags.map) x.1
    ∙ ap (λ (s : held.HeldStage KeptLoad). option_map (λ (y : ℕ × KeptLoad × LoadRoom).
    (y.1, y.2, limits_at h.tags.map o.tag)) (held.held_waiting_load s)) x.2 in
    let is : IsAwaitingNow h.pages.now h.maxmem (limits_at h.tags.map o.tag) (get h.loans.prepared m) w room =
    subst (λ (y : Option (KeptLoad × LoadRoom × Option TagLimits)).
    IfSome y (λ z. IsAwaitingNow h.pages.now h.maxmem z.2 (get h.loans.prepared m) z.0 z.1)) waits
    (h.awaiting m) in
    let own : get l.mems m ≡ None =
    unowned l stands m (map_of o) image
    (λ none. subst IsPageless (ap kept_stage x.2) ((stands.each m (map_of o) image).pageless none)) in
    let entered : page_entries l.pages bio ≡ load_entries l bio =
    pages-entries l bio (of-pages l bio is.paged) in
    record {
      own = own;
      reached = paged-reached l bio is.paged;
      loadable = is.loadable;
      fits = λ y found.
          (let same : map_of o ≡ y = cc in
          subst (λ (z : LaneMap). HasRoomForAny (limits_of l z) (bio_chunks l z bio) w.need room) same
          (subst (λ (p : TagLimits × List Entry). HasRoomForAny p.0 (chunks_of p.0 h.maxmem p.1) w.need room)
          (λ i. (sym (limits-are h o) i, entered i)) is.fits));
      prepared = is.prepared
          ∙ (λ i. Some (new_loan (is_coherent (sym own i)) (entries_addresses (entered i))));
    }
