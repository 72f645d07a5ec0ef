-- Where the bytes of a driver's loads lie among the pages that its maps really hold.
use Rattle.std.proofs.Common.{◌≡◌, ◌≢◌, ℕ, ◌+◌, ◌*◌, ◌/◌, ◌<◌, ◌≤◌, true, false}
use Rattle.std.proofs.Common.{Option, Some, None, is_some, slice_get}
use Rattle.std.proofs.Common.{refl, sym, ap, ◌∙◌, subst, arith}
use Rattle.std.proofs.lemmas.Bool.{le-leb, lt-ltb, false≢true}
use Rattle.std.proofs.lemmas.Option.{slice_get-map}
use Rattle.std.specs.Option.{option_map}
use Rattle.std.specs.Ordering.{nat_cmp}
use Rattle.std.specs.FinMap.{FinMap, get}
use Rattle.busdma_machine.specs.Bounce.MemoryRuns.{in_run}
use Rattle.busdma_machine.specs.Machine.Page.{FrameBytes}
use Rattle.busdma_machine.specs.Machine.PageList.{page_address, page_addresses}
use Rattle.busdma_machine.specs.Machine.Wire.{Wire, Placed, with_bytes_of}
use Rattle.lane_state.specs.declared.kept.KeptLoad.{KeptLoad}
use Rattle.dma_map.specs.MapView as held
use Rattle.phys_memory.proofs.PageBytes.{IsNone, no_page_at}
use Rattle.ideal_lane.specs.State.{LaneState}
use Rattle.ideal_lane.specs.Syncs.{bounced_in}
use Rattle.ideal_lane.specs.Unloads.{pages_of}
use Rattle.ideal_wire.specs.Apart.{HoldsPage, IsApart}
use Rattle.ideal_wire.specs.Centre.{IsPlacedAt}
use Rattle.ideal_wire.specs.Laid.{AreLaid}
use Rattle.ideal_wire.specs.Traces.{stage_in, stage_at, traces_of}
use Rattle.ideal_wire.proofs.Faithful.PlacedLoads.{Lies, ItsOwn, InPage, lies-of, own-place}
use Rattle.ideal_wire.proofs.Loads.Reaching.{all-from}
use Rattle.lane_state.specs.declared.kept.KeptMap.{KeptMap}
use Rattle.lane_state.specs.Covered.{is_lent, lends_pages}
use Rattle.lane_state.specs.Held.{devices_of}
use Rattle.lane_state.specs.Kept.{device_in, device_of, map_of, kept_stage}
use Rattle.lane_state.specs.MapValues.{map_values}
use Rattle.lane_state.specs.Wire.{held_pages}
use Rattle.lane_state.proofs.MapValues.{get-map_values}
use Rattle.lane_state.proofs.Views.{IsMine, view-alike}

-- ---- what a map has, by its stage
chunks-stage : (s : held.HeldStage KeptLoad) → (device_in s).chunks ≡ bounced_in (kept_stage s)
chunks-stage held.idle = refl
chunks-stage (held.waiting load_at callback room) = refl
chunks-stage (held.loaded bounced segments pages) = refl
chunks-stage (held.lent bounced segments frames) = refl
chunks-stage held.returning = refl

pages-stage : (s : held.HeldStage KeptLoad) → is_lent s ≡ false →
    page_addresses (device_in s).pages ≡ pages_of (kept_stage s)
pages-stage held.idle h = refl
pages-stage (held.waiting load_at callback room) h = refl
pages-stage (held.loaded bounced segments pages) h = refl
pages-stage (held.lent bounced segments frames) h = absurd (cc)
pages-stage held.returning h = refl

pub chunks-in : (o : Option KeptMap) → (device_of o).chunks ≡ bounced_in (stage_in (option_map map_of o))
chunks-in None = refl
chunks-in (Some o) = chunks-stage o.map.stage

pub pages-in : (o : Option KeptMap) → lends_pages o ≡ false →
    page_addresses (device_of o).pages ≡ pages_of (stage_in (option_map map_of o))
pages-in None h = refl
pages-in (Some o) h = pages-stage o.map.stage h

-- ---- the maps of a driver in its ideal state
module _ (l : LaneState) (laid : AreLaid l) (apart : IsApart l) (maps : FinMap nat_cmp KeptMap)
    (same : map_values map_of maps ≡ l.maps) (unlent : (k : ℕ) → lends_pages (get maps k) ≡ false) where
  stage-same : (k : ℕ) → stage_in (option_map map_of (get maps k)) ≡ stage_at l k
  stage-same k = ap stage_in (sym (get-map_values map_of maps k)) ∙ ap (λ ms. stage_in (get ms k)) same

  pub chunks-same : (k : ℕ) → (devices_of maps k).chunks ≡ bounced_in (stage_at l k)
  chunks-same k = chunks-in (get maps k) ∙ ap bounced_in (stage-same k)

  pub pages-same : (k : ℕ) → page_addresses (devices_of maps k).pages ≡ pages_of (stage_at l k)
  pages-same k = pages-in (get maps k) (unlent k) ∙ ap pages_of (stage-same k)

  -- a page of a map is one that it holds
  pub holds : (n j : ℕ) (p : FrameBytes) → slice_get (devices_of maps n).pages j ≡ Some p →
      HoldsPage l n j (page_address p)
  holds n j p h =
      ap (λ ps. slice_get ps j) (sym (pages-same n))
      ∙ slice_get-map page_address (devices_of maps n).pages j ∙ ap (option_map page_address) h

  -- no page has the frame of a byte of the driver's own
  pub own-none : (a : ℕ) → is_some (l.memory a) ≡ true → (n : ℕ) → IsNone (devices_of maps n).pages (a / 4096)
  own-none a own n =
      all-from (λ (p : FrameBytes). a / 4096 ≢ p.frame) (devices_of maps n).pages (λ j p h e.
      let low : 4096 * p.frame ≤ a = omega (arith, e) in
      let high : a < 4096 * p.frame + 4096 * 1 = omega (arith, e) in
      let inside : in_run (4096 * p.frame) 1 a ≡ true =
      rw (le-leb (4096 * p.frame) a low, lt-ltb a (4096 * p.frame + 4096 * 1) high) refl in
      false≢true (sym (apart.away n j (page_address p) a (holds n j p h) inside) ∙ own))

  pub own-mine : (k a : ℕ) → is_some (l.memory a) ≡ true → IsMine maps k a
  own-mine k a own n ne = own-none a own n

  -- no page of another map has the frame of a byte in a page of a map
  pub page-mine : (k i page a : ℕ) → HoldsPage l k i page → page ≡ 4096 * (a / 4096) → IsMine maps k a
  page-mine k i page a has is n ne =
      all-from (λ (p : FrameBytes). a / 4096 ≢ p.frame) (devices_of maps n).pages (λ j p h e.
      let at : page_address p ≡ page = omega (arith, e, is) in
      ne (sym (apart.one k n i j page has (subst (HoldsPage l n j) at (holds n j p h))).0))

  -- no page of another map has the frame of a bus address of a load
  pub trace-mine : (k i : ℕ) (t : Placed) → IsPlacedAt (traces_of l) k i t → IsMine maps k t.bus
  trace-mine k i t h = by (lies-of l laid k i t h)
    where
      by : Lies l laid k i t → IsMine maps k t.bus
      by (ItsOwn e) =
          subst (IsMine maps k) (sym e) (own-mine k t.pa (laid.owned t.pa (own-place l laid k i t h)))
      by (InPage x b) =
          let whole = b.whole in
          let low = b.low in
          let high = b.high in
          page-mine k b.index b.page t.bus
          (ap (λ s. slice_get (pages_of s) b.index) x.stage ∙ b.has_page) (omega (arith, whole, low, high))

  -- the byte at an address of the driver's own, and at a bus address of a load
  pub own-view : (w : Wire) (a : ℕ) → is_some (l.memory a) ≡ true → with_bytes_of (held_pages maps) w a ≡ w a
  own-view w a own =
      view-alike maps 0 w a (own-mine 0 a own) ∙ no_page_at (devices_of maps 0).pages w a (own-none a own 0)

  pub trace-view : (w : Wire) (k i : ℕ) (t : Placed) → IsPlacedAt (traces_of l) k i t →
      with_bytes_of (held_pages maps) w t.bus ≡ with_bytes_of (devices_of maps k).pages w t.bus
  trace-view w k i t h = view-alike maps k w t.bus (trace-mine k i t h)
