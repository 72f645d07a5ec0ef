-- The bounced chunks of a load lie in the driver's memory and in the pages of its map.
use Rattle.std.proofs.Common.{◌≡◌, ℕ, zero, suc, ◌+◌, ◌-◌, ◌*◌, ◌/◌, ◌≤◌, true, cond, List, [], ◌∷◌}
use Rattle.std.proofs.Common.{length, take, drop, Option, Some, None, sym, ◌∙◌, subst, arith}
use Rattle.std.specs.List.{AllByRecursion, AllZip}
use Rattle.std.specs.FinMap.{get}
use Rattle.busdma_machine.specs.declared.machine.address.Extent.{Extent}
use Rattle.busdma_machine.specs.declared.machine.address.Pa.{Pa}
use Rattle.busdma_machine.specs.declared.machine.chunk.Chunk.{Chunk}
use Rattle.busdma_machine.specs.Machine.Page.{FrameBytes}
use Rattle.busdma_machine.specs.Machine.PageList.{page_frames, page_addresses}
use Rattle.busdma_machine.specs.Machine.Wire.{Placed}
use Rattle.busdma_machine.specs.Runs.{IsExtent, addresses, run_of}
use Rattle.device_model.proofs.Accessing.{all_behind, first_of_run}
use Rattle.dma_map.specs.MapView as held
use Rattle.loan_table.proofs.Judgement.{length-run_of}
use Rattle.map_sync.specs.Held.{IsPageHeld, paged}
use Rattle.busdma_rules.specs.Syncs.Positions.{placed_at}
use Rattle.busdma_rules.specs.Syncs.ChunkTraces.{HasChunks}
use Rattle.phys_memory.specs.Extents.{LiesInFrames}
use Rattle.phys_memory.specs.Memory.{FrameMemory, memory_has_frame}
use Rattle.busdma_rules.specs.Segments.Trace.{bus_addresses, bus_extent, bus_from, chunk_extents, chunk_len}
use Rattle.ideal_lane.specs.State.{LaneState}
use Rattle.ideal_wire.specs.Laid.{IsInPage, IsOfExtents}
use Rattle.ideal_wire.specs.Traces.{traces_of}
use Rattle.ideal_wire.proofs.Faithful.PlacedLoads.{own-place}
use Rattle.ideal_wire.proofs.Loads.Reaching.{all-from}
use Rattle.lane_state.specs.declared.holdings.Holdings.{Holdings}
use Rattle.lane_state.specs.declared.kept.KeptMap.{KeptMap}
use Rattle.lane_state.specs.Covered.{has_load}
use Rattle.lane_state.specs.Ideal.{ideal_of}
use Rattle.lane_state.specs.Kept.{device_in}
use Rattle.lane_state.specs.PagesLent.{IsBounced}
use Rattle.lane_state.specs.Wire.{IsWired}
use Rattle.lane_state.proofs.CoveredLaws.{byte_count_is}
use Rattle.lane_state.proofs.Devices.{Loading, has-pages, loading, own-frame}

-- ---- what holds of each position holds of the bytes of chunks
module _ (P : ℕ → Type 0) where
  all-take : (n : ℕ) (ps : List Placed) → AllByRecursion (λ t. P t.pa) ps → AllByRecursion (λ t. P t.pa) (take n ps)
  all-take zero ps h = tt
  all-take (suc n) [] h = tt
  all-take (suc n) (p ∷ ps) h = (h.0, all-take n ps h.1)

  all-drop : (n : ℕ) (ps : List Placed) → AllByRecursion (λ t. P t.pa) ps → AllByRecursion (λ t. P t.pa) (drop n ps)
  all-drop zero ps h = h
  all-drop (suc n) [] h = tt
  all-drop (suc n) (p ∷ ps) h = all-drop n ps h.1

  of-placed : (pas bs : List ℕ) → length pas ≤ length bs → AllByRecursion (λ t. P t.pa) (placed_at pas bs) →
      AllByRecursion P pas
  of-placed [] bs size h = tt
  of-placed (pa ∷ pas) [] size h = absurd (omega (arith, size))
  of-placed (pa ∷ pas) (b ∷ bs) size h = (h.0, of-placed pas bs (omega (arith, size)) h.1)

  bus-long : (c : Chunk) → length (addresses (chunk_extents c)) ≤ length (bus_addresses c)
  bus-long c = by c.page
    where
      by : (o : Option Pa) → length (addresses (chunk_extents c)) ≤ length (bus_from o c)
      by None = omega arith
      by (Some p) =
          let size = length-run_of p.0 (chunk_len c) in
          let bytes = byte_count_is (chunk_extents c) in
          omega (arith, size, bytes)

  of-chunks : (place : ℕ) (ps : List Placed) (cs : List Chunk) → HasChunks place ps cs →
      AllByRecursion (λ t. P t.pa) ps → AllByRecursion (λ c. AllByRecursion P (addresses (chunk_extents c))) cs
  of-chunks place ps [] has h = tt
  of-chunks place ps (c ∷ cs) has h = (
    of-placed (addresses (chunk_extents c)) (bus_addresses c) (bus-long c)
        (subst (AllByRecursion (λ t. P t.pa)) has.0.here
        (all-take (chunk_len c) (drop (c.at - place) ps) (all-drop (c.at - place) ps h))),
    of-chunks (c.at + chunk_len c) (drop (c.at + chunk_len c - place) ps) cs has.1
        (all-drop (c.at + chunk_len c - place) ps h),
  )

-- extents whose bytes lie in frames of a memory
lies : (m : FrameMemory) (es : List Extent) → AllByRecursion IsExtent es →
    AllByRecursion (λ a. memory_has_frame m (a / 4096) ≡ true) (addresses es) → AllByRecursion (LiesInFrames m) es
lies m [] each h = tt
lies m (e ∷ es) each h = (
  first_of_run (λ a. memory_has_frame m (a / 4096) ≡ true) e.pa.0 e.len (addresses es) each.0.some h,
  lies m es each.1 (all_behind (λ a. memory_has_frame m (a / 4096) ≡ true) (run_of e.pa.0 e.len) (addresses es) h),
)

held-chunks : (m : FrameMemory) (cs : List Chunk) (pages : List FrameBytes) →
    AllZip IsInPage cs (page_addresses pages) →
    AllByRecursion IsOfExtents cs →
    AllByRecursion (λ c. AllByRecursion (λ a. memory_has_frame m (a / 4096) ≡ true) (addresses (chunk_extents c))) cs →
    AllZip (IsPageHeld m) (paged cs) (page_frames pages)
held-chunks m [] [] z each h = tt
held-chunks m [] (p ∷ ps) z each h = absurd z
held-chunks m (c ∷ cs) [] z each h = absurd z
held-chunks m (c ∷ cs) (p ∷ ps) z each h =
    let frame : (bus_extent c).pa.0 / 4096 * 4096 ≡ 4096 * p.frame = z.0.frame in
    let one : IsPageHeld m c p.frame = record {
      buffer = record { extents = each.0; frames = lies m (chunk_extents c) each.0 h.0 };
      bus = z.0.bus;
      page = omega (arith, frame);
    } in
    subst (λ b. AllZip (IsPageHeld m) (cond b (c ∷ paged cs) (paged cs)) (page_frames (p ∷ ps))) (sym z.0.paged)
    (one, held-chunks m cs ps z.1 each.1 h.1)

pub is-bounced : (h : Holdings) (wired : IsWired h) (k : ℕ) (o : KeptMap) (there : get h.maps.map k ≡ Some o)
    (on : has_load (Some o) ≡ true) → IsBounced h.memory.memory o.map.stage
is-bounced h wired k o there on =
    let l : LaneState = ideal_of h in
    let m : FrameMemory = h.memory.memory in
    let x : Loading h wired k o there on = loading h wired k o there on in
    record {
      pages = has-pages h wired k o there on;
      chunks = subst (λ s. AllZip (IsPageHeld m) (paged (held.held_chunks s)) (page_frames (device_in s).pages))
          (sym x.stage)
          (held-chunks m x.bounced x.pages.items x.load.paged x.load.extents
          (of-chunks (λ a. memory_has_frame m (a / 4096) ≡ true) 0 (traces_of l k) x.bounced x.load.chunks
          (all-from (λ t. memory_has_frame m (t.pa / 4096) ≡ true) (traces_of l k) (λ i t at.
          own-frame h wired t.pa ∙ wired.laid.owned t.pa (own-place l wired.laid k i t at)))));
    }
