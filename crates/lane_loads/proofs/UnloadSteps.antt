-- The step of an unload, by what is there, and what it leaves of the map.
use Rattle.std.proofs.Common.{◌≡◌, ℕ, ◌||◌, Bool, true, false, List, [], ◌∷◌, ◌++◌, map, Option, Some, None}
use Rattle.std.proofs.Common.{refl, ap, ◌∙◌, unwrap_or}
use Rattle.std.proofs.lemmas.List.{map-append}
use Rattle.std.specs.FinMap.{get}
use Rattle.std.specs.Option.{option_map}
use Rattle.busdma_base.specs.declared.journals.answer.Answer.TheVariants as answer
use Rattle.busdma_machine.specs.declared.report.ReportName.TheVariants.{Absent, NotLoaded}
use Rattle.busdma_machine.specs.declared.name.MapId.{MapId}
use Rattle.busdma_machine.specs.declared.name.ZoneId.{ZoneId}
use Rattle.busdma_machine.specs.Machine.Page.{FrameBytes}
use Rattle.busdma_machine.specs.Machine.PageList.{RoomyPages, page_addresses}
use Rattle.lane_state.specs.declared.kept.KeptLoad.{KeptLoad}
use Rattle.dma_map.specs.MapView as held
use Rattle.lane_agreement.specs.View.{queued_back}
use Rattle.lane_tables.specs.declared.queued.QueuedPage.{QueuedPage}
use Rattle.lane_tables.specs.Queues.{queued_pages}
use Rattle.ideal_lane.specs.Loads.{emptied, unpaged}
use Rattle.ideal_lane.specs.Outcomes.{gives, is_idle, is_loaded}
use Rattle.ideal_lane.specs.State.{LaneState, LaneMap, Stage, Idle, Waiting, Loaded, Returning}
use Rattle.ideal_lane.specs.Unloads.{unload, loan_forgotten, unmapped, pages_of}
use Rattle.lane_state.specs.Kept.{kept_stage, return_of}

module _ (l : LaneState) (m : ℕ) where
  -- the map is not there, or is not loaded, or is
  pub unload-absent : get l.maps m ≡ None →
      unload m l ≡ gives l (answer.Report (record { name = Absent; at = 0 }))
  unload-absent none = rw none refl

  pub unload-unloaded : (o : LaneMap) → get l.maps m ≡ Some o → is_loaded o.stage ≡ false →
      unload m l ≡ gives l (answer.Report (record { name = NotLoaded; at = 0 }))
  unload-unloaded o there off = rw (there, off) refl

  pub unload-done : (o : LaneMap) → get l.maps m ≡ Some o → is_loaded o.stage ≡ true →
      unload m l ≡ gives (unpaged m o (pages_of o.stage) (loan_forgotten m (unmapped o l))) answer.Done
  unload-done o there on = rw (there, on) refl

-- the pages of a loaded map
pub pages-are : (s : held.HeldStage KeptLoad) (p : RoomyPages) → held.held_pages_of s ≡ Some p →
    pages_of (kept_stage s) ≡ page_addresses p.items
pages-are held.idle p h = absurd (cc)
pages-are (held.waiting load_at callback room) p h = absurd (cc)
pages-are (held.loaded bounced segments pages) p h =
    let same : pages ≡ p = cc in ap (λ (q : RoomyPages). page_addresses q.items) same
pages-are (held.lent bounced segments frames) p h = absurd (cc)
pages-are held.returning p h = absurd (cc)

-- the stage of a map that gave its pages away
pub left-is : (pages : List FrameBytes) →
    kept_stage (held.left_by pages) ≡ emptied (page_addresses pages)
left-is [] = refl
left-is (p ∷ pages) = refl

-- the zone of a map, or 0
pub zone-is : (zone : Option ZoneId) →
    (unwrap_or zone (record { 0 = 0 })).0 ≡ unwrap_or (option_map (λ (z : ZoneId). z.0) zone) 0
zone-is None = refl
zone-is (Some z) = refl

queued-are : (m : MapId) (zone : ZoneId) (pages : List FrameBytes) →
    map return_of (queued_pages m zone pages) ≡ queued_back m.made_at zone.0 (page_addresses pages)
queued-are m zone [] = refl
queued-are m zone (p ∷ pages) =
    ap (λ rs. return_of (record { map = m; zone = zone; page = p }) ∷ rs) (queued-are m zone pages)

-- the return queue with the pages of a map
pub returns-are : (returns : List QueuedPage) (m : MapId) (zone : ZoneId) (pages : List FrameBytes) →
    map return_of (returns ++ queued_pages m zone pages)
    ≡ map return_of returns ++ queued_back m.made_at zone.0 (page_addresses pages)
returns-are returns m zone pages =
    map-append return_of returns (queued_pages m zone pages)
    ∙ ap (λ rs. map return_of returns ++ rs) (queued-are m zone pages)

-- a map that is loaded was tried
pub loaded-tried : (s : Stage) (tried : Bool) → is_loaded s ≡ true → (is_idle s || tried) ≡ true → tried ≡ true
loaded-tried Idle tried on h = absurd (cc)
loaded-tried (Waiting w) tried on h = absurd (cc)
loaded-tried (Loaded bounced segments pages) tried on h = h
loaded-tried Returning tried on h = absurd (cc)
