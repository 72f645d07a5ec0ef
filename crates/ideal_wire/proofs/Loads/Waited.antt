-- What a load that waited asks.
use Rattle.std.proofs.Common.{◌≡◌, ℕ, false, Option, Some, None, is_some, ap, sym}
use Rattle.std.proofs.Common.{◌∙◌, refl, subst}
use Rattle.std.specs.FinMap.{get}
use Rattle.busdma_rules.specs.Segments.Chunks.{chunks_of, need_of}
use Rattle.ideal_lane.specs.Loads.{Asked, asked, limits_of}
use Rattle.ideal_lane.specs.Standing.{Stands}
use Rattle.ideal_lane.specs.State.{LaneState, LaneMemory}
use Rattle.ideal_lane.proofs.TurnLaws.{WaitsAt}
use Rattle.ideal_wire.specs.Laid.{IsAwaited, LiesIn, AreLaid}
use Rattle.ideal_wire.specs.Traces.{stage_in}
use Rattle.ideal_wire.proofs.Loads.Asked.{of-pages, pages-entries}
use Rattle.ideal_wire.proofs.Loads.Bios.{AreOfPages}

module _ (l : LaneState) (stands : Stands l) (laid : AreLaid l) (k z need : ℕ) (w : WaitsAt l k z need) where
  pub waited-lies : IsAwaited l k w.load
  waited-lies = subst (LiesIn l k) (ap stage_in w.found ∙ w.stage) (laid.each k)

  -- what its load asks
  abbrev pub waited-asked : Asked
  waited-asked = asked k w.load.bio false w.load.items l

  -- the map that waited is not a memory's, and its load is of the driver's pages
  pub waited-direct : get l.mems k ≡ None
  waited-direct = by (get l.mems k) refl
    where
      by : (q : Option LaneMemory) → get l.mems k ≡ q → get l.mems k ≡ None
      by None g = g
      by (Some y) g =
          let gone : Some z ≡ None = sym w.zone ∙ (stands.each k w.map w.found).memory (ap is_some g) in absurd (cc)

  pub waited-own : AreOfPages l w.load.bio
  waited-own = of-pages l w.load.bio waited-lies.own

  -- the need of the load is the need of its chunks
  pub waited-need : need ≡ need_of (chunks_of (limits_of l w.map) l.maxmem waited-asked.entries)
  waited-need =
      sym w.counted
      ∙ waited-lies.counted w.map w.found
      ∙ ap (λ es. need_of (chunks_of (limits_of l w.map) l.maxmem es))
      (pages-entries l w.load.bio waited-own)
