-- The segments of a load of a memory's own map are the memory's first bytes, in order, and obey the map's tag.
use Rattle.std.proofs.Common.{◌≡◌, ℕ, zero, suc, ◌+◌, ◌*◌, ◌<◌, ◌≤◌, Bool, true, false, if◌then◌else◌, List, []}
use Rattle.std.proofs.Common.{length, Some, refl, ap, sym, ◌∙◌, subst, arith, nat_le, inl, inr}
use Rattle.std.proofs.Common.{◌⊎◌}
use Rattle.std.proofs.lemmas.Bool.{cases_lt, leb-true}
use Rattle.std.proofs.Common.{map}
use Rattle.std.specs.FinMap.{get}
use Rattle.std.specs.List.{AllByRecursion, flat_map}
use Rattle.busdma_base.specs.declared.journals.answer.Answer.TheVariants as answer
use Rattle.busdma_machine.specs.declared.report.Errno.TheVariants.{EFBIG}
use Rattle.busdma_machine.specs.declared.report.Judged.TheVariants.{Fine}
use Rattle.busdma_machine.specs.declared.machine.address.Segment.{Segment}
use Rattle.busdma_machine.specs.declared.machine.bio.Bio.{Bio}
use Rattle.busdma_machine.specs.declared.machine.chunk.Chunk.{Chunk}
use Rattle.busdma_base.specs.declared.scenarios.script.Item.{Item}
use Rattle.busdma_machine.specs.declared.tags.tag.TagLimits.{TagLimits}
use Rattle.busdma_machine.specs.Bounce.AccountStep.{as_pages}
use Rattle.busdma_machine.specs.Machine.Entry.{entries_addresses, entry_addresses}
use Rattle.busdma_machine.specs.Machine.Wire.{buffers}
use Rattle.busdma_machine.specs.Runs.{run_of}
use Rattle.busdma_machine.specs.Tags.Tag.{IsEffective, excluded}
use Rattle.busdma_rules.specs.Segments.Building.{tag_placed, placed_pieces}
use Rattle.busdma_rules.specs.Segments.Chunks.{bounced_of, chunks_of}
use Rattle.busdma_rules.specs.Segments.Obeying.{Obeys}
use Rattle.busdma_rules.specs.Segments.Segmentation.{segmentation}
use Rattle.busdma_rules.proofs.Segments.Cuts.{cut_is}
use Rattle.busdma_rules.proofs.Segments.Obeys as obeying
use Rattle.ideal_lane.specs.Loads.{Asked, asked, chunks_for, finished, limits_of, load_judged, one_entry, unpaged}
use Rattle.ideal_lane.specs.Outcomes.{Outcome}
use Rattle.ideal_lane.specs.Standing.{Stands}
use Rattle.ideal_lane.specs.State.{LaneState, LaneMap, LaneMemory}
use Rattle.ideal_wire.specs.Accepted.{IfSegments, IsAcceptedLoad}
use Rattle.ideal_wire.specs.Laid.{is_loadable, AreLaid}
use Rattle.ideal_wire.specs.Machine.{IsInMachine}
use Rattle.ideal_wire.proofs.Obeys.AcceptedLaws.{fits, flat-entries, limits-effective, segments, trace-is, traces-are}
use Rattle.ideal_wire.proofs.Loads.Asked.{all-of}
use Rattle.ideal_wire.proofs.Faithful.Buses.{placed-buffers}
use Rattle.ideal_wire.proofs.Laid.LoadLaid.{IsReady}
use Rattle.ideal_wire.proofs.Obeys.MemoryChunks.{IsUnbounced, chunks-alike, needs-none}
use Rattle.ideal_wire.proofs.Loads.MemoryLoads.{memory-bytes, memory-entries, memory-ready, one-bytes, unaligned}
use Rattle.ideal_wire.proofs.Faithful.PlacedLoads.{loadable-own}
use Rattle.ideal_wire.proofs.Loads.Reaching.{byte-below}

-- what holds of each number of a run holds of one that is among them
in-run : (P : ℕ → Type 0) (first n : ℕ) → AllByRecursion P (run_of first n) → (a : ℕ) → first ≤ a → a < first + n → P a
in-run P first zero all a low high = absurd (omega (arith, low, high))
in-run P first (suc n) all a low high = by (cases_lt first a) (in-run P (first + 1) n all.1 a)
  where
    by : (first < a) ⊎ (a ≤ first) → (first + 1 ≤ a → a < first + 1 + n → P a) → P a
    by (inl lt) rest = rest (omega (arith, lt)) (omega (arith, high))
    by (inr le) rest = let same : first ≡ a = omega (arith, le, low) in subst P same all.0

module _ (l : LaneState) (laid : AreLaid l) (machine : IsInMachine l) (stands : Stands l) (m : ℕ) (o : LaneMap)
    (there : get l.maps m ≡ Some o) (y : LaneMemory) (memory : get l.mems m ≡ Some y) (b : Bio) (load_at : ℕ)
    (no_wait : Bool) (items : List Item) (fine : load_judged l m b ≡ Fine) where
  abbrev x : Asked
  x = asked m b no_wait items l

  abbrev t : TagLimits
  t = limits_of l o

  eff : IsEffective t
  eff = limits-effective l machine stands m o there

  abbrev pub memory-chunks : List Chunk
  memory-chunks = chunks_for l o true x.entries

  ready : IsReady l m t x.entries memory-chunks []
  ready = memory-ready l laid machine stands m o there y memory b fine

  are-bytes : entries_addresses x.entries ≡ run_of y.first x.len
  are-bytes = memory-bytes l laid machine stands m o there y memory b fine

  one-are : entries_addresses (one_entry x.entries) ≡ run_of y.first x.len
  one-are = one-bytes l laid machine stands m o there y memory b fine ∙ are-bytes

  -- each byte is one of the memory's frames
  inside : AllByRecursion (λ a. is_loadable (Some y) l a ≡ true) (run_of y.first x.len)
  inside =
      subst (λ q. AllByRecursion (λ a. is_loadable q l a ≡ true) (run_of y.first x.len)) memory
      (subst (AllByRecursion (λ a. is_loadable (get l.mems m) l a ≡ true)) are-bytes ready.loadable)

  -- the device reaches each of these bytes
  unbounced : IsUnbounced t (record t { alignment = 1 }) l.maxmem 0 y.first x.len
  unbounced a low high whole =
      let own = in-run (λ a. is_loadable (Some y) l a ≡ true) y.first x.len inside a low high in
      let reached : excluded t a ≡ false = laid.reached m y o memory there a own in (
        needs-none t eff l.maxmem a reached whole,
        needs-none (record t { alignment = 1 }) (unaligned t eff) 0 a reached whole,
      )

  -- the chunks of the load are those of the tag
  tag-chunks : chunks_of t l.maxmem (one_entry x.entries) ≡ memory-chunks
  tag-chunks =
      chunks-alike t (record t { alignment = 1 }) l.maxmem 0 (entries_addresses x.entries) y.first x.len one-are
      (laid.runs m y memory).whole unbounced

  below : AllByRecursion (λ a. a < 4096 * l.maxmem) (flat_map entry_addresses (one_entry x.entries))
  below =
      subst (AllByRecursion (λ a. a < 4096 * l.maxmem)) (sym (flat-entries (one_entry x.entries) ∙ one-are))
      (all-of (λ a. is_loadable (Some y) l a ≡ true) (λ a. a < 4096 * l.maxmem)
      (λ a h. byte-below l laid machine a
      (loadable-own l laid m a (ap (λ q. is_loadable q l a) memory ∙ h))) (run_of y.first x.len) inside)

  abbrev ss : List Segment
  ss = segments l m o load_at x memory-chunks []

  obeys : nat_le (length ss) t.nsegments ≡ true → Obeys t (tag_placed t memory-chunks (as_pages [])) ss
  obeys few =
      subst (λ cs. Obeys t (tag_placed t cs (as_pages [])) (segmentation t (placed_pieces t cs (as_pages []))))
      tag-chunks
      (obeying.obeys t l.maxmem (one_entry x.entries) (as_pages [])
      (segmentation t (placed_pieces t (chunks_of t l.maxmem (one_entry x.entries)) (as_pages []))) eff
      (memory-entries l laid machine stands m o there y memory b fine) below tt (
        cut_is t (placed_pieces t (chunks_of t l.maxmem (one_entry x.entries)) (as_pages [])),
        subst (λ cs. length (segmentation t (placed_pieces t cs (as_pages []))) ≤ t.nsegments) (sym tag-chunks)
            (leb-true (length ss) t.nsegments few),
      ))

  pub memory-accepted : nat_le (length ss) t.nsegments ≡ true →
      IsAcceptedLoad (fits l m o load_at x memory-chunks []) m (λ a. Some a) t (run_of y.first x.len) memory-chunks
      [] ss
  memory-accepted few = record {
    buffer =
        ap buffers (traces-are l m o load_at x memory-chunks [])
        ∙ placed-buffers (bounced_of (tag_placed t memory-chunks (as_pages []))) 0 (entries_addresses x.entries)
        ∙ are-bytes;
    trace =
        ap (map (λ a. Some a)) (trace-is l m o load_at x memory-chunks [] ready.some ready.are ready.follow
        ready.bytes);
    obeys = obeys few;
  }

  pub memory-finished : IfSegments (finished m o load_at x memory-chunks [] l).answer
      (IsAcceptedLoad (finished m o load_at x memory-chunks [] l).lane m (λ a. Some a) t (run_of y.first x.len)
      memory-chunks [])
  memory-finished = by (nat_le (length ss) t.nsegments) refl
    where
      end : Bool → Outcome
      end c = if c then record { lane = fits l m o load_at x memory-chunks []; answer = answer.Segments ss }
          else record { lane = unpaged m o [] l; answer = answer.Refused EFBIG }

      by : (c : Bool) → nat_le (length ss) t.nsegments ≡ c →
          IfSegments (end c).answer (IsAcceptedLoad (end c).lane m (λ a. Some a) t (run_of y.first x.len)
          memory-chunks [])
      by true few = memory-accepted few
      by false many = tt
