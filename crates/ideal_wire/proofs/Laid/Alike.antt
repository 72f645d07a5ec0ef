-- A map is laid as before if a step leaves its stage, the bytes of its load and what its tag says.
use mathlib.Core.Logic.{∥∥₁_map}
use Rattle.std.proofs.Common.{◌≡◌, ◌≢◌, ℕ, false, List, Option, Some, None, is_some, inl, inr}
use Rattle.std.proofs.Common.{refl, ap, sym, ◌∙◌, subst}
use Rattle.std.specs.FinMap.{get}
use Rattle.busdma_machine.specs.declared.machine.address.Segment.{Segment}
use Rattle.busdma_machine.specs.declared.machine.chunk.Chunk.{Chunk}
use Rattle.busdma_base.specs.Scenarios.PageRuns.{is_own}
use Rattle.busdma_machine.specs.Machine.Spans.{bio_spans}
use Rattle.busdma_machine.specs.Machine.Wire.{buses}
use Rattle.busdma_base.specs.Scenarios.Buffers.{IsBioOf}
use Rattle.busdma_machine.specs.Tags.Tag.{excluded}
use Rattle.busdma_rules.specs.Memory.Bios.{is_rounded}
use Rattle.busdma_rules.specs.declared.position.Position.{Position}
use Rattle.busdma_rules.specs.Lending.Loans.{loan_of, addresses_of}
use Rattle.busdma_rules.specs.Syncs.ChunkTraces.{HasChunks}
use Rattle.busdma_rules.specs.Memory.Vectors.{entries_of}
use Rattle.busdma_rules.specs.Segments.Chunks.{chunks_of, need_of}
use Rattle.ideal_lane.specs.Loads.{is_coherent, limits_of}
use Rattle.ideal_lane.specs.Outcomes.{is_loaded}
use Rattle.ideal_lane.specs.State.{LaneState, LaneMap, LaneMemory, Stage, Idle, Waiting, Loaded, Returning}
use Rattle.ideal_lane.specs.State.{WaitingLoad}
use Rattle.ideal_lane.specs.Syncs.{bounced_in}
use Rattle.ideal_wire.specs.Centre.{IsAt}
use Rattle.ideal_wire.specs.Laid.{AreFirst, is_loadable, IsLaid, IsAwaited, LiesIn, IsOwnByte, OfPages, OfMemory}
use Rattle.ideal_wire.specs.Laid.{AreLaid}
use Rattle.ideal_wire.specs.Laid.{AreInPages, in_pages, is_behind}
use Rattle.ideal_wire.specs.Traces.{stage_at, placed_from, traces_of}
use Rattle.ideal_wire.proofs.Laid.Positions.{twin_of}
use Rattle.ideal_wire.proofs.Faithful.SyncedPositions.{decided}

-- what no step changes: the script, the pages and the end of memory
pub record KeepsScript (l l' : LaneState) : Type 0 where
  pub script : l'.script ≡ l.script
  pub pages : l'.pages ≡ l.pages
  pub maxmem : l'.maxmem ≡ l.maxmem

-- what a step leaves of all maps: the script, the pages, the end of memory, which bytes are the driver's own, and its
-- memories
pub record KeepsRest (l l' : LaneState) : Type 0 where
  pub script : l'.script ≡ l.script
  pub pages : l'.pages ≡ l.pages
  pub maxmem : l'.maxmem ≡ l.maxmem
  pub own : (a : ℕ) → is_some (l'.memory a) ≡ is_some (l.memory a)
  pub mems : l'.mems ≡ l.mems

-- what the tag of a map says is unchanged
abbrev pub KeepsLimits : LaneState → LaneState → ℕ → Type 0
KeepsLimits l l' n = (o' : LaneMap) → get l'.maps n ≡ Some o' →
    (o : LaneMap) × (get l.maps n ≡ Some o) × (limits_of l' o' ≡ limits_of l o)

-- what is unchanged of a map: its stage, the bytes of its load, and what its tag says of limits and device
pub record IsAlike (l l' : LaneState) (n : ℕ) : Type 0 where
  pub stage : stage_at l' n ≡ stage_at l n
  pub coherent : (loan_of l'.loans n).coherent ≡ (loan_of l.loans n).coherent
  pub bytes : addresses_of (loan_of l'.loans n).positions ≡ addresses_of (loan_of l.loans n).positions
  pub unlent : is_loaded (stage_at l n) ≡ false → loan_of l'.loans n ≡ loan_of l.loans n
  pub limits : KeepsLimits l l' n
  pub device : is_behind l' n ≡ is_behind l n

module _ (l l' : LaneState) (kept : KeepsScript l l') where
  pub loadable-alike : (o : Option LaneMemory) (a : ℕ) → is_loadable o l' a ≡ is_loadable o l a
  loadable-alike None a = ap (λ p. is_own p a) kept.pages
  loadable-alike (Some x) a = refl

  module _ (n : ℕ) (memory : get l'.mems n ≡ get l.mems n) (alike : IsAlike l l' n) where
    traces-alike : traces_of l' n ≡ traces_of l n
    traces-alike = λ i. placed_from (bounced_in (alike.stage i)) 0 (alike.bytes i)

    was-at : (i : ℕ) (p : Position) → IsAt l'.loans n i p → (q : Position) × IsAt l.loans n i q × (p.pa ≡ q.pa)
    was-at i p at =
        let t = twin_of (λ (p : Position). p.pa) (λ (p : Position). p.pa) (loan_of l'.loans n).positions
        (loan_of l.loans n).positions alike.bytes i p at in
        (t.twin, t.found, t.same)

    loaded-alike : (cs : List Chunk) (ss : List Segment) (ps : List ℕ) → IsLaid l n cs ss ps → IsLaid l' n cs ss ps
    loaded-alike cs ss ps h = record {
      coherent = alike.coherent ∙ h.coherent ∙ sym (ap is_coherent memory);
      bytes = λ i p at. let w = was-at i p at in
          loadable-alike (get l'.mems n) p.pa ∙ (λ j. is_loadable (memory j) l (w.2 j))
          ∙ h.bytes i w.0 w.1;
      first = λ x there. subst (AreFirst x) (sym alike.bytes) (h.first x (sym memory ∙ there));
      direct = λ some. h.direct (sym (ap is_some memory) ∙ some);
      paged = h.paged;
      extents = h.extents;
      chunks = subst (λ ts. HasChunks 0 ts cs) (sym traces-alike) h.chunks;
      trace = λ plain. h.trace (sym alike.device ∙ plain) ∙ ap buses (sym traces-alike);
    }

    awaited-alike : (w : WaitingLoad) → loan_of l'.loans n ≡ loan_of l.loans n → IsAwaited l n w → IsAwaited l' n w
    awaited-alike w same h = record {
      unlent = same ∙ h.unlent;
      some = h.some;
      named = subst (λ p. IsBioOf p w.bio) (sym kept.pages) h.named;
      own = subst (λ p. AreInPages p w.bio) (sym kept.pages) h.own;
      counted = λ o' e. let v = alike.limits o' e in
          h.counted v.0 v.1
          ∙ sym (λ i. need_of (chunks_of (v.2 i) (kept.maxmem i)
          (entries_of (is_rounded w.bio) (in_pages (kept.pages i) w.bio) (bio_spans w.bio))));
      told = λ s same. h.told s (same ∙ kept.script);
    }

    pub alike-lies : LiesIn l n (stage_at l n) → LiesIn l' n (stage_at l' n)
    alike-lies h = subst (LiesIn l' n) (sym alike.stage) (by (stage_at l n) alike.unlent h)
      where
        by : (s : Stage) → (is_loaded s ≡ false → loan_of l'.loans n ≡ loan_of l.loans n) → LiesIn l n s →
            LiesIn l' n s
        by Idle same h = same refl ∙ h
        by (Waiting w) same h = awaited-alike w (same refl) h
        by (Loaded cs ss ps) same h = loaded-alike cs ss ps h
        by Returning same h = same refl ∙ h

module _ (l l' : LaneState) (kept : KeepsRest l l') where
  abbrev pub kept-script : KeepsScript l l'
  kept-script = record { script = kept.script; pages = kept.pages; maxmem = kept.maxmem }

  own-back : (a : ℕ) → IsOwnByte l' a → IsOwnByte l a
  own-back a (OfPages e) = OfPages (sym (ap (λ p. is_own p a) kept.pages) ∙ e)
  own-back a (OfMemory k x there e) = OfMemory k x (sym (λ i. get (kept.mems i) k) ∙ there) e

  own-on : (a : ℕ) → IsOwnByte l a → IsOwnByte l' a
  own-on a (OfPages e) = OfPages (ap (λ p. is_own p a) kept.pages ∙ e)
  own-on a (OfMemory k x there e) = OfMemory k x ((λ i. get (kept.mems i) k) ∙ there) e

  -- the loads are laid if each map is laid and what the tags of memories' maps say is unchanged
  pub all-laid : AreLaid l → ((n : ℕ) (x : LaneMemory) → get l.mems n ≡ Some x → KeepsLimits l l' n) →
      ((n : ℕ) → LiesIn l' n (stage_at l' n)) → AreLaid l'
  all-laid laid limits each = record {
    owned = λ a own. kept.own a ∙ laid.owned a (own-back a own);
    only = λ a there. ∥∥₁_map (laid.only a (sym (kept.own a) ∙ there)) (own-on a);
    runs = λ k x there. laid.runs k x (sym (λ i. get (kept.mems i) k) ∙ there);
    reached = λ k x o' there at a inside.
        let had : get l.mems k ≡ Some x = sym (λ i. get (kept.mems i) k) ∙ there in
        let w = limits k x had o' at in
        ap (λ t. excluded t a) w.2 ∙ laid.reached k x w.0 had w.1 a inside;
    each = each;
  }

  -- the loads are laid if all maps but one are laid as before
  pub one-changed : AreLaid l → (m : ℕ) → ((n : ℕ) → n ≢ m → IsAlike l l' n) →
      ((x : LaneMemory) → get l.mems m ≡ Some x → KeepsLimits l l' m) → LiesIn l' m (stage_at l' m) → AreLaid l'
  one-changed laid m others own here = all-laid laid limits by
    where
      limits : (n : ℕ) (x : LaneMemory) → get l.mems n ≡ Some x → KeepsLimits l l' n
      limits n x there = elim (decided n m) as (λ _. KeepsLimits l l' n) [
        | inl e ↦ subst (KeepsLimits l l') (sym e) (own x (ap (get l.mems) (sym e) ∙ there))
        | inr ne ↦ (others n ne).limits
      ]

      by : (n : ℕ) → LiesIn l' n (stage_at l' n)
      by n = elim (decided n m) as (λ _. LiesIn l' n (stage_at l' n)) [
        | inl e ↦ subst (λ k. LiesIn l' k (stage_at l' k)) (sym e) here
        | inr ne ↦ alike-lies l l' kept-script n (λ i. get (kept.mems i) n) (others n ne) (laid.each n)
      ]

  pub none-changed : AreLaid l → ((n : ℕ) → IsAlike l l' n) → AreLaid l'
  none-changed laid all =
      all-laid laid (λ n x there. (all n).limits)
      (λ n. alike-lies l l' kept-script n (λ i. get (kept.mems i) n) (all n) (laid.each n))
