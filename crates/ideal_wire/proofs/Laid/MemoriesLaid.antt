-- The loads of a driver stay laid when a memory is made or ends.
use mathlib.Core.Logic.{∥∥₁_map}
use Rattle.std.proofs.Common.{◌≡◌, ◌≢◌, ℕ, Bool, true, false, if◌then◌else◌, Some, None, is_some, refl, ap, sym, ◌∙◌}
use Rattle.std.proofs.Common.{subst, arith, inl, inr, ◌⊎◌, unwrap_or, option_map}
use Rattle.std.proofs.lemmas.Bool.{false≢true}
use Rattle.std.specs.FinMap.{get}
use Rattle.busdma_machine.specs.Bounce.MemoryRuns.{in_run}
use Rattle.busdma_machine.specs.Tags.Tag.{excluded}
use Rattle.busdma_rules.specs.Lending.Loans.{loan_of, no_loan}
use Rattle.ideal_lane.specs.IdealMemory.{Content, Known, Unknown, IdealMemory, joined}
use Rattle.ideal_lane.specs.Loads.{limits_of, no_limits}
use Rattle.ideal_lane.specs.Memories.{with_memory, without_memory}
use Rattle.ideal_lane.specs.Standing.{Stands}
use Rattle.ideal_lane.specs.State.{LaneState, LaneTag, LaneMap, LaneMemory, Idle}
use Rattle.ideal_wire.specs.Apart.{IsApart}
use Rattle.ideal_wire.specs.Laid.{AreLaid, IsOwnByte, HasWholeFrames, LiesIn, OfMemory, OfPages, ReachesMemory}
use Rattle.ideal_wire.specs.Traces.{stage_in, stage_at}
use Rattle.ideal_wire.proofs.Laid.Alike.{alike-lies}
use Rattle.ideal_wire.proofs.Tags.KeptTags.{cut-off, cut-there, put-off, put-there}
use Rattle.ideal_wire.proofs.Laid.Positions.{found_one}
use Rattle.ideal_wire.proofs.Laid.StillLaid.{kept-map, no-loan-in}
use Rattle.ideal_wire.proofs.Faithful.SyncedPositions.{decided}

-- ---- bytes that come and go

joined-there : (chosen : ℕ → Bool) (c : Content) (memory : IdealMemory) (b : ℕ) → is_some (memory b) ≡ true →
    is_some (joined chosen c memory b) ≡ true
joined-there chosen c memory b e = by (chosen b)
  where
    by : (t : Bool) → is_some (if t then Some c else memory b) ≡ true
    by true = refl
    by false = e

joined-chosen : (chosen : ℕ → Bool) (c : Content) (memory : IdealMemory) (b : ℕ) → chosen b ≡ true →
    is_some (joined chosen c memory b) ≡ true
joined-chosen chosen c memory b e = ap (λ t. is_some (if t then Some c else memory b)) e

module _ (l : LaneState) (stands : Stands l) (laid : AreLaid l) where
  -- ---- a memory comes, at the place of the script
  none-there : get l.mems l.place ≡ None
  none-there = stands.no_memory l.place (omega arith)

  none-here : loan_of l.loans l.place ≡ no_loan
  none-here = no-loan-in l laid l.place Idle (ap stage_in (stands.no_map l.place (omega arith))) refl

  module _ (x : LaneMemory) (zero : Bool) (run : HasWholeFrames x) (tag : LaneTag) (tagged : get l.tags x.tag ≡ Some
      tag)
      (reached : (b : ℕ) → in_run x.first x.count b ≡ true → excluded tag.limits b ≡ false) where
    abbrev made : LaneState
    made = with_memory x zero l

    abbrev content : Content
    content = if zero then Known 0 else Unknown

    off-place : (k : ℕ) (y : LaneMemory) → get l.mems k ≡ Some y → k ≢ l.place
    off-place k y there e =
        let gone : None ≡ Some y = sym none-there ∙ ap (get l.mems) (sym e) ∙ there in cc

    made-own : (b : ℕ) → IsOwnByte made b → is_some (made.memory b) ≡ true
    made-own b (OfPages e) = joined-there (in_run x.first x.count) content l.memory b (laid.owned b (OfPages e))
    made-own b (OfMemory k y there h) = by (decided k l.place)
      where
        by : (k ≡ l.place) ⊎ (k ≢ l.place) → is_some (made.memory b) ≡ true
        by (inl e) =
            let same : x ≡ y = found_one (get made.mems l.place) x y (put-there l.mems l.place x)
            (ap (get made.mems) (sym e) ∙ there) in
            joined-chosen (in_run x.first x.count) content l.memory b
            (ap (λ (z : LaneMemory). in_run z.first z.count b) same ∙ h)
        by (inr ne) =
            joined-there (in_run x.first x.count) content l.memory b
            (laid.owned b (OfMemory k y (sym (put-off l.mems l.place k x ne) ∙ there) h))

    still-own : (b : ℕ) → IsOwnByte l b → IsOwnByte made b
    still-own b (OfPages e) = OfPages e
    still-own b (OfMemory k y there h) =
        OfMemory k y (put-off l.mems l.place k x (off-place k y there) ∙ there) h

    made-only : (b : ℕ) (t : Bool) → in_run x.first x.count b ≡ t →
        is_some (if t then Some content else l.memory b) ≡ true →
        ∥ IsOwnByte made b ∥₁
    made-only b true e h = ∣ OfMemory l.place x (put-there l.mems l.place x) e ∣₁
    made-only b false e h = ∥∥₁_map (laid.only b h) (still-own b)

    made-runs : (k : ℕ) (y : LaneMemory) → get made.mems k ≡ Some y → HasWholeFrames y
    made-runs k y there = by (decided k l.place)
      where
        by : (k ≡ l.place) ⊎ (k ≢ l.place) → HasWholeFrames y
        by (inl e) = subst HasWholeFrames (found_one (get made.mems l.place) x y (put-there l.mems l.place x)
            (ap (get made.mems) (sym e) ∙ there)) run
        by (inr ne) = laid.runs k y (sym (put-off l.mems l.place k x ne) ∙ there)

    abbrev new : LaneMap
    new = record { tag = x.tag; zone = None; tried = false; stage = Idle }

    made-reached : (k : ℕ) (y : LaneMemory) (o : LaneMap) → get made.mems k ≡ Some y → get made.maps k ≡ Some o →
        ReachesMemory made y o
    made-reached k y o there found b inside = by (decided k l.place)
      where
        by : (k ≡ l.place) ⊎ (k ≢ l.place) → excluded (limits_of made o) b ≡ false
        by (inl e) =
            let same : x ≡ y = found_one (get made.mems l.place) x y (put-there l.mems l.place x)
            (ap (get made.mems) (sym e) ∙ there) in
            let map : new ≡ o = found_one (get made.maps l.place) new o (put-there l.maps l.place new)
            (ap (get made.maps) (sym e) ∙ found) in
            let limits : limits_of made new ≡ tag.limits =
            ap (λ q. unwrap_or (option_map (λ (g : LaneTag). g.limits) q) no_limits) tagged in
            sym (ap (λ m. excluded (limits_of made m) b) map) ∙ ap (λ t. excluded t b) limits
            ∙ reached b (ap (λ (z : LaneMemory). in_run z.first z.count b) same ∙ inside)
        by (inr ne) =
            laid.reached k y o (sym (put-off l.mems l.place k x ne) ∙ there)
            (sym (put-off l.maps l.place k new ne) ∙ found) b inside

    made-each : (n : ℕ) → LiesIn made n (stage_at made n)
    made-each n = by (decided n l.place)
      where
        by : (n ≡ l.place) ⊎ (n ≢ l.place) → LiesIn made n (stage_at made n)
        by (inl e) =
            subst (λ k. LiesIn made k (stage_at made k)) (sym e)
            (subst (LiesIn made l.place) (sym (ap stage_in (put-there l.maps l.place new))) none-here)
        by (inr ne) =
            alike-lies l made (record { script = refl; pages = refl; maxmem = refl }) n (put-off l.mems l.place n x ne)
            (kept-map l made n (λ k o e. refl) refl (put-off l.maps l.place n new ne)) (laid.each n)

    pub made-laid : AreLaid made
    made-laid = record {
      owned = made-own;
      only = λ b h. made-only b (in_run x.first x.count b) refl h;
      runs = made-runs;
      reached = made-reached;
      each = made-each;
    }

  -- ---- a memory ends, with its map
  module _ (apart : IsApart l) (m : ℕ) (x : LaneMemory) (there : get l.mems m ≡ Some x)
      (none : loan_of l.loans m ≡ no_loan) where
    abbrev after : LaneState
    after = without_memory m x l

    -- a byte of another memory, or of pages, stays
    kept-byte : (b : ℕ) → in_run x.first x.count b ≡ false → is_some (l.memory b) ≡ true →
        is_some (after.memory b) ≡ true
    kept-byte b off e = ap (λ t. is_some (if t then None else l.memory b)) off ∙ e

    not-in : (b : ℕ) → (in_run x.first x.count b ≡ true → ⊥) → in_run x.first x.count b ≡ false
    not-in b never = by (in_run x.first x.count b) refl
      where
        by : (t : Bool) → in_run x.first x.count b ≡ t → in_run x.first x.count b ≡ false
        by true e = absurd (never e)
        by false e = e

    off-map : (k : ℕ) (y : LaneMemory) → get after.mems k ≡ Some y → k ≢ m
    off-map k y f e =
        let gone : None ≡ Some y = sym (cut-there l.mems m) ∙ ap (get after.mems) (sym e) ∙ f in cc

    after-own : (b : ℕ) → IsOwnByte after b → is_some (after.memory b) ≡ true
    after-own b (OfPages e) =
        kept-byte b (not-in b (λ h. false≢true (sym (apart.pages m b x there h) ∙ e))) (laid.owned b (OfPages e))
    after-own b (OfMemory k y f h) =
        let ne : k ≢ m = off-map k y f in
        let had : get l.mems k ≡ Some y = sym (cut-off l.mems m k ne) ∙ f in
        kept-byte b (not-in b (λ g. ne (apart.memories k m b y x had there h g))) (laid.owned b (OfMemory k y had h))

    after-byte : (b : ℕ) → in_run x.first x.count b ≡ false → IsOwnByte l b → IsOwnByte after b
    after-byte b off (OfPages e) = OfPages e
    after-byte b off (OfMemory k y f h) =
        OfMemory k y (cut-off l.mems m k ne ∙ f) h
      where
        ne : k ≢ m
        ne e =
            let same : x ≡ y = found_one (get l.mems m) x y there (ap (get l.mems) (sym e) ∙ f) in
            false≢true (sym off ∙ ap (λ (z : LaneMemory). in_run z.first z.count b) same ∙ h)

    after-only : (b : ℕ) (t : Bool) → in_run x.first x.count b ≡ t → is_some (if t then None else l.memory b) ≡ true →
        ∥ IsOwnByte after b ∥₁
    after-only b true e h = absurd (false≢true h)
    after-only b false e h = ∥∥₁_map (laid.only b h) (after-byte b e)

    after-each : (n : ℕ) → LiesIn after n (stage_at after n)
    after-each n = by (decided n m)
      where
        by : (n ≡ m) ⊎ (n ≢ m) → LiesIn after n (stage_at after n)
        by (inl e) =
            subst (λ k. LiesIn after k (stage_at after k)) (sym e)
            (subst (LiesIn after m) (sym (ap stage_in (cut-there l.maps m))) none)
        by (inr ne) =
            alike-lies l after (record { script = refl; pages = refl; maxmem = refl }) n (cut-off l.mems m n ne)
            (kept-map l after n (λ k o e. refl) refl (cut-off l.maps m n ne)) (laid.each n)

    pub after-laid : AreLaid after
    after-laid = record {
      owned = after-own;
      only = λ b h. after-only b (in_run x.first x.count b) refl h;
      runs = λ k y f. laid.runs k y (sym (cut-off l.mems m k (off-map k y f)) ∙ f);
      reached = λ k y o f found.
          laid.reached k y o (sym (cut-off l.mems m k (off-map k y f)) ∙ f)
          (sym (cut-off l.maps m k (off-map k y f)) ∙ found);
      each = after-each;
    }
