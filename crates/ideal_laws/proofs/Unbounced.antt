-- No byte of a load of an IOMMU tag's map is bounced.
use Rattle.std.proofs.Common.{◌≡◌, ℕ, zero, suc, ◌+◌, Bool, true, false, ◌||◌, ◌&&◌, not, List, [], ◌∷◌, take, drop}
use Rattle.std.proofs.Common.{if◌then◌else◌, map, None, Some, refl, sym, ap, ◌∙◌, subst, eq-eqb}
use Rattle.std.specs.FinMap.{get}
use Rattle.std.specs.List.{AllByRecursion, AllZip, filter, list_any}
use Rattle.std.specs.Option.{option_map_or}
use Rattle.busdma_machine.specs.declared.machine.chunk.Chunk.{Chunk}
use Rattle.busdma_machine.specs.Machine.Wire.{Placed, Wire, buffers, buses, copied_in, copied_out, is_bounced, put}
use Rattle.busdma_machine.specs.Machine.Wire.{stretch}
use Rattle.busdma_rules.specs.Lending.Loans.{addresses_of, loan_of}
use Rattle.busdma_rules.specs.Tags.SyncOps.{prewrite, postread}
use Rattle.ideal_lane.specs.Loads.{is_device}
use Rattle.ideal_lane.specs.Standing.{IsPageless, Stands, StandsAt}
use Rattle.ideal_lane.specs.State.{LaneState, LaneMap, LaneTag, Stage, Idle, Waiting, Loaded, Returning}
use Rattle.ideal_lane.specs.Syncs.{bounced_in, copies, has_byte_of}
use Rattle.ideal_wire.specs.Laid.{AreLaid, IsInPage, LiesIn}
use Rattle.ideal_wire.specs.Traces.{placed_from, stage_at, stage_in, traces_of}
use Rattle.ideal_wire.specs.WireStep.{wire_synced}

no-chunk : (cs : List Chunk) (pages : List ℕ) → AllZip IsInPage cs pages → pages ≡ [] → cs ≡ []
no-chunk [] pages paged none = refl
no-chunk (c ∷ cs) [] paged none = absurd paged
no-chunk (c ∷ cs) (p ∷ ps) paged none = absurd (cc)

-- ---- positions of which none is bounced
abbrev AreOwn : List Placed → Type 0
AreOwn ps = AllByRecursion (λ p. is_bounced p ≡ false) ps

own-trace : (at : ℕ) (pas : List ℕ) → AreOwn (placed_from [] at pas)
own-trace at [] = tt
own-trace at (pa ∷ pas) = (ap not (eq-eqb pa pa refl), own-trace (at + 1) pas)

own-drop : (n : ℕ) (ps : List Placed) → AreOwn ps → AreOwn (drop n ps)
own-drop zero ps h = h
own-drop (suc n) [] h = tt
own-drop (suc n) (p ∷ ps) h = own-drop n ps h.1

own-take : (n : ℕ) (ps : List Placed) → AreOwn ps → AreOwn (take n ps)
own-take zero ps h = tt
own-take (suc n) [] h = tt
own-take (suc n) (p ∷ ps) h = (h.0, own-take n ps h.1)

none-bounced : (ps : List Placed) → AreOwn ps → filter is_bounced ps ≡ []
none-bounced [] h = refl
none-bounced (p ∷ ps) h = rw h.0 (none-bounced ps h.1)

-- a sync of such positions copies nothing
in-stays : (ps : List Placed) (w : Wire) → filter is_bounced ps ≡ [] → copied_in ps w ≡ w
in-stays ps w e = ap (λ qs. put (buses qs) (map w (buffers qs)) w) e

out-stays : (ps : List Placed) (w : Wire) → filter is_bounced ps ≡ [] → copied_out ps w ≡ w
out-stays ps w e = ap (λ qs. put (buffers qs) (map w (buses qs)) w) e

module _ (l : LaneState) (stands : Stands l) (laid : AreLaid l) (m : ℕ) (o : LaneMap) (there : get l.maps m ≡ Some o)
    (device : is_device l o ≡ true) where
  no-bounce : bounced_in o.stage ≡ []
  no-bounce = by o.stage (st.pageless zone) (subst (λ q. LiesIn l m (stage_in q)) there (laid.each m))
    where
      st : StandsAt l.maxmem l.tags l.mems m o
      st = stands.each m o there

      zone : o.zone ≡ None
      zone = st.device (sym (ap (λ q. option_map_or (λ (t : LaneTag). t.device) q false) st.there) ∙ device)

      by : (s : Stage) → IsPageless s → LiesIn l m s → bounced_in s ≡ []
      by Idle none lies = refl
      by (Waiting w) none lies = refl
      by (Loaded bounced segments pages) none lies = no-chunk bounced pages lies.paged none
      by Returning none lies = refl

  pub unbounced : bounced_in (stage_at l m) ≡ []
  unbounced = ap (λ q. bounced_in (stage_in q)) there ∙ no-bounce

  none-copied : (off len : ℕ) → filter is_bounced (stretch off len (traces_of l m)) ≡ []
  none-copied off len =
      ap (λ cs. filter is_bounced (stretch off len (placed_from cs 0 addresses))) unbounced
      ∙ none-bounced (stretch off len own) (own-take len (drop off own) (own-drop off own (own-trace 0 addresses)))
    where
      addresses : List ℕ
      addresses = addresses_of (loan_of l.loans m).positions

      own : List Placed
      own = placed_from [] 0 addresses

  pub synced-stays : (off len ops : ℕ) (w : Wire) → wire_synced m off len ops l w ≡ w
  synced-stays off len ops w = by (loan_of l.loans m).coherent (prewrite ops) (postread ops)
    where
      by : (c p q : Bool) → (if c then w else if p then copied_in (stretch off len (traces_of l m)) w
          else if q then copied_out (stretch off len (traces_of l m)) w else w) ≡ w
      by true p q = refl
      by false true q = in-stays (stretch off len (traces_of l m)) w (none-copied off len)
      by false false true = out-stays (stretch off len (traces_of l m)) w (none-copied off len)
      by false false false = refl

  pub none-counted : (off len ops : ℕ) → copies off len ops o.stage ≡ false
  none-counted off len ops =
      ap (λ cs. (prewrite ops || postread ops) && list_any (has_byte_of off len) cs) no-bounce
      ∙ by (prewrite ops || postread ops)
    where
      by : (b : Bool) → (b && false) ≡ false
      by true = refl
      by false = refl
