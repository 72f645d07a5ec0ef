-- Bounce pages, the frames of the driver's pages and the frames of its memories are apart, if driver and account agree.
use mathlib.Core.Logic.{∥∥₁_elim}
use Rattle.std.proofs.Common.{◌≡◌, ◌≢◌, ℕ, zero, suc, ◌+◌, ◌*◌, ◌/◌, ◌%◌, ◌<◌, ◌≤◌, ◌==◌, ◌&&◌, Bool, true, false}
use Rattle.std.proofs.Common.{cond, List, [], ◌∷◌, ◌++◌, Option, Some, None, slice_get, refl, ap, sym, ◌∙◌}
use Rattle.std.proofs.Common.{subst, arith, nat_le, nat_lt, ◌⊎◌, inl, inr, ◌||◌}
use Rattle.std.proofs.lemmas.Bool.{and_parts, false≢true, leb-true, ltb-true, le-leb, lt-ltb, eqb-true, eq-eqb}
use Rattle.std.proofs.lemmas.Bool.Decides.{eqb_tells}
use Rattle.std.proofs.lemmas.List.Sums.{sum_by-cons}
use Rattle.std.specs.Prelude.{count_by, sum_by, is_some}
use Rattle.std.specs.FinMap.{get}
use Rattle.std.specs.List.{AllZip}
use Rattle.busdma_machine.specs.declared.machine.chunk.Chunk.{Chunk}
use Rattle.busdma_machine.specs.declared.machine.address.Segment.{Segment}
use Rattle.busdma_machine.specs.declared.name.MapId.{MapId}
use Rattle.busdma_base.specs.declared.scenarios.scenario.PageRun.{PageRun}
use Rattle.busdma_machine.specs.Bounce.Account.{Account, Held, Memory, same_map}
use Rattle.busdma_machine.specs.Bounce.Conditions.{times_held}
use Rattle.busdma_machine.specs.Bounce.MemoryRuns.{frames_from, frames_of, in_run}
use Rattle.busdma_machine.specs.Bounce.Places.{times, times_lent}
use Rattle.busdma_machine.specs.Bounce.Serving.{is_holding}
use Rattle.busdma_base.specs.Scenarios.PageRuns.{is_own}
use Rattle.busdma_machine.proofs.Accounts.EditedSums.{count_by-append}
use Rattle.busdma_machine.proofs.Accounts.Names.{same_map-same}
use Rattle.busdma_rules.specs.Segments.Trace.{bus_extent}
use Rattle.lane_agreement.specs.OwnShare.{share_if, loaded_page}
use Rattle.lane_agreement.specs.View as view
use Rattle.lane_agreement.proofs.Own.{count-one, count-like}
use Rattle.ideal_lane.specs.Agreement.{AgreesWith}
use Rattle.ideal_lane.specs.Standing.{IsPageless, Stands}
use Rattle.ideal_lane.specs.State.{LaneState, LaneMap, LaneMemory, Stage, named}
use Rattle.ideal_lane.specs.State.{Idle, Waiting, Loaded, Returning}
use Rattle.ideal_lane.specs.Unloads.{pages_of}
use Rattle.ideal_lane.specs.View.{own_map, own_frames, in_zone, stage_of}
use Rattle.ideal_wire.specs.Apart.{HoldsPage, IsApart}
use Rattle.ideal_wire.specs.Laid.{IsInPage, IsLaid, LiesIn, IsOwnByte, OfPages, OfMemory, HasWholeFrames, AreLaid}
use Rattle.ideal_wire.specs.Traces.{stage_in, stage_at}
use Rattle.ideal_wire.proofs.Faithful.Lent.{counted_two}
use Rattle.ideal_wire.proofs.Laid.Positions.{found_one}
use Rattle.ideal_wire.proofs.Faithful.SyncedPositions.{decided}

-- ---- counts

-- elements that pass one of two tests, of which none passes both, are no more than those that pass a third
count-two : {X : Type 0} (p q r : X → Bool) (xs : List X) → ((x : X) → p x ≡ true → r x ≡ true) →
    ((x : X) → q x ≡ true → r x ≡ true) → ((x : X) → p x ≡ true → q x ≡ true → ⊥) →
    count_by p xs + count_by q xs ≤ count_by r xs
count-two p q r [] first second apart = omega arith
count-two p q r (x ∷ xs) first second apart =
    omega (
      arith,
      count-two p q r xs first second apart,
      count-one p x xs,
      count-one q x xs,
      count-one r x xs,
      one (p x) (q x) (r x) refl refl refl,
    )
  where
    one : (u v s : Bool) → p x ≡ u → q x ≡ v → r x ≡ s → share_if u + share_if v ≤ share_if s
    one true true s e f g = absurd (apart x e f)
    one true false true e f g = omega arith
    one true false false e f g = absurd (false≢true (sym g ∙ first x e))
    one false true true e f g = omega arith
    one false true false e f g = absurd (false≢true (sym g ∙ second x f))
    one false false s e f g = omega arith

name-alike : (m n k : MapId) → same_map m k ≡ true → same_map n k ≡ true → m ≡ n
name-alike m n k e f = same_map-same m k e ∙ sym (same_map-same n k f)

-- two maps hold a page no more often than all do
pub lent-two : (m n : MapId) (y z p : ℕ) (a : Account) → m ≢ n →
    times_held m y p a + times_held n z p a ≤ times_lent p a
lent-two m n y z p a ne =
    count-two (is_holding m y p) (is_holding n z p) (λ h. h.page == p) a.held
    (λ h e. (and_parts (h.page == p) _ e).0) (λ h e. (and_parts (h.page == p) _ e).0)
    (λ h e f. ne (name-alike m n h.map (name m y h e) (name n z h f)))
  where
    name : (k : MapId) (x : ℕ) (h : Held) → is_holding k x p h ≡ true → same_map k h.map ≡ true
    name k x h e =
        (and_parts (h.zone == x) (same_map k h.map)
        (and_parts (h.page == p) ((h.zone == x) && same_map k h.map) e).1).1

-- two memories have a frame no more often than all do
pub mems-two : (m n : MapId) (f : ℕ) (xs : List Memory) → m ≢ n →
    times f (frames_of m xs) + times f (frames_of n xs) ≤ sum_by (λ x. times f x.frames) xs
mems-two m n f [] ne = omega arith
mems-two m n f (x ∷ xs) ne =
    by (same_map m x.mem) (same_map n x.mem) refl refl (mems-two m n f xs ne)
    (sum_by-cons (λ (y : Memory). times f y.frames) x xs)
  where
    joined : (k : MapId) → times f (x.frames ++ frames_of k xs) ≡ times f x.frames + times f (frames_of k xs)
    joined k = count_by-append (λ g. g == f) x.frames (frames_of k xs)

    by : (u v : Bool) → same_map m x.mem ≡ u → same_map n x.mem ≡ v →
        times f (frames_of m xs) + times f (frames_of n xs) ≤ sum_by (λ y. times f y.frames) xs →
        sum_by (λ y. times f y.frames) (x ∷ xs) ≡ times f x.frames + sum_by (λ y. times f y.frames) xs →
        times f (cond u (x.frames ++ frames_of m xs) (frames_of m xs))
        + times f (cond v (x.frames ++ frames_of n xs) (frames_of n xs)) ≤ sum_by (λ y. times f y.frames) (x ∷ xs)
    by true true e g rest all = absurd (ne (name-alike m n x.mem e g))
    by true false e g rest all = omega (arith, rest, all, joined m)
    by false true e g rest all = omega (arith, rest, all, joined n)
    by false false e g rest all = omega (arith, rest, all)

-- another name of the same driver
abbrev pub next : MapId → MapId
next m = record { lane = m.lane; made_at = suc m.made_at }

pub off-next : (m : MapId) → m ≢ next m
off-next m e = absurd (omega (arith, ap (λ (k : MapId). k.made_at) e))

-- what a driver made at two places has two names
off-named : (l : LaneState) (m n : ℕ) → m ≢ n → named l m ≢ named l n
off-named l m n ne e = ne (ap (λ (k : MapId). k.made_at) e)

-- ---- frames

-- the frame of a byte
abbrev pub frame_of : ℕ → ℕ
frame_of a = a / 4096 * 4096

-- a frame of complete frames that follow one another is among them
frame-in : (n first f : ℕ) → first % 4096 ≡ 0 → f % 4096 ≡ 0 → first ≤ f → f < first + 4096 * n →
    1 ≤ times f (frames_from n first)
frame-in zero first f whole w low high = absurd (omega (arith, low, high))
frame-in (suc n) first f whole w low high =
    elim (eqb_tells first f) as (λ _. 1 ≤ times f (first ∷ frames_from n (first + 4096))) [
      | inl h ↦ let t = h.0 in omega (
        arith,
        count-one (λ g. g == f) first (frames_from n (first + 4096)),
        ap share_if t,
      )
      | inr h ↦
          let ne : first ≢ f = h.1 in
          let more : first + 4096 ≤ f = beyond ne in
          let there : (first + 4096) % 4096 ≡ 0 = omega (arith, whole) in
          let rest = frame-in n (first + 4096) f there w more (omega (arith, high)) in
          omega (arith, rest, count-one (λ g. g == f) first (frames_from n (first + 4096)))
    ]
  where
    beyond : first ≢ f → first + 4096 ≤ f
    beyond ne = elim (Rattle.std.proofs.lemmas.Bool.cases_lt f (first + 4096)) as (λ _. first + 4096 ≤ f) [
      | inl lt ↦ let same : first ≡ f = omega (arith, whole, w, low, lt) in absurd (ne same)
      | inr le ↦ le
    ]

-- the frame of a byte of complete frames is among them
pub run-frame : (n first a : ℕ) → first % 4096 ≡ 0 → in_run first n a ≡ true →
    1 ≤ times (frame_of a) (frames_from n first)
run-frame n first a whole h =
    let parts = and_parts (nat_le first a) (nat_lt a (first + 4096 * n)) h in
    let low : first ≤ a = leb-true first a parts.0 in
    let high : a < first + 4096 * n = ltb-true a (first + 4096 * n) parts.1 in
    frame-in n first (frame_of a) whole (omega arith) (omega (arith, whole, low)) (omega (arith, high))

-- the frame of a byte of pages is among them
pub own-frame : (runs : List PageRun) (a : ℕ) → is_own runs a ≡ true → is_own runs (frame_of a) ≡ true
own-frame [] a h = absurd (cc)
own-frame (r ∷ rs) a h = by (within a) refl (own-frame rs a) h
  where
    within : ℕ → Bool
    within b = nat_le (4096 * r.frame) b && nat_lt b (4096 * (r.frame + r.count))

    frame : within a ≡ true → within (frame_of a) ≡ true
    frame e =
        let parts = and_parts (nat_le (4096 * r.frame) a) (nat_lt a (4096 * (r.frame + r.count))) e in
        let low : 4096 * r.frame ≤ a = leb-true (4096 * r.frame) a parts.0 in
        let high : a < 4096 * (r.frame + r.count) = ltb-true a (4096 * (r.frame + r.count)) parts.1 in
        let low' : 4096 * r.frame ≤ frame_of a = omega (arith, low) in
        let high' : frame_of a < 4096 * (r.frame + r.count) = omega (arith, high) in
        rw (le-leb (4096 * r.frame) (frame_of a) low', lt-ltb (frame_of a) (4096 * (r.frame + r.count)) high') refl

    by : (b : Bool) → within a ≡ b → (is_own rs a ≡ true → is_own rs (frame_of a) ≡ true) →
        (b || is_own rs a) ≡ true → is_own (r ∷ rs) (frame_of a) ≡ true
    by true e rest k = ap (λ b. b || is_own rs (frame_of a)) (frame e)
    by false e rest k = or-true (within (frame_of a)) (is_own rs (frame_of a)) (rest k)
      where
        or-true : (x y : Bool) → y ≡ true → (x || y) ≡ true
        or-true true y g = refl
        or-true false y g = g

-- each page of chunks is a complete page
zip-whole : (cs : List Chunk) (ps : List ℕ) (i page : ℕ) → AllZip IsInPage cs ps → slice_get ps i ≡ Some page →
    page % 4096 ≡ 0
zip-whole [] [] i page z has = absurd (cc)
zip-whole [] (p ∷ ps) i page z has = absurd z
zip-whole (c ∷ cs) [] i page z has = absurd z
zip-whole (c ∷ cs) (p ∷ ps) zero page z has =
    let same : p ≡ page = found_one (Some p) p page refl has in
    let frame : (bus_extent c).pa.0 / 4096 * 4096 ≡ p = z.0.frame in
    omega (arith, same, frame)
zip-whole (c ∷ cs) (p ∷ ps) (suc i) page z has = zip-whole cs ps i page z.1 has

-- ---- a driver that agrees with the account
module _ (l : LaneState) (a : Account) (agrees : AgreesWith l a) where
  -- a page that a map holds is among the maps' pages
  page-held : (m : ℕ) (o : LaneMap) (z : ℕ) (cs : List Chunk) (ss : List Segment) (ps : List ℕ) (p : ℕ) →
      get l.maps m ≡ Some o → o.zone ≡ Some z → o.stage ≡ Loaded cs ss ps → times p ps ≤ times_held (named l m) z p a
  page-held m o z cs ss ps p there zone stage =
      let is : own_map (get l.maps m) ≡ Some (record { zone = z; stage = view.Loaded ps }) = ap own_map there
      ∙ ap (in_zone o.stage) zone ∙ ap (λ s. Some (record { zone = z; stage = stage_of s })) stage in
      let pages : loaded_page z p (own_map (get l.maps m)) ≡ times p ps = ap (loaded_page z p) is
      ∙ count-like (λ q. (q == p) && (z == z)) (λ q. q == p) ps
      (λ q. ap (λ b. (q == p) && b) (eq-eqb z z refl) ∙ Rattle.lane_agreement.proofs.Own.and-true (q == p)) in
      omega (arith, (agrees.names (named l m) refl).holds_page z p, pages)

  -- a frame of a memory is among the memories' frames
  pub memory-held : (k : ℕ) (x : LaneMemory) (f : ℕ) → get l.mems k ≡ Some x →
      times f (frames_of (named l k) a.mems) ≡ times f (frames_from x.count x.first)
  memory-held k x f there =
      ap (times f) ((agrees.names (named l k) refl).frames
      ∙ ap (λ o. Rattle.lane_agreement.specs.OwnShare.mem_frames (own_frames o)) there)

  -- a byte of a memory's frames is none of another's, and none of the driver's pages
  memories-apart : (k j : ℕ) (x y : LaneMemory) (b : ℕ) → get l.mems k ≡ Some x → get l.mems j ≡ Some y →
      HasWholeFrames x → HasWholeFrames y → in_run x.first x.count b ≡ true → in_run y.first y.count b ≡ true → k ≡ j
  memories-apart k j x y b there too rx ry h g = elim (decided k j) as (λ _. k ≡ j) [
    | inl e ↦ e
    | inr ne ↦
        let f : ℕ = frame_of b in
        absurd
        (omega (
          arith,
          agrees.one f,
          mems-two (named l k) (named l j) f a.mems (off-named l k j ne),
          memory-held k x f there,
          memory-held j y f too,
          run-frame x.count x.first b rx.whole h,
          run-frame y.count y.first b ry.whole g,
        ))
  ]

  memory-apart : (k : ℕ) (x : LaneMemory) (b : ℕ) → get l.mems k ≡ Some x → HasWholeFrames x →
      in_run x.first x.count b ≡ true → is_own l.pages b ≡ true → ⊥
  memory-apart k x b there rx h own =
      let f : ℕ = frame_of b in
      absurd
      (omega (
        arith,
        agrees.apart f (own-frame l.pages b own),
        mems-two (named l k) (next (named l k)) f a.mems (off-next (named l k)),
        memory-held k x f there,
        run-frame x.count x.first b rx.whole h,
      ))

  module _ (stands : Stands l) where
    -- a map that is loaded with a page
    pub record Holder (m : ℕ) (cs : List Chunk) (ss : List Segment) (ps : List ℕ) : Type 0 where
      pub map : LaneMap
      pub zone : ℕ
      pub there : get l.maps m ≡ Some map
      pub zoned : map.zone ≡ Some zone
      pub stage : map.stage ≡ Loaded cs ss ps

    pub holder-of : (m i p : ℕ) (cs : List Chunk) (ss : List Segment) (ps : List ℕ) → stage_at l m ≡ Loaded cs ss ps →
        slice_get ps i ≡ Some p → Holder m cs ss ps
    holder-of m i p cs ss ps loaded has = by (get l.maps m) refl loaded
      where
        none : ps ≡ [] → ⊥
        none e = let gone : slice_get [] i ≡ Some p = sym (ap (λ x. slice_get x i) e) ∙ has in cc

        pageless : (s : Stage) → s ≡ Loaded cs ss ps → IsPageless s → ps ≡ []
        pageless s e h = subst IsPageless e h

        zoned : (o : LaneMap) → get l.maps m ≡ Some o → o.stage ≡ Loaded cs ss ps → (z : Option ℕ) → o.zone ≡ z →
            Holder m cs ss ps
        zoned o e s None z = absurd (none (pageless o.stage s ((stands.each m o e).pageless z)))
        zoned o e s (Some y) z = record { map = o; zone = y; there = e; zoned = z; stage = s }

        by : (o : Option LaneMap) → get l.maps m ≡ o → stage_in o ≡ Loaded cs ss ps → Holder m cs ss ps
        by None e s = absurd (cc)
        by (Some o) e s = zoned o e s o.zone refl

    pub page-times : {m : ℕ} {cs : List Chunk} {ss : List Segment} {ps : List ℕ} (h : Holder m cs ss ps) (p : ℕ) →
        times p ps ≤ times_held (named l m) h.zone p a
    page-times {m} {cs} {ss} {ps} h p = page-held m h.map h.zone cs ss ps p h.there h.zoned h.stage

    pub counted-page : (ps : List ℕ) (i p : ℕ) → slice_get ps i ≡ Some p → 1 ≤ times p ps
    counted-page ps i p e = Rattle.ideal_wire.proofs.Faithful.Lent.counted_one (λ q. q == p) ps i p e (eq-eqb p p refl)

    -- a page that a map holds is among the account's frames
    page-placed : (m i p : ℕ) (cs : List Chunk) (ss : List Segment) (ps : List ℕ) → stage_at l m ≡ Loaded cs ss ps →
        slice_get ps i ≡ Some p → 1 ≤ times_lent p a
    page-placed m i p cs ss ps loaded has =
        let h = holder-of m i p cs ss ps loaded has in
        omega (
          arith,
          page-times h p,
          counted-page ps i p has,
          lent-two (named l m) (next (named l m)) h.zone h.zone p a (off-next (named l m)),
        )

    -- a page that a map holds
    pub record PageOf (m i page : ℕ) : Type 0 where
      pub bounced : List Chunk
      pub segments : List Segment
      pub pages : List ℕ
      pub stage : stage_at l m ≡ Loaded bounced segments pages
      pub has : slice_get pages i ≡ Some page

    pub page-of : (m i page : ℕ) → HoldsPage l m i page → PageOf m i page
    page-of m i page h = by (stage_at l m) refl h
      where
        by : (s : Stage) → stage_at l m ≡ s → slice_get (pages_of s) i ≡ Some page → PageOf m i page
        by Idle e g = absurd (cc)
        by (Waiting w) e g = absurd (cc)
        by (Loaded cs ss ps) e g = record { bounced = cs; segments = ss; pages = ps; stage = e; has = g }
        by Returning e g = absurd (cc)

    -- a byte of such a page is none of the driver's own bytes
    page-away : (m i page b : ℕ) → HoldsPage l m i page → page % 4096 ≡ 0 → in_run page 1 b ≡ true →
        ((j : ℕ) (x : LaneMemory) → get l.mems j ≡ Some x → HasWholeFrames x) → IsOwnByte l b → ⊥
    page-away m i page b holds whole inside runs own = by own
      where
        frame : frame_of b ≡ page
        frame =
            let parts = and_parts (nat_le page b) (nat_lt b (page + 4096 * 1)) inside in
            let low : page ≤ b = leb-true page b parts.0 in
            let high : b < page + 4096 * 1 = ltb-true b (page + 4096 * 1) parts.1 in
            omega (arith, whole, low, high)

        placed : 1 ≤ times_lent (frame_of b) a
        placed = let h = page-of m i page holds in
            subst (λ p. 1 ≤ times_lent p a) (sym frame)
            (page-placed m i page h.bounced h.segments h.pages h.stage h.has)

        by : IsOwnByte l b → ⊥
        by (OfPages e) = absurd (omega (arith, agrees.apart (frame_of b) (own-frame l.pages b e), placed))
        by (OfMemory j y there h) =
            let f : ℕ = frame_of b in
            absurd
            (omega (
              arith,
              agrees.one f,
              placed,
              mems-two (named l j) (next (named l j)) f a.mems (off-next (named l j)),
              memory-held j y f there,
              run-frame y.count y.first b (runs j y there).whole h,
            ))

    -- such a page is at one place of one map
    page-one : (m n i j page : ℕ) → HoldsPage l m i page → HoldsPage l n j page → (m ≡ n) × (i ≡ j)
    page-one m n i j page holds too = by (decided m n)
      where
        twice : PageOf m i page → slice_get (pages_of (stage_at l m)) j ≡ Some page → i ≢ j → ⊥
        twice x has ne =
            let h = holder-of m i page x.bounced x.segments x.pages x.stage x.has in
            let there : slice_get x.pages j ≡ Some page = sym (ap (λ s. slice_get (pages_of s) j) x.stage) ∙ has in
            absurd
            (omega (
              arith,
              agrees.one page,
              page-times h page,
              lent-two (named l m) (next (named l m)) h.zone h.zone page a (off-next (named l m)),
              counted_two (λ q. q == page) x.pages i j page page x.has there
                  (eq-eqb page page refl) (eq-eqb page page refl) ne,
            ))

        at-index : m ≡ n → (i ≡ j) ⊎ (i ≢ j) → i ≡ j
        at-index e (inl same) = same
        at-index e (inr ne) =
            absurd (twice (page-of m i page holds) (ap (λ k. slice_get (pages_of (stage_at l k)) j) e ∙ too) ne)

        by : (m ≡ n) ⊎ (m ≢ n) → (m ≡ n) × (i ≡ j)
        by (inl e) = (e, at-index e (decided i j))
        by (inr ne) =
            let x = page-of m i page holds in
            let y = page-of n j page too in
            let h = holder-of m i page x.bounced x.segments x.pages x.stage x.has in
            let g = holder-of n j page y.bounced y.segments y.pages y.stage y.has in
            absurd
            (omega (
              arith,
              agrees.one page,
              page-times h page,
              page-times g page,
              counted-page x.pages i page x.has,
              counted-page y.pages j page y.has,
              lent-two (named l m) (named l n) h.zone g.zone page a (off-named l m n ne),
            ))

    -- what the driver holds lies apart
    pub agreeing-apart : AreLaid l → IsApart l
    agreeing-apart laid = record {
      away = λ m i page b holds inside. not-own b
          (page-away m i page b holds (whole-page m i page (page-of m i page holds)) inside laid.runs)
          (is_some (l.memory b)) refl;
      one = page-one;
      pages = λ k b x there h. not-pages k b x there h (is_own l.pages b) refl;
      memories = λ j k b x y there too h g. memories-apart j k x y b there too (laid.runs j x there)
          (laid.runs k y too) h g;
    }
      where
        not-own : (b : ℕ) → (IsOwnByte l b → ⊥) → (t : Bool) → is_some (l.memory b) ≡ t → is_some (l.memory b) ≡ false
        not-own b none true e = absurd (∥∥₁_elim (laid.only b e) (λ x y. absurd x) none)
        not-own b none false e = e

        not-pages : (k b : ℕ) (x : LaneMemory) → get l.mems k ≡ Some x → in_run x.first x.count b ≡ true →
            (t : Bool) → is_own l.pages b ≡ t → is_own l.pages b ≡ false
        not-pages k b x there h true e = absurd (memory-apart k x b there (laid.runs k x there) h e)
        not-pages k b x there h false e = e

        whole-page : (m i page : ℕ) → PageOf m i page → page % 4096 ≡ 0
        whole-page m i page h =
            let load : IsLaid l m h.bounced h.segments h.pages = subst (LiesIn l m) h.stage (laid.each m) in
            zip-whole h.bounced h.pages i page load.paged h.has
