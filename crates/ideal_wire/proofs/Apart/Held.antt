-- What drivers that agree with one account hold is apart, and a device finds only bytes that its driver holds.
use Rattle.std.proofs.Common.{◌≡◌, ◌≢◌, ℕ, zero, suc, ◌+◌, ◌*◌, ◌%◌, ◌<◌, ◌≤◌, ◌==◌, ◌&&◌, ◌||◌, Bool, true, false}
use Rattle.std.proofs.Common.{cond, not, List, [], ◌∷◌, ◌++◌, map, length, Option, Some, None, slice_get, refl, ap, sym}
use Rattle.std.proofs.Common.{◌∙◌}
use Rattle.std.proofs.Common.{subst, arith, nat_le, nat_lt, ◌⊎◌, inl, inr}
use Rattle.std.proofs.lemmas.Bool.{and_parts, false≢true, leb-true, ltb-true, le-leb, lt-ltb, eqb-true, eq-eqb}
use Rattle.std.specs.Prelude.{count_by}
use Rattle.std.specs.FinMap.{get}
use Rattle.std.specs.List.{filter, list_any}
use Rattle.std.specs.Option.{option_map_or}
use Rattle.busdma_machine.specs.declared.name.MapId.{MapId}
use Rattle.busdma_machine.specs.Each.{EachAfter}
use Rattle.busdma_machine.specs.Machine.Wire.{Placed, buses}
use Rattle.busdma_base.specs.declared.scenarios.scenario.Driver.{Driver}
use Rattle.busdma_base.specs.declared.scenarios.scenario.FrameRun.{FrameRun}
use Rattle.busdma_base.specs.declared.scenarios.scenario.PageRun.{PageRun}
use Rattle.busdma_machine.specs.Bounce.Account.{Account, Held}
use Rattle.busdma_machine.specs.Bounce.Conditions.{times_held}
use Rattle.busdma_machine.specs.Bounce.MemoryRuns.{frames_of, in_run}
use Rattle.busdma_machine.specs.Bounce.Places.{places, times}
use Rattle.busdma_machine.specs.Bounce.Serving.{is_holding}
use Rattle.busdma_base.specs.Scenarios.PageRuns.{IsPageRun, is_own, is_taken, share_frame}
use Rattle.busdma_base.specs.Scenarios.Valid.{IsDriver}
use Rattle.busdma_rules.specs.Segments.Segmentation.{segment_bytes}
use Rattle.lane_agreement.specs.Agreement.{IsFit}
use Rattle.lane_agreement.specs.OwnShare.{is_return, share_if}
use Rattle.lane_agreement.specs.View.{Return}
use Rattle.lane_agreement.proofs.Own.{count-less, count-one}
use Rattle.ideal_lane.specs.Agreement.{AgreesWith}
use Rattle.ideal_lane.specs.Standing.{Stands}
use Rattle.ideal_lane.specs.State.{LaneState, LaneMap, LaneMemory, Stage, Idle, Waiting, Loaded, Returning, named}
use Rattle.ideal_lane.specs.Unloads.{pages_of, segments_in}
use Rattle.ideal_wire.specs.Answered.{found_at}
use Rattle.ideal_wire.specs.Held.{Holder, ItsPages, ItsMemory, ItsMap, bounce_pages, holds, IsHeld}
use Rattle.ideal_wire.specs.Held.{named_addresses, FindsHeld}
use Rattle.ideal_wire.specs.Laid.{AreLaid, IsOwnByte, OfMemory, OfPages}
use Rattle.ideal_wire.specs.Mapped.{AreMapped}
use Rattle.ideal_wire.specs.Traces.{is_in_pages, stage_at, traces_of}
use Rattle.ideal_wire.proofs.Faithful.Buses.{IsBounced}
use Rattle.ideal_wire.proofs.Apart.Frames.{counted-page, frame_of, holder-of, lent-two, memory-held, mems-two, next}
use Rattle.ideal_wire.proofs.Apart.Frames.{off-next}
use Rattle.ideal_wire.proofs.Apart.Frames.{own-frame, page-of, page-times, run-frame}
use Rattle.ideal_wire.proofs.Faithful.Lent.{any_at, any_found}
use Rattle.ideal_wire.proofs.Devices.MappedTurns.{loads-found}
use Rattle.ideal_wire.proofs.Apart.PageTwins.{HasByte, at-end, in-front, shares}
use Rattle.ideal_wire.proofs.Faithful.PlacedLoads.{InPage, ItsOwn, Lies, Load, lies-of, own-place}
use Rattle.ideal_wire.proofs.Laid.Positions.{found_one}
use Rattle.ideal_wire.proofs.Faithful.SyncedPositions.{decided}

-- ---- the pages of two drivers of a valid scenario

-- a byte of pages lies in a run of them
record InRun (runs : List PageRun) (a : ℕ) : Type 0 where
  index : ℕ
  run : PageRun
  there : slice_get runs index ≡ Some run
  has : HasByte run a

in-some : (runs : List PageRun) (a : ℕ) → is_own runs a ≡ true → InRun runs a
in-some runs a h =
    let x = any_found (λ (r : PageRun). nat_le (4096 * r.frame) a && nat_lt a (4096 * (r.frame + r.count))) runs h in
    let r : PageRun = x.item in
    let parts = and_parts (nat_le (4096 * r.frame) a) (nat_lt a (4096 * (r.frame + r.count))) x.passes in
    record {
      index = x.place;
      run = r;
      there = x.found;
      has = record {
        low = leb-true (4096 * r.frame) a parts.0;
        high = ltb-true a (4096 * (r.frame + r.count)) parts.1;
      };
    }

-- no run of a driver's pages has a frame of an earlier driver
untaken : (frames : List FrameRun) (earlier : List Driver) (before runs : List PageRun) (i : ℕ) (r : PageRun) →
    EachAfter (IsPageRun frames earlier) before runs → slice_get runs i ≡ Some r → is_taken r earlier ≡ false
untaken frames earlier before [] i r h at = absurd (cc)
untaken frames earlier before (q ∷ runs) zero r h at =
    subst (λ k. is_taken k earlier ≡ false) (found_one (Some q) q r refl at) h.0.untaken
untaken frames earlier before (q ∷ runs) (suc i) r h at = untaken frames earlier (before ++ q ∷ []) runs i r h.1 at

-- a byte of a driver's pages is none of a later driver's
later-apart : (frames : List FrameRun) (before drivers : List Driver) (i j : ℕ) (d e : Driver) (a : ℕ) →
    EachAfter (IsDriver frames) before drivers → slice_get before i ≡ Some d → slice_get drivers j ≡ Some e →
    is_own d.pages a ≡ true → is_own e.pages a ≡ true → ⊥
later-apart frames before [] i j d e a h at there own other = absurd (cc)
later-apart frames before (x ∷ drivers) i zero d e a h at there own other =
    let same : x ≡ e = found_one (Some x) x e refl there in
    let pages : EachAfter (IsPageRun frames before) [] e.pages =
    subst (λ (k : Driver). EachAfter (IsPageRun frames before) [] k.pages) same h.0.pages in
    let r = in-some d.pages a own in
    let q = in-some e.pages a other in
    let taken : is_taken q.run before ≡ true = any_at (λ (k : Driver). list_any (share_frame q.run) k.pages) before i
    d at
    (any_at (share_frame q.run) d.pages r.index r.run r.there (shares q.run r.run a q.has r.has)) in
    false≢true (sym (untaken frames before [] e.pages q.index q.run pages q.there) ∙ taken)
later-apart frames before (x ∷ drivers) i (suc j) d e a h at there own other =
    later-apart frames (before ++ x ∷ []) drivers i j d e a h.1 (in-front before (x ∷ []) i d at) there own other

pub pages-apart : (frames : List FrameRun) (before drivers : List Driver) (i j : ℕ) (d e : Driver) (a : ℕ) →
    EachAfter (IsDriver frames) before drivers → slice_get drivers i ≡ Some d → slice_get drivers j ≡ Some e →
    is_own d.pages a ≡ true → is_own e.pages a ≡ true → i ≡ j
pages-apart frames before [] i j d e a h at there own other = absurd (cc)
pages-apart frames before (x ∷ drivers) zero zero d e a h at there own other = refl
pages-apart frames before (x ∷ drivers) zero (suc j) d e a h at there own other =
    let same : x ≡ d = found_one (Some x) x d refl at in
    absurd (later-apart frames (before ++ x ∷ []) drivers (length before) j d e a h.1
    (at-end before x ∙ ap (λ k. Some k) same) there own other)
pages-apart frames before (x ∷ drivers) (suc i) zero d e a h at there own other =
    let same : x ≡ e = found_one (Some x) x e refl there in
    absurd (later-apart frames (before ++ x ∷ []) drivers (length before) i e d a h.1
    (at-end before x ∙ ap (λ k. Some k) same) at other own)
pages-apart frames before (x ∷ drivers) (suc i) (suc j) d e a h at there own other =
    ap suc (pages-apart frames (before ++ x ∷ []) drivers i j d e a h.1 at there own other)

-- ---- what the account has of what is held

any-append : {X : Type 0} (test : X → Bool) (xs ys : List X) → list_any test (xs ++ ys) ≡ true →
    (list_any test xs ≡ true) ⊎ (list_any test ys ≡ true)
any-append test [] ys h = inr h
any-append test (x ∷ xs) ys h = by (test x) refl (any-append test xs ys) h
  where
    by : (b : Bool) → test x ≡ b →
        (list_any test (xs ++ ys) ≡ true → (list_any test xs ≡ true) ⊎ (list_any test ys ≡ true)) →
        (b || list_any test (xs ++ ys)) ≡ true →
        ((b || list_any test xs) ≡ true) ⊎ (list_any test ys ≡ true)
    by true e rest g = inl refl
    by false e rest g = rest g

-- a page of the return queue that has a byte
record Returned (m a : ℕ) (rs : List Return) : Type 0 where
  item : Return
  counted : 1 ≤ count_by (is_return m item.zone item.page) rs
  inside : in_run item.page 1 a ≡ true

returned-in : (m a : ℕ) (rs : List Return) →
    list_any (λ p. in_run p 1 a) (map (λ (r : Return). r.page) (filter (λ r. r.map == m) rs)) ≡ true → Returned m a rs
returned-in m a [] h = absurd (cc)
returned-in m a (r ∷ rs) h = by (r.map == m) refl (returned-in m a rs) h
  where
    rest : List ℕ
    rest = map (λ (q : Return). q.page) (filter (λ q. q.map == m) rs)

    further : Returned m a rs → Returned m a (r ∷ rs)
    further x = record {
      item = x.item;
      counted = omega (arith, x.counted, count-one (is_return m x.item.zone x.item.page) r rs);
      inside = x.inside;
    }

    here : (r.map == m) ≡ true → (b : Bool) → in_run r.page 1 a ≡ b →
        (list_any (λ p. in_run p 1 a) rest ≡ true → Returned m a rs) →
        (b || list_any (λ p. in_run p 1 a) rest) ≡ true → Returned m a (r ∷ rs)
    here e true i more g =
        let this : is_return m r.zone r.page r ≡ true =
        rw (eq-eqb r.page r.page refl, eq-eqb r.zone r.zone refl, e) refl in
        record {
          item = r;
          counted = omega (arith, ap share_if this, count-one (is_return m r.zone r.page) r rs);
          inside = i;
        }
    here e false i more g = further (more g)

    by : (b : Bool) → (r.map == m) ≡ b →
        (list_any (λ p. in_run p 1 a) rest ≡ true → Returned m a rs) →
        list_any (λ p. in_run p 1 a) (map (λ (q : Return). q.page) (cond b (r ∷ filter (λ q. q.map == m) rs)
        (filter (λ q. q.map == m) rs))) ≡ true → Returned m a (r ∷ rs)
    by true e more g = here e (in_run r.page 1 a) refl more g
    by false e more g = further (more g)

-- a page that a map holds is a complete page
whole-held : (c : Account) → IsFit c → (m : MapId) (z p : ℕ) → 1 ≤ times_held m z p c → p % 4096 ≡ 0
whole-held c fit m z p some = by (p % 4096 == 0) refl
  where
    by : (b : Bool) → (p % 4096 == 0) ≡ b → p % 4096 ≡ 0
    by true e = eqb-true (p % 4096) 0 e
    by false e =
        absurd (omega (
          arith,
          some,
          fit.whole,
          count-less (is_holding m z p) (λ (h : Held). not (h.page % 4096 == 0)) c.held (λ h on. broken h on),
        ))
      where
        broken : (h : Held) → is_holding m z p h ≡ true → not (h.page % 4096 == 0) ≡ true
        broken h on =
            let is : h.page ≡ p = eqb-true h.page p (and_parts (h.page == p) _ on).0 in
            ap (λ q. not (q % 4096 == 0)) is ∙ ap not e

-- the frame of a byte of a complete page
page-frame : (p a : ℕ) → p % 4096 ≡ 0 → in_run p 1 a ≡ true → p ≡ frame_of a
page-frame p a whole inside =
    let parts = and_parts (nat_le p a) (nat_lt a (p + 4096 * 1)) inside in
    let low : p ≤ a = leb-true p a parts.0 in
    let high : a < p + 4096 * 1 = ltb-true a (p + 4096 * 1) parts.1 in
    omega (arith, whole, low, high)

-- what the account has of a frame that a driver holds so
abbrev pub Claims : LaneState → Account → ℕ → Holder → Type 0
Claims l c f ItsPages = is_own l.pages f ≡ true
Claims l c f (ItsMemory k) = 1 ≤ times f (frames_of (named l k) c.mems)
Claims l c f (ItsMap m) = (z : ℕ) × (1 ≤ times_held (named l m) z f c)

module _ (l : LaneState) (c : Account) (fit : IsFit c) (agrees : AgreesWith l c) (stands : Stands l) (laid : AreLaid l)
    (a : ℕ) where
  of-page : (m z p : ℕ) → 1 ≤ times_held (named l m) z p c → in_run p 1 a ≡ true → Claims l c (frame_of a) (ItsMap m)
  of-page m z p some inside = (
    z,
    subst (λ q. 1 ≤ times_held (named l m) z q c)
        (page-frame p a (whole-held c fit (named l m) z p some) inside) some,
  )

  loaded : (m : ℕ) → is_in_pages (pages_of (stage_at l m)) a ≡ true → Claims l c (frame_of a) (ItsMap m)
  loaded m h =
      let x = any_found (λ p. in_run p 1 a) (pages_of (stage_at l m)) h in
      let y = page-of l c agrees stands m x.place x.item x.found in
      let o = holder-of l c agrees stands m x.place x.item y.bounced y.segments y.pages y.stage y.has in
      of-page m o.zone x.item
      (omega (
        arith,
        page-times l c agrees stands o x.item,
        counted-page l c agrees stands y.pages x.place x.item y.has,
      )) x.passes

  returning : (m : ℕ) → Returned m a l.returns → Claims l c (frame_of a) (ItsMap m)
  returning m x =
      of-page m x.item.zone x.item.page
      (omega (arith, x.counted, (agrees.names (named l m) refl).holds_page x.item.zone x.item.page)) x.inside

  memory : (k : ℕ) (o : Option LaneMemory) → get l.mems k ≡ o →
      option_map_or (λ (x : LaneMemory). in_run x.first x.count a) o false ≡ true →
      Claims l c (frame_of a) (ItsMemory k)
  memory k None e h = absurd (cc)
  memory k (Some x) e h =
      omega (
        arith,
        memory-held l c agrees k x (frame_of a) e,
        run-frame x.count x.first a (laid.runs k x e).whole h,
      )

  pub claims : (by : Holder) → holds l by a ≡ true → Claims l c (frame_of a) by
  claims ItsPages h = own-frame l.pages a h
  claims (ItsMemory k) h = memory k (get l.mems k) refl h
  claims (ItsMap m) h =
      elim (any-append (λ p. in_run p 1 a) (pages_of (stage_at l m)) _ h)
      as (λ _. Claims l c (frame_of a) (ItsMap m)) [
        | inl e ↦ loaded m e
        | inr e ↦ returning m (returned-in m a l.returns e)
      ]

-- ---- one frame is claimed once
module _ (c : Account) (f : ℕ) (one : places f c ≤ 1) where
  memories-clash : (m n : MapId) → m ≢ n → 1 ≤ times f (frames_of m c.mems) → 1 ≤ times f (frames_of n c.mems) → ⊥
  memories-clash m n ne x y = absurd (omega (arith, one, x, y, mems-two m n f c.mems ne))

  maps-clash : (m n : MapId) (y z : ℕ) → m ≢ n → 1 ≤ times_held m y f c → 1 ≤ times_held n z f c → ⊥
  maps-clash m n y z ne s t = absurd (omega (arith, one, s, t, lent-two m n y z f c ne))

  mixed-clash : (m n : MapId) (z : ℕ) → 1 ≤ times f (frames_of m c.mems) → 1 ≤ times_held n z f c → ⊥
  mixed-clash m n z x t =
      absurd (omega (
        arith,
        one,
        x,
        t,
        mems-two m (next m) f c.mems (off-next m),
        lent-two n (next n) z z f c (off-next n),
      ))

  free-memory : (m : MapId) → places f c ≡ 0 → 1 ≤ times f (frames_of m c.mems) → ⊥
  free-memory m none x = absurd (omega (arith, none, x, mems-two m (next m) f c.mems (off-next m)))

  free-map : (m : MapId) (z : ℕ) → places f c ≡ 0 → 1 ≤ times_held m z f c → ⊥
  free-map m z none x = absurd (omega (arith, none, x, lent-two m (next m) z z f c (off-next m)))

-- ---- two drivers, or one, that agree with the account
module _ (l k : LaneState) (c : Account) (fit : IsFit c) (agrees : AgreesWith l c) (stands : Stands l)
    (laid : AreLaid l)
    (agrees' : AgreesWith k c) (stands' : Stands k) (laid' : AreLaid k) where
  names : (m n : ℕ) → ((l.id ≡ k.id) × (m ≡ n)) ⊎ (named l m ≢ named k n)
  names m n = by (decided l.id k.id) (decided m n)
    where
      by : (l.id ≡ k.id) ⊎ (l.id ≢ k.id) → (m ≡ n) ⊎ (m ≢ n) → ((l.id ≡ k.id) × (m ≡ n)) ⊎ (named l m ≢ named k n)
      by (inl e) (inl g) = inl (e, g)
      by (inl e) (inr ne) = inr (λ q. ne (ap (λ (x : MapId). x.made_at) q))
      by (inr ne) d = inr (λ q. ne (ap (λ (x : MapId). x.lane.0) q))

  module _ (a : ℕ) (pages : is_own l.pages a ≡ true → is_own k.pages a ≡ true → l.id ≡ k.id) where
    abbrev f : ℕ
    f = frame_of a

    memories : (m n : ℕ) → Claims l c f (ItsMemory m) → Claims k c f (ItsMemory n) →
        ((l.id ≡ k.id) × (m ≡ n)) ⊎ (named l m ≢ named k n) → (l.id ≡ k.id) × (ItsMemory m ≡ ItsMemory n)
    memories m n x y (inl e) = (e.0, ap (λ q. ItsMemory q) e.1)
    memories m n x y (inr ne) = absurd (memories-clash c f (agrees.one f) (named l m) (named k n) ne x y)

    maps : (m n : ℕ) → Claims l c f (ItsMap m) → Claims k c f (ItsMap n) →
        ((l.id ≡ k.id) × (m ≡ n)) ⊎ (named l m ≢ named k n) → (l.id ≡ k.id) × (ItsMap m ≡ ItsMap n)
    maps m n x y (inl e) = (e.0, ap (λ q. ItsMap q) e.1)
    maps m n x y (inr ne) =
        absurd (maps-clash c f (agrees.one f) (named l m) (named k n) x.0 y.0 ne x.1 y.1)

    cases : (by other : Holder) → holds l by a ≡ true → holds k other a ≡ true → Claims l c f by → Claims k c f other →
        (l.id ≡ k.id) × (by ≡ other)
    cases ItsPages ItsPages h g x y = (pages h g, refl)
    cases ItsPages (ItsMemory n) h g x y = absurd (free-memory c f (agrees.one f) (named k n) (agrees.apart f x) y)
    cases ItsPages (ItsMap n) h g x y = absurd (free-map c f (agrees.one f) (named k n) y.0 (agrees.apart f x) y.1)
    cases (ItsMemory m) ItsPages h g x y =
        absurd (free-memory c f (agrees.one f) (named l m) (agrees'.apart f y) x)
    cases (ItsMemory m) (ItsMemory n) h g x y = memories m n x y (names m n)
    cases (ItsMemory m) (ItsMap n) h g x y =
        absurd (mixed-clash c f (agrees.one f) (named l m) (named k n) y.0 x y.1)
    cases (ItsMap m) ItsPages h g x y =
        absurd (free-map c f (agrees.one f) (named l m) x.0 (agrees'.apart f y) x.1)
    cases (ItsMap m) (ItsMemory n) h g x y =
        absurd (mixed-clash c f (agrees.one f) (named k n) (named l m) x.0 y x.1)
    cases (ItsMap m) (ItsMap n) h g x y = maps m n x y (names m n)

    pub held-once : (by other : Holder) → holds l by a ≡ true → holds k other a ≡ true → (l.id ≡ k.id) × (by ≡ other)
    held-once by other h g =
        cases by other h g (claims l c fit agrees stands laid a by h) (claims k c fit agrees' stands' laid' a other g)

-- ---- what a device finds
module _ (l : LaneState) (laid : AreLaid l) where
  own-held : (a : ℕ) → IsOwnByte l a → IsHeld l a
  own-held a (OfPages e) = record { by = ItsPages; held = e }
  own-held a (OfMemory k x there h) = record {
    by = ItsMemory k;
    held = ap (λ o. option_map_or (λ (y : LaneMemory). in_run y.first y.count a) o false) there ∙ h;
  }

  page-held : (m at a : ℕ) (x : Load l laid m) → IsBounced x.bounced x.pages at a → IsHeld l a
  page-held m at a x e =
      let high : a < e.page + 4096 * 1 = omega (arith, e.high) in
      let inside : in_run e.page 1 a ≡ true = rw (le-leb e.page a e.low, lt-ltb a (e.page + 4096 * 1) high) refl in
      let there : slice_get (pages_of (stage_at l m)) e.index ≡ Some e.page =
      ap (λ s. slice_get (pages_of s) e.index) x.stage ∙ e.has_page in
      record {
        by = ItsMap m;
        held = any_at (λ p. in_run p 1 a) (bounce_pages l m) e.index e.page
            (in-front (pages_of (stage_at l m)) _ e.index e.page there) inside;
      }

  bus-held : (m i : ℕ) (t : Placed) → slice_get (traces_of l m) i ≡ Some t → IsHeld l t.bus
  bus-held m i t at = by (lies-of l laid m i t at)
    where
      by : Lies l laid m i t → IsHeld l t.bus
      by (ItsOwn e) = subst (IsHeld l) (sym e) (own-held t.pa (own-place l laid m i t at))
      by (InPage x e) = page-held m i t.bus x e

  each-held : (o : LaneMap) (xs : List ℕ) (ts : List Placed) →
      map (found_at l o) xs ≡ map (λ a. Some a) (buses ts) →
      ((i : ℕ) (t : Placed) → slice_get ts i ≡ Some t → IsHeld l t.bus) →
      (n x : ℕ) → slice_get xs n ≡ Some x → FindsHeld l o x
  each-held o [] ts same held n x at = absurd (cc)
  each-held o (y ∷ xs) [] same held n x at = absurd (cc)
  each-held o (y ∷ xs) (t ∷ ts) same held zero x at =
      let is : y ≡ x = found_one (Some y) y x refl at in
      let head : found_at l o y ≡ Some t.bus = cc in
      record { byte = t.bus; found = ap (found_at l o) (sym is) ∙ head; held = held 0 t refl }
  each-held o (y ∷ xs) (t ∷ ts) same held (suc n) x at =
      let tail : map (found_at l o) xs ≡ map (λ a. Some a) (buses ts) = cc in
      each-held o xs ts tail (λ i u h. held (suc i) u h) n x at

  pub finds-held : AreMapped l → (m : ℕ) (o : LaneMap) → get l.maps m ≡ Some o → (n x : ℕ) →
      slice_get (named_addresses o) n ≡ Some x → FindsHeld l o x
  finds-held mapped m o there n x at = by o.stage refl at
    where
      by : (g : Stage) → o.stage ≡ g → slice_get (segment_bytes (segments_in g)) n ≡ Some x → FindsHeld l o x
      by Idle e h = absurd (cc)
      by (Waiting w) e h = absurd (cc)
      by (Loaded bounced segments pages) e h =
          each-held o (segment_bytes segments) (traces_of l m)
          (loads-found l laid mapped m o there bounced segments pages e) (bus-held m) n x h
      by Returning e h = absurd (cc)
