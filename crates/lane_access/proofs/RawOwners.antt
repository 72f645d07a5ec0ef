-- The load of a tag's maps in which a device address may lie: the one that begins last at or before the address's page.
use Rattle.std.proofs.Common.{◌≡◌, ℕ, zero, suc, ◌/◌, ◌<◌, ◌≤◌, ◌==◌, ◌&&◌, ◌⊎◌, inl, inr, Bool, true, false, cond}
use Rattle.std.proofs.Common.{List, [], ◌∷◌, length, Option, Some, None, is_some, slice_get, nat_le, nat_lt, unwrap_or}
use Rattle.std.proofs.Common.{refl, sym, ap, ◌∙◌, subst, arith, ◌^◌}
use mathlib.Core.Logic.{∥∥₁_elim}
use Rattle.std.proofs.Props.{props}
use Rattle.std.proofs.lemmas.Bool.{and_parts, eqb-true, le-leb, leb-true, lt-ltb, ltb-true, ltb-false}
use Rattle.std.specs.FinMap.{entries, get}
use Rattle.std.specs.List.{Contains}
use Rattle.std.specs.Option.{option_map_or}
use Rattle.busdma_machine.specs.declared.machine.address.Segment.{Segment}
use Rattle.dma_map.specs.MapView as held
use Rattle.busdma_rules.specs.Iommu.Space.{AreSpaceRuns, DeviceRun, run_end, has_page, translated}
use Rattle.busdma_rules.proofs.Iommu.Members.{live-is, place-in}
use Rattle.busdma_rules.proofs.Iommu.Runs.{run-apart}
use Rattle.busdma_rules.specs.Lending.Loans.{loan_of}
use Rattle.busdma_rules.specs.Segments.Obeying.{segments_bytes}
use Rattle.busdma_rules.specs.Segments.Segmentation.{segment_bytes}
use Rattle.ideal_lane.specs.Accesses.{place_in, position_in}
use Rattle.ideal_lane.specs.Outcomes.{is_loaded}
use Rattle.ideal_lane.specs.State.{LaneState, LaneTag}
use Rattle.ideal_lane.specs.Unloads.{first_of, segments_in}
use Rattle.ideal_wire.specs.Mapped.{AreMapped, HasRun}
use Rattle.ideal_wire.specs.Spaced.{is_spaced}
use Rattle.ideal_wire.proofs.Loads.Buffers.{all-at}
use Rattle.ideal_wire.proofs.Faithful.RawPlaces.{placed-byte}
use Rattle.lane_state.specs.declared.holdings.Holdings.{Holdings}
use Rattle.lane_state.specs.declared.kept.KeptLoad.{KeptLoad}
use Rattle.lane_state.specs.declared.kept.KeptMap.{KeptMap}
use Rattle.lane_access.specs.declared.raw.Beginning.{Beginning}
use Rattle.lane_state.specs.Ideal.{ideal_of}
use Rattle.lane_state.specs.Kept.{map_of, kept_stage}
use Rattle.lane_state.specs.MapValues.{entry_values}
use Rattle.lane_access.specs.Raw.{AreShortOf, is_later, last_of, later}
use Rattle.lane_state.specs.Wire.{IsWired}
use Rattle.lane_state.proofs.MapValues.{entries-map_values, image-some}
use Rattle.lane_access.proofs.RawLoads.{spaced-tag}
use Rattle.lane_access.proofs.RawPlaces.{AreOfTable, another-tag, none-of-it, of-table, one-of-it, segments-same}

abbrev segments : KeptMap → List Segment
segments x = held.segments_of x.map.stage

-- what has a segment is loaded
has-load : (s : held.HeldStage KeptLoad) → 1 ≤ length (held.segments_of s) → is_loaded (kept_stage s) ≡ true
has-load held.idle h = absurd (omega arith)
has-load (held.waiting load_at callback room) h = absurd (omega arith)
has-load (held.loaded bounced segments pages) h = refl
has-load (held.lent bounced segments frames) h = refl
has-load held.returning h = absurd (omega arith)

-- ---- the load that begins last

-- the load that was found begins at this page or later
abbrev Reaches : ℕ → Option Beginning → Type 0
Reaches n None = ⊥
Reaches n (Some b) = n ≤ b.page

module _ (t page : ℕ) where
  -- the load that was found is of one of these maps, whose tag is this one
  record IsOf (es : List (ℕ × KeptMap)) (b : Beginning) : Type 0 where
    index : ℕ
    map : KeptMap
    there : slice_get es index ≡ Some (b.map, map)
    tag : (map.tag == t) ≡ true
    some : 1 ≤ length (segments map)
    begins : first_of (segments map) ≡ b.page
    before : b.page ≤ page

  later-keeps : (last : Option Beginning) (m : ℕ) (ss : List Segment) (n : ℕ) → Reaches n last →
      Reaches n (later page last m ss)
  later-keeps last m [] n r = r
  later-keeps None m (s ∷ ss) n r = absurd r
  later-keeps (Some b) m (s ∷ ss) n r =
      by (nat_le (s.addr.0 / 4096) page && nat_lt b.page (s.addr.0 / 4096)) refl
    where
      by : (v : Bool) → (nat_le (s.addr.0 / 4096) page && nat_lt b.page (s.addr.0 / 4096)) ≡ v →
          Reaches n (cond v (Some (record { map = m; page = s.addr.0 / 4096 })) (Some b))
      by true e =
          let parts = and_parts (nat_le (s.addr.0 / 4096) page) (nat_lt b.page (s.addr.0 / 4096)) e in
          let above : b.page < s.addr.0 / 4096 = ltb-true b.page (s.addr.0 / 4096) parts.1 in
          omega (arith, r, above)
      by false e = r

  later-takes : (last : Option Beginning) (m : ℕ) (ss : List Segment) → 1 ≤ length ss → first_of ss ≤ page →
      Reaches (first_of ss) (later page last m ss)
  later-takes last m [] some up = absurd (omega arith)
  later-takes last m (s ∷ ss) some up = rw (le-leb (s.addr.0 / 4096) page up) (by last)
    where
      first : ℕ
      first = s.addr.0 / 4096

      by : (o : Option Beginning) →
          Reaches (s.addr.0 / 4096)
          (cond (is_later o (s.addr.0 / 4096)) (Some (record { map = m; page = s.addr.0 / 4096 })) o)
      by None = omega arith
      by (Some b) = more (nat_lt b.page (s.addr.0 / 4096)) refl
        where
          more : (v : Bool) → nat_lt b.page (s.addr.0 / 4096) ≡ v →
              Reaches (s.addr.0 / 4096) (cond v (Some (record { map = m; page = s.addr.0 / 4096 })) (Some b))
          more true e = omega arith
          more false e = ltb-false b.page (s.addr.0 / 4096) e

  keeps : (es : List (ℕ × KeptMap)) (last : Option Beginning) (n : ℕ) → Reaches n last →
      Reaches n (last_of t page last es)
  keeps [] last n r = r
  keeps (e ∷ es) last n r =
      keeps es (cond (e.1.tag == t) (later page last e.0 (segments e.1)) last) n (by (e.1.tag == t))
    where
      by : (v : Bool) → Reaches n (cond v (later page last e.0 (segments e.1)) last)
      by true = later-keeps last e.0 (segments e.1) n r
      by false = r

  reaches : (es : List (ℕ × KeptMap)) (last : Option Beginning) (j k : ℕ) (x : KeptMap) →
      slice_get es j ≡ Some (k, x) → (x.tag == t) ≡ true → 1 ≤ length (segments x) → first_of (segments x) ≤ page →
      Reaches (first_of (segments x)) (last_of t page last es)
  reaches [] last j k x at tag some up = absurd (cc)
  reaches (e ∷ es) last zero k x at tag some up =
      let same : e ≡ (k, x) = cc in
      let mine : (e.1.tag == t) ≡ true = ap (λ (y : ℕ × KeptMap). y.1.tag == t) same ∙ tag in
      keeps es (cond (e.1.tag == t) (later page last e.0 (segments e.1)) last) (first_of (segments x))
      (rw mine (subst (λ (y : ℕ × KeptMap). Reaches (first_of (segments x)) (later page last y.0 (segments y.1)))
      (sym same) (later-takes last k (segments x) some up)))
  reaches (e ∷ es) last (suc j) k x at tag some up =
      reaches es (cond (e.1.tag == t) (later page last e.0 (segments e.1)) last) j k x at tag some up

  from : (es : List (ℕ × KeptMap)) (last : Option Beginning) (b : Beginning) → last_of t page last es ≡ Some b →
      (last ≡ Some b) ⊎ IsOf es b
  from [] last b is = inl is
  from (e ∷ es) last b is =
      by (from es (cond (e.1.tag == t) (later page last e.0 (segments e.1)) last) b is)
    where
      judged : (s : Segment) (ss : List Segment) → segments e.1 ≡ s ∷ ss → (e.1.tag == t) ≡ true → (v : Bool) →
          (nat_le (s.addr.0 / 4096) page && is_later last (s.addr.0 / 4096)) ≡ v →
          cond v (Some (record { map = e.0; page = s.addr.0 / 4096 })) last ≡ Some b →
          (last ≡ Some b) ⊎ IsOf (e ∷ es) b
      judged s ss same tag true h f =
          let parts = and_parts (nat_le (s.addr.0 / 4096) page) (is_later last (s.addr.0 / 4096)) h in
          let up : s.addr.0 / 4096 ≤ page = leb-true (s.addr.0 / 4096) page parts.0 in
          let made : record { map = e.0; page = s.addr.0 / 4096 } ≡ b = cc in
          let first : s.addr.0 / 4096 ≡ b.page = ap (λ (y : Beginning). y.page) made in
          inr (record {
            index = 0;
            map = e.1;
            there = ap (λ k. Some (k, e.1)) (ap (λ (y : Beginning). y.map) made);
            tag = tag;
            some = rw same (omega arith);
            begins = ap first_of same ∙ first;
            before = omega (arith, up, first);
          })
      judged s ss same tag false h f = inl f

      taken : (ss : List Segment) → segments e.1 ≡ ss → (e.1.tag == t) ≡ true → later page last e.0 ss ≡ Some b →
          (last ≡ Some b) ⊎ IsOf (e ∷ es) b
      taken [] same tag f = inl f
      taken (s ∷ ss) same tag f =
          judged s ss same tag (nat_le (s.addr.0 / 4096) page && is_later last (s.addr.0 / 4096)) refl f

      step : (v : Bool) → (e.1.tag == t) ≡ v → cond v (later page last e.0 (segments e.1)) last ≡ Some b →
          (last ≡ Some b) ⊎ IsOf (e ∷ es) b
      step true tag f = taken (segments e.1) refl tag f
      step false tag f = inl f

      by : (cond (e.1.tag == t) (later page last e.0 (segments e.1)) last ≡ Some b) ⊎ IsOf es b →
          (last ≡ Some b) ⊎ IsOf (e ∷ es) b
      by (inl f) = step (e.1.tag == t) refl f
      by (inr r) = inr (record {
        index = suc r.index;
        map = r.map;
        there = r.there;
        tag = r.tag;
        some = r.some;
        begins = r.begins;
        before = r.before;
      })

-- ---- in a driver's table

module _ (h : Holdings) where
  -- an entry of it is found in it
  of-entry : (j k : ℕ) (x : KeptMap) → slice_get (entries h.maps.map) j ≡ Some (k, x) → get h.maps.map k ≡ Some x
  of-entry j k x at =
      all-at (λ (e : ℕ × KeptMap). get h.maps.map e.0 ≡ Some e.1) (entries h.maps.map) j (k, x)
      (of-table h.maps.map) at

  module _ (t page : ℕ) (last : Beginning) (is : last_of t page None (entries h.maps.map) ≡ Some last) where
    one-of : IsOf t page (entries h.maps.map) last
    one-of = by (from t page (entries h.maps.map) None last is)
      where
        by : (None ≡ Some last) ⊎ IsOf t page (entries h.maps.map) last → IsOf t page (entries h.maps.map) last
        by (inl e) = absurd (cc)
        by (inr o) = o

    -- the load that begins last is one of the tag's maps
    pub last-there : (x : KeptMap) × (get h.maps.map last.map ≡ Some x)
    last-there = (one-of.map, of-entry one-of.index last.map one-of.map one-of.there)

    last-same : (x : KeptMap) → get h.maps.map last.map ≡ Some x → one-of.map ≡ x
    last-same x there =
        let map : Some one-of.map ≡ Some x = sym (of-entry one-of.index last.map one-of.map one-of.there) ∙ there in
        cc

    pub last-tag : (x : KeptMap) → get h.maps.map last.map ≡ Some x → x.tag ≡ t
    last-tag x there =
        ap (λ (y : KeptMap). y.tag) (sym (last-same x there)) ∙ eqb-true one-of.map.tag t one-of.tag

    pub last-short : AreShortOf t (entries h.maps.map) → (x : KeptMap) → get h.maps.map last.map ≡ Some x →
        segments_bytes (segments x) < 2 ^ 64
    last-short short x there =
        subst (λ (y : KeptMap). segments_bytes (segments y) < 2 ^ 64) (last-same x there)
        (all-at (λ (e : ℕ × KeptMap). e.1.tag ≡ t → segments_bytes (segments e.1) < 2 ^ 64) (entries h.maps.map)
        one-of.index (last.map, one-of.map) short one-of.there (eqb-true one-of.map.tag t one-of.tag))

-- ---- the map that has an address

module _ (h : Holdings) (wired : IsWired h) (mapped : AreMapped (ideal_of h)) (t a : ℕ)
    (reached : is_some (translated ((ideal_of h).spaces t) a) ≡ true) where
  abbrev l : LaneState
  l = ideal_of h

  abbrev page : ℕ
  page = a / 4096

  device : is_spaced l t ≡ true
  device = spaced-tag h wired t a reached

  runs : AreSpaceRuns 1 (l.spaces t).pages (l.spaces t).runs
  runs = by (get l.tags t) refl device
    where
      by : (o : Option LaneTag) → get l.tags t ≡ o → option_map_or (λ (g : LaneTag). g.device) o false ≡ true →
          AreSpaceRuns 1 (l.spaces t).pages (l.spaces t).runs
      by None e d = absurd (cc)
      by (Some g) e d = (wired.spaced.each t g e d).runs

  -- the live run of a load
  record Run (x : KeptMap) : Type 0 where
    run : DeviceRun
    at : ℕ
    there : slice_get (l.spaces t).runs at ≡ Some run
    first : first_of (segments x) ≡ run.first
    some : 1 ≤ length run.frames
    within : (i b : ℕ) → slice_get (segment_bytes (segments x)) i ≡ Some b → has_page (b / 4096) run ≡ true

  run-of : (k : ℕ) (x : KeptMap) → get h.maps.map k ≡ Some x → x.tag ≡ t → 1 ≤ length (segments x) → Run x
  run-of k x there tag has =
      let same : segments_in (kept_stage x.map.stage) ≡ segments x = segments-same x.map.stage in
      let r : HasRun (l.spaces x.tag) (segments_in (kept_stage x.map.stage)) =
      (mapped.each k (map_of x) (image-some map_of h.maps.map k x there) (ap (is_spaced l) tag ∙ device)
      (has-load x.map.stage has)).run (subst (λ (ss : List Segment). 1 ≤ length ss) (sym same) has) in
      let live : Contains (l.spaces t).runs r.run = subst (λ u. Contains (l.spaces u).runs r.run) tag r.live in
      let at = place-in (l.spaces t).runs r.run live in
      record {
        run = r.run;
        at = at.0;
        there = at.1;
        first = ap first_of (sym same) ∙ r.first;
        some = (live-is 1 (l.spaces t).pages (l.spaces t).runs r.run runs live).1;
        within = λ i b at_b.
            all-at (λ a. has_page (a / 4096) r.run ≡ true) (segment_bytes (segments_in (kept_stage x.map.stage))) i b
            r.within (ap (λ ss. slice_get (segment_bytes ss) i) same ∙ at_b);
      }

  -- a load that begins at or before the page does not begin after the load that has the page
  begins-first : (x y : KeptMap) (r : Run x) (q : Run y) → has_page page r.run ≡ true →
      first_of (segments y) ≤ page → first_of (segments y) ≤ first_of (segments x)
  begins-first x y r q has up = by (nat_lt r.run.first q.run.first) refl
    where
      parts : (nat_le r.run.first page ≡ true) × (nat_lt page (run_end r.run) ≡ true)
      parts = and_parts (nat_le r.run.first page) (nat_lt page (run_end r.run)) has

      by : (v : Bool) → nat_lt r.run.first q.run.first ≡ v → first_of (segments y) ≤ first_of (segments x)
      by true e =
          let behind : r.run.first < q.run.first = ltb-true r.run.first q.run.first e in
          let end : page < run_end r.run = ltb-true page (run_end r.run) parts.1 in
          let begins : q.run.first ≤ page = subst (λ n. n ≤ page) q.first up in
          let some : 1 ≤ length q.run.frames = q.some in
          let shared : has_page q.run.first r.run ≡ true =
          rw (
            le-leb r.run.first q.run.first (omega (arith, behind)),
            lt-ltb q.run.first (run_end r.run) (omega (arith, end, begins)),
          ) refl in
          let own : has_page q.run.first q.run ≡ true =
          rw (
            le-leb q.run.first q.run.first (omega arith),
            lt-ltb q.run.first (run_end q.run) (omega (arith, some)),
          ) refl in
          let one : r.at ≡ q.at =
          run-apart 1 (l.spaces t).pages (l.spaces t).runs r.at q.at q.run.first r.run q.run runs r.there q.there shared
          own in
          let same : Some r.run ≡ Some q.run =
          sym r.there ∙ ap (slice_get (l.spaces t).runs) one ∙ q.there in
          let first : r.run.first ≡ q.run.first =
          ap (λ (o : Option DeviceRun). option_map_or (λ (g : DeviceRun). g.first) o 0) same in
          absurd (omega (arith, behind, first))
      by false e =
          let before : q.run.first ≤ r.run.first = ltb-false r.run.first q.run.first e in
          omega (arith, before, q.first, r.first)

  has-segment : (ss : List Segment) (b p : ℕ) → place_in 0 ss b ≡ Some p → 1 ≤ length ss
  has-segment [] b p e = absurd (cc)
  has-segment (s ∷ ss) b p e = omega arith

  module _ (b : ℕ) (same_page : b / 4096 ≡ page) where
    -- of a map of the tag that has an address of the page
    record Has (k : ℕ) (x : KeptMap) : Type 0 where
      there : get h.maps.map k ≡ Some x
      tag : x.tag ≡ t
      some : 1 ≤ length (segments x)
      run : Run x
      has : has_page page run.run ≡ true
      up : first_of (segments x) ≤ page

    has-of : (j k : ℕ) (x : KeptMap) → slice_get (entries h.maps.map) j ≡ Some (k, x) → (x.tag == t) ≡ true →
        (p : ℕ) → place_in 0 (segments x) b ≡ Some p → Has k x
    has-of j k x at tag p found =
        let there = of-entry h j k x at in
        let mine : x.tag ≡ t = eqb-true x.tag t tag in
        let has = has-segment (segments x) b p found in
        let run = run-of k x there mine has in
        let page_in : has_page page run.run ≡ true =
        ap (λ n. has_page n run.run) (sym same_page)
        ∙ run.within p b (placed-byte (segments x) b p found) in
        let parts = and_parts (nat_le run.run.first page) (nat_lt page (run_end run.run)) page_in in
        let low : run.run.first ≤ page = leb-true run.run.first page parts.0 in
        record {
          there = there;
          tag = mine;
          some = has;
          run = run;
          has = page_in;
          up = omega (arith, low, run.first);
        }

    -- is the one whose load begins last
    owner-of : (last : Beginning) → last_of t page None (entries h.maps.map) ≡ Some last → (j k : ℕ) (x : KeptMap) →
        slice_get (entries h.maps.map) j ≡ Some (k, x) → (x.tag == t) ≡ true → (p : ℕ) →
        place_in 0 (segments x) b ≡ Some p → k ≡ last.map
    owner-of last is j k x at tag p found =
        let x_has : Has k x = has-of j k x at tag p found in
        by (from t page (entries h.maps.map) None last is) x_has
        (subst (Reaches (first_of (segments x))) is
        (reaches t page (entries h.maps.map) None j k x at tag x_has.some x_has.up))
      where
        by : (None ≡ Some last) ⊎ IsOf t page (entries h.maps.map) last → Has k x →
            first_of (segments x) ≤ last.page → k ≡ last.map
        by (inl e) x_has up = absurd (cc)
        by (inr o) x_has up =
            let there = of-entry h o.index last.map o.map o.there in
            let tag : o.map.tag ≡ t = eqb-true o.map.tag t o.tag in
            let run = run-of last.map o.map there tag o.some in
            let first = begins-first x o.map x_has.run run x_has.has (omega (arith, o.begins, o.before)) in
            let one : first_of (segments x) ≡ first_of (segments o.map) = omega (arith, first, up, o.begins) in
            mapped.alone k last.map (map_of x) (map_of o.map)
            (image-some map_of h.maps.map k x x_has.there) (image-some map_of h.maps.map last.map o.map there)
            (ap (is_spaced l) x_has.tag ∙ device) (x_has.tag ∙ sym tag)
            (subst (λ (ss : List Segment). 1 ≤ length ss) (sym (segments-same x.map.stage)) x_has.some)
            (subst (λ (ss : List Segment). 1 ≤ length ss) (sym (segments-same o.map.map.stage)) o.some)
            (ap first_of (segments-same x.map.stage) ∙ one ∙ sym (ap first_of (segments-same o.map.map.stage)))

    none-owned : last_of t page None (entries h.maps.map) ≡ None → (j k : ℕ) (x : KeptMap) →
        slice_get (entries h.maps.map) j ≡ Some (k, x) → (x.tag == t) ≡ true → (p : ℕ) →
        place_in 0 (segments x) b ≡ Some p → ⊥
    none-owned is j k x at tag p found =
        let x_has : Has k x = has-of j k x at tag p found in
        subst (Reaches (first_of (segments x))) is
        (reaches t page (entries h.maps.map) None j k x at tag x_has.some x_has.up)

-- ---- the position of an address

module _ (h : Holdings) (wired : IsWired h) (t a : ℕ)
    (reached : is_some (translated ((ideal_of h).spaces t) a) ≡ true) (b : ℕ) (same_page : b / 4096 ≡ a / 4096) where
  owner : (last : Beginning) → last_of t (a / 4096) None (entries h.maps.map) ≡ Some last → (j k : ℕ) (x : KeptMap) →
      slice_get (entries h.maps.map) j ≡ Some (k, x) → (x.tag == t) ≡ true → (p : ℕ) →
      place_in 0 (segments x) b ≡ Some p → k ≡ last.map
  owner last is j k x at tag p found =
      let one : IsProp (k ≡ last.map) = hlevel (props) in
      ∥∥₁_elim wired.mapped one (λ mapped. owner-of h wired mapped t a reached b same_page last is j k x at tag p found)

  no-owner : last_of t (a / 4096) None (entries h.maps.map) ≡ None → (j k : ℕ) (x : KeptMap) →
      slice_get (entries h.maps.map) j ≡ Some (k, x) → (x.tag == t) ≡ true → place_in 0 (segments x) b ≡ None
  no-owner is j k x at tag = by (place_in 0 (segments x) b) refl
    where
      by : (o : Option ℕ) → place_in 0 (segments x) b ≡ o → place_in 0 (segments x) b ≡ None
      by None e = e
      by (Some p) e =
          let one : IsProp ⊥ = hlevel (props) in
          absurd (∥∥₁_elim wired.mapped one (λ mapped. none-owned h wired mapped t a reached b same_page is j k x at tag
          p e))

  none-at : (es : List (ℕ × KeptMap)) →
      ((j k : ℕ) (x : KeptMap) → slice_get es j ≡ Some (k, x) → (x.tag == t) ≡ true →
      place_in 0 (segments x) b ≡ None) → position_in (ideal_of h) t b (entry_values map_of es) ≡ None
  none-at [] none = refl
  none-at (e ∷ es) none =
      by (e.1.tag == t) refl (none-at es (λ j k x at. none (suc j) k x at))
    where
      by : (v : Bool) → (e.1.tag == t) ≡ v → position_in (ideal_of h) t b (entry_values map_of es) ≡ None →
          position_in (ideal_of h) t b (entry_values map_of (e ∷ es)) ≡ None
      by true tag rest = none-of-it (ideal_of h) t b e.0 e.1 es (none 0 e.0 e.1 refl tag) ∙ rest
      by false tag rest = another-tag (ideal_of h) t b e.0 e.1 es tag ∙ rest

  one-at : (m p : ℕ) (x : KeptMap) (es : List (ℕ × KeptMap)) (j : ℕ) → AreOfTable h.maps.map es →
      get h.maps.map m ≡ Some x → slice_get es j ≡ Some (m, x) → (x.tag == t) ≡ true →
      place_in 0 (segments x) b ≡ Some p →
      ((i k : ℕ) (y : KeptMap) → slice_get es i ≡ Some (k, y) → (y.tag == t) ≡ true → (q : ℕ) →
      place_in 0 (segments y) b ≡ Some q → k ≡ m) →
      position_in (ideal_of h) t b (entry_values map_of es) ≡ slice_get (loan_of (ideal_of h).loans m).positions p
  one-at m p x [] j of there at tag found others = absurd (cc)
  one-at m p x (e ∷ es) zero of there at tag found others =
      let same : e ≡ (m, x) = cc in
      subst (λ (d : ℕ × KeptMap). position_in (ideal_of h) t b (entry_values map_of (d ∷ es))
      ≡ slice_get (loan_of (ideal_of h).loans m).positions p) (sym same) (one-of-it (ideal_of h) t b m x es p tag found)
  one-at m p x (e ∷ es) (suc j) of there at tag found others =
      by (e.1.tag == t) refl (one-at m p x es j of.1 there at tag found (λ i k y. others (suc i) k y))
    where
      there-or-not : (o : Option ℕ) → place_in 0 (segments e.1) b ≡ o → (e.1.tag == t) ≡ true →
          position_in (ideal_of h) t b (entry_values map_of es) ≡ slice_get (loan_of (ideal_of h).loans m).positions p →
          position_in (ideal_of h) t b (entry_values map_of (e ∷ es))
          ≡ slice_get (loan_of (ideal_of h).loans m).positions p
      there-or-not None is mine rest = none-of-it (ideal_of h) t b e.0 e.1 es is ∙ rest
      there-or-not (Some q) is mine rest =
          let key : e.0 ≡ m = others 0 e.0 e.1 refl mine q is in
          let map : Some e.1 ≡ Some x = sym of.0 ∙ ap (get h.maps.map) key ∙ there in
          let place : Some q ≡ Some p =
          sym is ∙ ap (λ (o : Option KeptMap). option_map_or (λ (y : KeptMap). place_in 0 (segments y) b) o None) map
          ∙ found in
          one-of-it (ideal_of h) t b e.0 e.1 es q mine is
          ∙ ap (λ k. slice_get (loan_of (ideal_of h).loans k).positions q) key
          ∙ ap (λ o. slice_get (loan_of (ideal_of h).loans m).positions (unwrap_or o 0)) place

      by : (v : Bool) → (e.1.tag == t) ≡ v →
          position_in (ideal_of h) t b (entry_values map_of es) ≡ slice_get (loan_of (ideal_of h).loans m).positions p →
          position_in (ideal_of h) t b (entry_values map_of (e ∷ es))
          ≡ slice_get (loan_of (ideal_of h).loans m).positions p
      by true mine rest = there-or-not (place_in 0 (segments e.1) b) refl mine rest
      by false other rest = another-tag (ideal_of h) t b e.0 e.1 es other ∙ rest

  pub position-none : last_of t (a / 4096) None (entries h.maps.map) ≡ None →
      position_in (ideal_of h) t b (entries (ideal_of h).maps) ≡ None
  position-none is =
      ap (position_in (ideal_of h) t b) (entries-map_values map_of h.maps.map)
      ∙ none-at (entries h.maps.map) (no-owner is)

  -- where the load that begins last has the address, or not
  pub position-last : (last : Beginning) → last_of t (a / 4096) None (entries h.maps.map) ≡ Some last → (x : KeptMap) →
      get h.maps.map last.map ≡ Some x → (o : Option ℕ) → place_in 0 (segments x) b ≡ o →
      position_in (ideal_of h) t b (entries (ideal_of h).maps)
      ≡ option_map_or (λ p. slice_get (loan_of (ideal_of h).loans last.map).positions p) o None
  position-last last is x there None found =
      ap (position_in (ideal_of h) t b) (entries-map_values map_of h.maps.map)
      ∙ none-at (entries h.maps.map) (λ j k y at tag. other j k y at tag (place_in 0 (segments y) b) refl)
    where
      other : (j k : ℕ) (y : KeptMap) → slice_get (entries h.maps.map) j ≡ Some (k, y) → (y.tag == t) ≡ true →
          (o : Option ℕ) → place_in 0 (segments y) b ≡ o → place_in 0 (segments y) b ≡ None
      other j k y at tag None e = e
      other j k y at tag (Some p) e =
          let key : k ≡ last.map = owner last is j k y at tag p e in
          let map : Some y ≡ Some x = sym (of-entry h j k y at) ∙ ap (get h.maps.map) key ∙ there in
          ap (λ (o : Option KeptMap). option_map_or (λ (z : KeptMap). place_in 0 (segments z) b) o None) map ∙ found
  position-last last is x there (Some p) found =
      ap (position_in (ideal_of h) t b) (entries-map_values map_of h.maps.map)
      ∙ by (from t (a / 4096) (entries h.maps.map) None last is)
    where
      by : (None ≡ Some last) ⊎ IsOf t (a / 4096) (entries h.maps.map) last →
          position_in (ideal_of h) t b (entry_values map_of (entries h.maps.map))
          ≡ slice_get (loan_of (ideal_of h).loans last.map).positions p
      by (inl e) = absurd (cc)
      by (inr o) =
          let map : Some o.map ≡ Some x = sym (of-entry h o.index last.map o.map o.there) ∙ there in
          let same : o.map ≡ x = cc in
          one-at last.map p x (entries h.maps.map) o.index (of-table h.maps.map) there
          (o.there ∙ ap (λ y. Some (last.map, y)) same) (ap (λ (y : KeptMap). y.tag == t) (sym same) ∙ o.tag) found
          (owner last is)
