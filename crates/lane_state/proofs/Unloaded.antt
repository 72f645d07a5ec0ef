-- What holds of a driver's maps and pages once a load of one of them is over.
use Rattle.std.proofs.Common.{◌≡◌, ◌⊎◌, ℕ, ◌+◌, ◌-◌, ◌≤◌, ◌==◌, ◌||◌, Bool, true, false, cond, List, []}
use Rattle.std.proofs.Common.{◌∷◌, ◌++◌, length}
use Rattle.std.proofs.Common.{Some, None, is_some, not, refl, sym, ap, ◌∙◌, arith, inl, inr}
use Rattle.std.proofs.lemmas.Bool.Decides.{nat_tests}
use Rattle.std.proofs.lemmas.List.{map-append}
use Rattle.std.proofs.lemmas.List.Folds.{list_any-append}
use Rattle.std.proofs.lemmas.Map.Views.{exact_unsigned_eq}
use Rattle.std.specs.Ordering.{nat_cmp}
use Rattle.std.specs.FinMap.{FinMap, get, insert, remove}
use Rattle.std.specs.List.{list_any}
use Rattle.busdma_machine.specs.declared.name.MapId.{MapId}
use Rattle.busdma_machine.specs.declared.name.ZoneId.{ZoneId}
use Rattle.busdma_machine.specs.Machine.Page.{FrameBytes}
use Rattle.busdma_machine.specs.Machine.PageList.{RoomyPages}
use Rattle.lane_state.specs.declared.kept.KeptLoad.{KeptLoad}
use Rattle.dma_map.specs.MapView as held
use Rattle.lane_tables.specs.declared.queued.QueuedPage.{QueuedPage}
use Rattle.lane_tables.specs.Queues.{queued_pages}
use Rattle.busdma_rules.specs.Lending.Loans.{Loans}
use Rattle.ideal_lane.specs.Outcomes.{is_idle}
use Rattle.ideal_lane.proofs.Lookups.{get_put, get_cut}
use Rattle.ideal_lane.proofs.Weights.{weigh-put}
use Rattle.lane_state.specs.declared.kept.KeptMap.{KeptMap}
use Rattle.lane_state.specs.Covered.{AreCoveredLoads, AreOwn, has_load}
use Rattle.lane_state.specs.Covered.{lends_pages, pages_due, is_covered_returning}
use Rattle.lane_state.specs.Covered.{is_tried, returns_in}
use Rattle.lane_state.specs.Held.{devices_of}
use Rattle.lane_state.specs.Kept.{device_in, device_of, due_in}
use Rattle.lane_state.specs.Kept.{due_of, map_of, kept_pages_in, kept_stage}
use Rattle.lane_state.proofs.MapTables.{AreMaps, told-put}

-- a map that gave these pages away
abbrev pub left : KeptMap → List FrameBytes → KeptMap
left o pages = record o { map = record o.map { stage = held.left_by pages } }

pub left-unloaded : (o : KeptMap) (pages : List FrameBytes) → has_load (Some (left o pages)) ≡ false
left-unloaded o [] = refl
left-unloaded o (p ∷ pages) = refl

left-unlent : (o : KeptMap) (pages : List FrameBytes) → lends_pages (Some (left o pages)) ≡ false
left-unlent o [] = refl
left-unlent o (p ∷ pages) = refl

left-undue : (o : KeptMap) (pages : List FrameBytes) → due_of (left o pages) ≡ 0
left-undue o [] = refl
left-undue o (p ∷ pages) = refl

pub left-bare : (o : KeptMap) (pages : List FrameBytes) → (device_of (Some (left o pages))).pages ≡ []
left-bare o [] = refl
left-bare o (p ∷ pages) = refl

or-true : (b : Bool) → (b || true) ≡ true
or-true true = refl
or-true false = refl

-- the pages that a loaded map has are those that it gives at last
pages-due-in : (s : held.HeldStage KeptLoad) (p : RoomyPages) → held.held_pages_of s ≡ Some p →
    due_in s ≡ length p.items
pages-due-in held.idle p h = absurd (cc)
pages-due-in (held.waiting load_at callback room) p h = absurd (cc)
pages-due-in (held.loaded bounced segments pages) p h =
    let same : pages ≡ p = cc in ap (λ (q : RoomyPages). length q.items) same
pages-due-in (held.lent bounced segments frames) p h = absurd (cc)
pages-due-in held.returning p h = absurd (cc)

-- the pages of a load are those that its map holds
pages-held-in : (s : held.HeldStage KeptLoad) (p : RoomyPages) → held.held_pages_of s ≡ Some p → (device_in s).pages
    ≡ p.items
pages-held-in held.idle p h = absurd (cc)
pages-held-in (held.waiting load_at callback room) p h = absurd (cc)
pages-held-in (held.loaded bounced segments pages) p h =
    let same : pages ≡ p = cc in ap (λ (q : RoomyPages). q.items) same
pages-held-in (held.lent bounced segments frames) p h = absurd (cc)
pages-held-in held.returning p h = absurd (cc)

queued-are : (m : MapId) (zone : ZoneId) (pages : List FrameBytes) → kept_pages_in (queued_pages m zone pages) ≡ pages
queued-are m zone [] = refl
queued-are m zone (p ∷ pages) = ap (λ ps. p ∷ ps) (queued-are m zone pages)

-- the pages of a map join the queue with their bytes
pub joined-pages : (returns : List QueuedPage) (m : MapId) (zone : ZoneId) (s : held.HeldStage KeptLoad)
    (p : RoomyPages) →
    held.held_pages_of s ≡ Some p →
    kept_pages_in (returns ++ queued_pages m zone p.items) ≡ kept_pages_in returns ++ (device_in s).pages
joined-pages returns m zone s p is =
    map-append (λ (q : QueuedPage). q.page) returns (queued_pages m zone p.items)
    ∙ ap (λ ps. kept_pages_in returns ++ ps) (queued-are m zone p.items ∙ sym (pages-held-in s p is))

held-still : (s : held.HeldStage KeptLoad) (p : RoomyPages) → held.held_pages_of s ≡ Some p →
    returns_in (kept_stage s) ≡ false
held-still held.idle p h = refl
held-still (held.waiting load_at callback room) p h = refl
held-still (held.loaded bounced segments pages) p h = refl
held-still (held.lent bounced segments frames) p h = refl
held-still held.returning p h = absurd (cc)

-- pages of the queue stay those of maps whose pages are on their way back
all-still : (f g : ℕ → Bool) (pages : List QueuedPage) → ((j : ℕ) → f j ≡ true → g j ≡ true) →
    list_any (λ q. not (f q.map.made_at)) pages ≡ false → list_any (λ q. not (g q.map.made_at)) pages ≡ false
all-still f g [] more h = refl
all-still f g (q ∷ pages) more h = by (f q.map.made_at) refl h (all-still f g pages more)
  where
    by : (b : Bool) → f q.map.made_at ≡ b → (not b || list_any (λ p. not (f p.map.made_at)) pages) ≡ false →
        (list_any (λ p. not (f p.map.made_at)) pages ≡ false → list_any (λ p. not (g p.map.made_at)) pages ≡ false) →
        (not (g q.map.made_at) || list_any (λ p. not (g p.map.made_at)) pages) ≡ false
    by true e k rest =
        ap (λ b. not b || list_any (λ p. not (g p.map.made_at)) pages) (more q.map.made_at e) ∙ rest k
    by false e k rest = absurd (cc)

all-queued : (g : ℕ → Bool) (m : MapId) (zone : ZoneId) (pages : List FrameBytes) → g m.made_at ≡ true →
    list_any (λ q. not (g q.map.made_at)) (queued_pages m zone pages) ≡ false
all-queued g m zone [] h = refl
all-queued g m zone (p ∷ pages) h =
    ap (λ b. not b || list_any (λ q. not (g q.map.made_at)) (queued_pages m zone pages)) h
    ∙ all-queued g m zone pages h

own-queued : (lane : ℕ) (m : MapId) (zone : ZoneId) (pages : List FrameBytes) → (m.lane.0 == lane) ≡ true →
    AreOwn lane (queued_pages m zone pages)
own-queued lane m zone [] h = refl
own-queued lane m zone (p ∷ pages) h =
    ap (λ b. not b || list_any (λ q. not (q.map.lane.0 == lane)) (queued_pages m zone pages)) h
    ∙ own-queued lane m zone pages h

both-false : (test : QueuedPage → Bool) (xs ys : List QueuedPage) → list_any test xs ≡ false →
    list_any test ys ≡ false → list_any test (xs ++ ys) ≡ false
both-false test xs ys f g =
    list_any-append test xs ys ∙ ap (λ b. b || list_any test ys) f ∙ g

-- the queue has only the driver's pages after a map's pages join it
pub own-more : (lane : ℕ) (returns : List QueuedPage) (m : MapId) (zone : ZoneId) (pages : List FrameBytes) →
    (m.lane.0 == lane) ≡ true → AreOwn lane returns → AreOwn lane (returns ++ queued_pages m zone pages)
own-more lane returns m zone pages own are =
    both-false (λ q. not (q.map.lane.0 == lane)) returns (queued_pages m zone pages) are
    (own-queued lane m zone pages own)

module _ (maps : FinMap nat_cmp KeptMap) (loans : Loans) (returns : List QueuedPage) (owed : ℕ)
    (are : AreMaps maps loans returns owed) (m : MapId) (o : KeptMap) (p : RoomyPages)
    (there : get maps m.made_at ≡ Some o) (pages : held.held_pages_of o.map.stage ≡ Some p) where
  abbrev k : ℕ
  k = m.made_at

  abbrev now : FinMap nat_cmp KeptMap
  now = insert maps k (left o p.items)

  count : due_of o ≡ length p.items
  count = pages-due-in o.map.stage p pages

  weight : pages_due now + due_of o ≡ pages_due maps + due_of (left o p.items)
  weight = weigh-put due_of maps k o (left o p.items) there

  -- the pages of the map are not due any more
  pub pages-over : pages_due now + length p.items ≡ pages_due maps
  pages-over = omega (arith, weight, count, left-undue o p.items)

  -- the queue has a place for its pages
  pub pages-few : length p.items ≤ owed
  pages-few =
      let few : pages_due maps ≤ owed = are.promised in
      omega (arith, weight, count, few, left-undue o p.items)

  loaded-now : AreCoveredLoads now (remove loans k)
  loaded-now q =
      ap is_some (get_cut loans k q) ∙ by (q == k) refl
      ∙ sym (ap has_load (get_put maps k (left o p.items) q))
    where
      by : (b : Bool) → (q == k) ≡ b →
          is_some (cond b None (get loans q)) ≡ has_load (cond b (Some (left o p.items)) (get maps q))
      by true e = sym (left-unloaded o p.items)
      by false e = are.loaded q

  still-now : (j : ℕ) → is_covered_returning (get maps j) ≡ true → is_covered_returning (get now j) ≡ true
  still-now j h = ap is_covered_returning (get_put maps k (left o p.items) j) ∙ by (j == k) refl
    where
      by : (b : Bool) → (j == k) ≡ b → is_covered_returning (cond b (Some (left o p.items)) (get maps j)) ≡ true
      by true e =
          let here : is_covered_returning (get maps j) ≡ false =
          ap (λ i. is_covered_returning (get maps i)) (exact_unsigned_eq j k e) ∙ ap is_covered_returning there
          ∙ held-still o.map.stage p pages in
          absurd (cc)
      by false e = h

  left-returning : (items : List FrameBytes) (zone : ZoneId) →
      list_any (λ q. not (is_covered_returning (get (insert maps k (left o items)) q.map.made_at)))
      (queued_pages m zone items) ≡ false
  left-returning [] zone = refl
  left-returning (x ∷ items) zone =
      let same : (k == k) ≡ true = grind (arith, nat_tests) in
      all-queued (λ j. is_covered_returning (get (insert maps k (left o (x ∷ items))) j)) m zone (x ∷ items)
      (ap is_covered_returning (get_put maps k (left o (x ∷ items)) k)
      ∙ ap (λ b. is_covered_returning (cond b (Some (left o (x ∷ items))) (get maps k))) same)

  pub maps-unloaded : (zone : ZoneId) → o.map.tried ≡ true →
      AreMaps now (remove loans k) (returns ++ queued_pages m zone p.items) (owed - length p.items)
  maps-unloaded zone tried = record {
    loaded = loaded-now;
    unlent = λ q. told-put lends_pages maps k (left o p.items)
        (left-unlent o p.items ∙ sym (are.unlent k)) q ∙ are.unlent q;
    promised = let few : pages_due maps ≤ owed = are.promised in
        omega (arith, weight, count, few, left-undue o p.items);
    returning = both-false (λ q. not (is_covered_returning (get now q.map.made_at))) returns
        (queued_pages m zone p.items)
        (all-still (λ j. is_covered_returning (get maps j)) (λ j. is_covered_returning (get now j)) returns still-now
        are.returning)
        (left-returning p.items zone);
    tried = λ q. told-put is_tried maps k (left o p.items)
        (ap (λ b. is_idle (map_of (left o p.items)).stage || b) tried ∙ or-true _ ∙ sym (are.tried k)) q ∙ are.tried q;
  }

  -- no other map has lost its pages
  pub pages-held : (q : ℕ) → ((devices_of now q).pages ≡ (devices_of maps q).pages) ⊎ ((devices_of now q).pages ≡ [])
  pages-held q = by (q == k) (ap (λ o. (device_of o).pages) (get_put maps k (left o p.items) q))
    where
      by : (b : Bool) → (devices_of now q).pages ≡ (device_of (cond b (Some (left o p.items)) (get maps q))).pages →
          ((devices_of now q).pages ≡ (devices_of maps q).pages) ⊎ ((devices_of now q).pages ≡ [])
      by true e = inr (e ∙ left-bare o p.items)
      by false e = inl e
