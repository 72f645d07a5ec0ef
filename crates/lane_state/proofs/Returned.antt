-- What holds of a driver's maps once a page of one of them left the return queue.
use Rattle.std.proofs.Common.{◌≡◌, ℕ, ◌+◌, ◌≤◌, ◌==◌, ◌||◌, not, Bool, true, false, cond, List, [], ◌∷◌, map, Some}
use Rattle.std.proofs.Common.{refl, sym, ap, ◌∙◌, arith}
use Rattle.std.specs.FinMap.{FinMap, get, insert}
use Rattle.std.specs.List.{list_any}
use Rattle.std.specs.Ordering.{nat_cmp}
use Rattle.busdma_machine.specs.declared.name.MapId.{MapId}
use Rattle.dma_map.specs.MapView.{idle}
use Rattle.lane_agreement.specs.View.{Return}
use Rattle.lane_tables.specs.declared.queued.QueuedPage.{QueuedPage}
use Rattle.lane_tables.specs.Queues.{queue_has_page}
use Rattle.busdma_rules.specs.Lending.Loans.{Loans}
use Rattle.ideal_lane.specs.Outcomes.{is_loaded}
use Rattle.ideal_lane.proofs.Lookups.{get_put}
use Rattle.ideal_lane.proofs.Weights.{weigh-put}
use Rattle.lane_state.specs.declared.kept.KeptMap.{KeptMap}
use Rattle.lane_state.specs.Covered.{AreOwn, AreReturning, has_load}
use Rattle.lane_state.specs.Covered.{lends_pages, pages_due, is_covered_returning, is_tried}
use Rattle.lane_state.specs.Covered.{returns_in}
use Rattle.lane_state.specs.Held.{devices_of}
use Rattle.lane_state.specs.Kept.{device_of, device_in, no_device, due_in}
use Rattle.lane_state.specs.Kept.{due_of, map_of, return_of, kept_stage}
use Rattle.lane_state.specs.declared.kept.KeptLoad.{KeptLoad}
use Rattle.dma_map.specs.MapView as held
use Rattle.lane_state.proofs.Bytes.{devices-put}
use Rattle.lane_state.proofs.MapTables.{AreMaps, told-put}
use Rattle.lane_state.proofs.ReturnSteps.{any-pages, own-head, still-returning}

-- a map that is idle again
abbrev pub idled : KeptMap → KeptMap
idled o = record o { map = record o.map { stage = idle } }

named-pages : (m : MapId) (pages : List QueuedPage) →
    list_any (λ (r : Return). r.map == m.made_at) (map return_of pages)
    ≡ list_any (λ q. q.map.made_at == m.made_at) pages
named-pages m [] = refl
named-pages m (q ∷ pages) = ap (λ b. (q.map.made_at == m.made_at) || b) (named-pages m pages)

either_false : (a b : Bool) → (a || b) ≡ false → (a ≡ false) × (b ≡ false)
either_false true b h = absurd (cc)
either_false false b h = (refl, h)

still-back : (maps : FinMap nat_cmp KeptMap) (k : ℕ) (o : KeptMap) (pages : List QueuedPage) →
    list_any (λ q. q.map.made_at == k) pages ≡ false → AreReturning maps pages → AreReturning (insert maps k o) pages
still-back maps k o [] none are = refl
still-back maps k o (q ∷ pages) none are =
    let off = either_false (q.map.made_at == k) (list_any (λ p. p.map.made_at == k) pages) none in
    let parts =
    own-head (is_covered_returning (get maps q.map.made_at))
    (list_any (λ p. not (is_covered_returning (get maps p.map.made_at))) pages) are in
    let here : is_covered_returning (get (insert maps k o) q.map.made_at) ≡ true =
    ap is_covered_returning (get_put maps k o q.map.made_at)
    ∙ ap (λ b. is_covered_returning (cond b (Some o) (get maps q.map.made_at))) off.0 ∙ parts.0 in
    ap (λ b. not b || list_any (λ p. not (is_covered_returning (get (insert maps k o) p.map.made_at))) pages) here
    ∙ still-back maps k o pages off.1 parts.1

bare-in : (s : held.HeldStage KeptLoad) → returns_in (kept_stage s) ≡ true → device_in s ≡ no_device
bare-in held.idle h = refl
bare-in (held.waiting load_at callback room) h = refl
bare-in (held.loaded bounced segments pages) h = absurd (cc)
bare-in (held.lent bounced segments frames) h = absurd (cc)
bare-in held.returning h = refl

returning-due : (s : held.HeldStage KeptLoad) → returns_in (kept_stage s) ≡ true → due_in s ≡ 0
returning-due held.idle h = refl
returning-due (held.waiting load_at callback room) h = absurd (cc)
returning-due (held.loaded bounced segments pages) h = absurd (cc)
returning-due (held.lent bounced segments frames) h = absurd (cc)
returning-due held.returning h = refl

module _ (maps : FinMap nat_cmp KeptMap) (loans : Loans) (owed : ℕ) (rest : List QueuedPage)
    (are : AreMaps maps loans rest owed) (lane : ℕ) (m : MapId) (o : KeptMap)
    (there : get maps m.made_at ≡ Some o) (still : returns_in (map_of o).stage ≡ true)
    (mine : m.lane.0 ≡ lane) (own : AreOwn lane rest) where
  abbrev k : ℕ
  k = m.made_at

  -- a map of which no page is left has nothing either way
  pub devices-back : (q : ℕ) → devices_of (insert maps k (idled o)) q ≡ devices_of maps q
  devices-back q =
      devices-put maps k (idled o) (sym (ap device_of there ∙ bare-in o.map.stage still)) q

  pub devices-after : (last : Bool) (q : ℕ) →
      devices_of (cond last (insert maps k (idled o)) maps) q ≡ devices_of maps q
  devices-after true q = devices-back q
  devices-after false q = refl

  weight : pages_due (insert maps k (idled o)) + due_of o ≡ pages_due maps + 0
  weight = weigh-put due_of maps k o (idled o) there

  -- as many pages are due to join the queue as before
  pub due-back : (last : Bool) → pages_due (cond last (insert maps k (idled o)) maps) ≡ pages_due maps
  due-back true = omega (arith, weight, returning-due o.map.stage still)
  due-back false = refl

  unloaded : has_load (Some o) ≡ false
  unloaded = ap is_loaded (still-returning (map_of o).stage still)

  pub maps-back : (last : Bool) → last ≡ not (queue_has_page m rest) →
      AreMaps (cond last (insert maps k (idled o)) maps) loans rest owed
  maps-back false is = are
  maps-back true is = record {
    loaded = λ q. are.loaded q
        ∙ sym (told-put has_load maps k (idled o) (sym (ap has_load there ∙ unloaded)) q);
    unlent = λ q. told-put lends_pages maps k (idled o) (sym (are.unlent k)) q ∙ are.unlent q;
    promised = let few : pages_due maps ≤ owed = are.promised in omega (arith, weight, few);
    returning = still-back maps k (idled o) rest (sym (named-pages m rest)
        ∙ any-pages lane m rest mine own ∙ no_more (queue_has_page m rest) is) are.returning;
    tried = λ q. told-put is_tried maps k (idled o) (sym (are.tried k)) q ∙ are.tried q;
  }
    where
      no_more : (b : Bool) → true ≡ not b → b ≡ false
      no_more true h = absurd (cc)
      no_more false h = refl
