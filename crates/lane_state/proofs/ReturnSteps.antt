-- The step that gives a page back, and the stage in which it leaves the page's map.
use Rattle.std.proofs.Common.{◌≡◌, ℕ, ◌+◌, ◌==◌, ◌&&◌, ◌||◌, not, Bool, true, false, cond, List, [], ◌∷◌}
use Rattle.std.proofs.Common.{map, Option, Some, None}
use Rattle.std.proofs.Common.{refl, sym, ap, ◌∙◌, arith}
use Rattle.std.proofs.lemmas.Bool.Decides.{nat_tests}
use Rattle.std.proofs.lemmas.List.Sums.{sum_by-cons}
use Rattle.std.specs.FinMap.{FinMap, get, insert}
use Rattle.std.specs.List.{list_any, count_by}
use Rattle.std.specs.Ordering.{nat_cmp}
use Rattle.busdma_machine.specs.declared.name.MapId.{MapId}
use Rattle.dma_map.specs.MapView.{idle}
use Rattle.lane_agreement.specs.View.{Return, returning}
use Rattle.lane_tables.specs.declared.queued.QueuedPage.{QueuedPage}
use Rattle.lane_tables.specs.Places.{Places}
use Rattle.lane_tables.specs.Queues.{queue_has_page}
use Rattle.ideal_lane.specs.State.{LaneState, LaneMap, Stage, Idle, Waiting, Loaded, Returning}
use Rattle.ideal_lane.specs.Unloads.{given_back}
use Rattle.lane_state.specs.declared.kept.KeptMap.{KeptMap}
use Rattle.lane_state.specs.Covered.{AreOwn, is_covered_returning, returns_in}
use Rattle.lane_state.specs.Kept.{map_of, return_of}
use Rattle.lane_state.specs.MapValues.{map_values}
use Rattle.lane_state.proofs.MapValues.{image-some, map_values-insert}
use Rattle.lane_state.proofs.Places.{put-back}

-- nothing is counted if nothing passes the test
none-counted : {X : Type 0} (p : X → Bool) (xs : List X) → (count_by p xs == 0) ≡ not (list_any p xs)
none-counted p [] = refl
none-counted p (x ∷ xs) = ap (λ n. n == 0) (sum_by-cons (λ y. cond (p y) 1 0) x xs) ∙ by (none-counted p xs) (p x)
  where
    more : (n : ℕ) → (1 + n == 0) ≡ false
    more n = grind (arith, nat_tests)

    by : (count_by p xs == 0) ≡ not (list_any p xs) → (b : Bool) →
        (cond b 1 0 + count_by p xs == 0) ≡ not (b || list_any p xs)
    by rest true = more (count_by p xs)
    by rest false =
        let same : (0 + count_by p xs == 0) ≡ (count_by p xs == 0) = ap (λ n. n == 0) (omega arith) in same ∙ rest

pub own-head : (b c : Bool) → (not b || c) ≡ false → (b ≡ true) × (c ≡ false)
own-head true c h = (refl, h)
own-head false c h = absurd (cc)

pub any-pages : (lane : ℕ) (m : MapId) (pages : List QueuedPage) → m.lane.0 ≡ lane → AreOwn lane pages →
    list_any (λ r. r.map == m.made_at) (map return_of pages) ≡ queue_has_page m pages
any-pages lane m [] own are = refl
any-pages lane m (q ∷ pages) own are =
    let parts =
    own-head (q.map.lane.0 == lane) (list_any (λ p. not (p.map.lane.0 == lane)) pages) are in
    let mine : (q.map.lane.0 == m.lane.0) ≡ true = ap (λ n. q.map.lane.0 == n) own ∙ parts.0 in
    (λ i. sym (ap (λ b. b && (q.map.made_at == m.made_at)) mine) i || any-pages lane m pages own parts.1 i)

-- a page of a map was the map's last in the queue if no other page of the map is there
pub last-is : (lane : ℕ) (m : MapId) (pages : List QueuedPage) → m.lane.0 ≡ lane → AreOwn lane pages →
    (returning m.made_at (map return_of pages) == 0) ≡ not (queue_has_page m pages)
last-is lane m pages own are =
    none-counted (λ (r : Return). r.map == m.made_at) (map return_of pages) ∙ ap not (any-pages lane m pages own are)

pub still-returning : (s : Stage) → returns_in s ≡ true → s ≡ Returning
still-returning Idle h = absurd (cc)
still-returning (Waiting w) h = absurd (cc)
still-returning (Loaded bounced segments pages) h = absurd (cc)
still-returning Returning h = refl

-- the map of a page after it left the queue
pub back-in : (maps : FinMap nat_cmp KeptMap) (k : ℕ) (o : KeptMap) (last : Bool) → get maps k ≡ Some o →
    returns_in (map_of o).stage ≡ true →
    map_values map_of (cond last (insert maps k (record o { map = record o.map { stage = idle } })) maps)
    ≡ insert (map_values map_of maps) k (record (map_of o) { stage = cond last Idle Returning })
back-in maps k o true there still =
    map_values-insert map_of maps k (record o { map = record o.map { stage = idle } })
back-in maps k o false there still =
    sym (ap (λ s. insert (map_values map_of maps) k (record (map_of o) { stage = s }))
    (sym (still-returning (map_of o).stage still))
    ∙ put-back (map_values map_of maps) k (map_of o) (image-some map_of maps k o there))

-- the driver after a page of a map left the queue
pub given-back-is : (l : LaneState) (r : Return) (rest : List Return) (o : LaneMap) (last : Bool) →
    get l.maps r.map ≡ Some o → (returning r.map rest == 0) ≡ last →
    given_back r rest l
    ≡ record l { maps = insert l.maps r.map (record o { stage = cond last Idle Returning }); returns = rest }
given-back-is l r rest o last there is = rw (there, is) refl

-- the map of a page of the queue is there
pub returning-there : (o : Option KeptMap) → is_covered_returning o ≡ true →
    (x : KeptMap) × (o ≡ Some x) × (returns_in (map_of x).stage ≡ true)
returning-there None h = absurd (cc)
returning-there (Some x) h = (x, refl, h)

-- what the note of a return left, whether or not the page was the last
pub noted : (old new : Places KeptMap) (k : ℕ) (o : KeptMap) (last : Bool) → get old.map k ≡ Some o →
    (last ≡ true → (x : KeptMap) → get old.map k ≡ Some x →
    new ≡ record old { map = insert old.map k (record x { map = record x.map { stage = idle } }) }) →
    (last ≡ false → new ≡ old) →
    new ≡ record old { map = cond last (insert old.map k (record o { map = record o.map { stage = idle } })) old.map }
noted old new k o true there f g = f refl o there
noted old new k o false there f g = g refl
