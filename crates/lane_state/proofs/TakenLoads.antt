-- A driver whose map is idle, of which a load that waited was taken out.
use Rattle.std.proofs.Common.{◌≡◌, ℕ, ◌+◌, ◌≤◌, ◌==◌, Bool, true, false, cond, List, Some, None, refl, sym, ap, ◌∙◌}
use Rattle.std.proofs.Common.{map, subst, arith}
use Rattle.std.proofs.lemmas.Bool.{eq-eqb}
use Rattle.std.proofs.lemmas.Map.Views.{exact_unsigned_eq}
use Rattle.std.specs.Ordering.{nat_cmp}
use Rattle.std.specs.FinMap.{FinMap, contains_key, get, insert}
use Rattle.lane_tables.specs.declared.queued.QueuedPage.{QueuedPage}
use Rattle.busdma_rules.specs.Lending.Loans.{Loans}
use Rattle.phys_memory.specs.Memory.{wire}
use Rattle.ideal_lane.specs.Outcomes.{is_loaded}
use Rattle.ideal_lane.specs.Standing.{Stands, StandsAt}
use Rattle.ideal_lane.specs.State.{Idle, LaneMap, LaneState}
use Rattle.ideal_lane.proofs.Lookups.{get_put}
use Rattle.ideal_lane.proofs.Weights.{weigh-put}
use Rattle.lane_state.specs.declared.holdings.Holdings.{Holdings}
use Rattle.lane_state.specs.declared.kept.KeptMap.{KeptMap}
use Rattle.lane_state.specs.Changes.{KeepsButMaps, KeepsBytes}
use Rattle.lane_state.specs.Covered.{has_load, is_idle_map, is_covered_returning}
use Rattle.lane_state.specs.Covered.{is_tried, lends_pages, pages_due}
use Rattle.lane_state.specs.Covered.{returns_in}
use Rattle.lane_state.specs.Held.{devices_of, held}
use Rattle.lane_state.specs.Ideal.{ideal_of}
use Rattle.lane_state.specs.Kept.{device_in, device_of, due_in, due_of}
use Rattle.lane_state.specs.Kept.{map_of, memory_of, return_of, kept_ring, kept_share}
use Rattle.lane_state.specs.Kept.{kept_stage}
use Rattle.lane_state.specs.Kept.{spaces_of, tag_of}
use Rattle.lane_state.specs.MapValues.{map_values}
use Rattle.lane_state.proofs.Bytes.{devices-put, held-alike}
use Rattle.lane_state.proofs.Called.{KeepsLoad}
use Rattle.lane_state.proofs.MapTables.{AreMaps, maps-of, returns-alike, told-put}
use Rattle.lane_state.proofs.MapValues.{image-some, map_values-insert}
use Rattle.lane_state.proofs.Returned.{idled}

pub put-here : {X : Type 0} (m : FinMap nat_cmp X) (k : ℕ) (v : X) → get (insert m k v) k ≡ Some v
put-here m k v = get_put m k v k ∙ ap (λ b. cond b (Some v) (get m k)) (eq-eqb k k refl)

pub put-other : {X : Type 0} (m : FinMap nat_cmp X) (k q : ℕ) (v : X) → (q == k) ≡ false →
    get (insert m k v) q ≡ get m q
put-other m k q v off = get_put m k v q ∙ ap (λ b. cond b (Some v) (get m q)) off

-- ---- the maps

module _ (maps : FinMap nat_cmp KeptMap) (loans : Loans) (returns : List QueuedPage) (owed : ℕ)
    (are : AreMaps maps loans returns owed) (k : ℕ) (o : KeptMap) (there : get maps k ≡ Some o)
    (load : KeepsLoad o.map.stage) where
  unloaded : has_load (Some o) ≡ false
  unloaded = ap (λ s. is_loaded (kept_stage s)) load.is

  still : is_covered_returning (Some o) ≡ false
  still = ap (λ s. returns_in (kept_stage s)) load.is

  pub due-before : due_of o ≡ load.callback.need
  due-before = ap due_in load.is

  pub due-after : pages_due (insert maps k (idled o)) + load.callback.need ≡ pages_due maps
  due-after =
      let weight : pages_due (insert maps k (idled o)) + due_of o ≡ pages_due maps + 0 =
      weigh-put due_of maps k o (idled o) there in
      omega (arith, weight, due-before)

  pub maps-taken : AreMaps (insert maps k (idled o)) loans returns owed
  maps-taken = record {
    loaded = λ q. are.loaded q
        ∙ sym (told-put has_load maps k (idled o) (sym (ap has_load there ∙ unloaded)) q);
    unlent = λ q. told-put lends_pages maps k (idled o) (sym (are.unlent k)) q ∙ are.unlent q;
    promised = let few : pages_due maps ≤ owed = are.promised in omega (arith, due-after, few);
    returning = returns-alike maps (insert maps k (idled o)) returns
        (told-put is_covered_returning maps k (idled o) (sym (ap is_covered_returning there ∙ still))) are.returning;
    tried = λ q. told-put is_tried maps k (idled o) (sym (are.tried k)) q ∙ are.tried q;
  }

-- ---- the ideal state

-- the map whose load was taken out is idle in a driver that `Stands`
module _ (l : LaneState) (m : ℕ) (o : LaneMap) (there : get l.maps m ≡ Some o) (stands : Stands l) where
  abbrev free : LaneMap
  free = record o { stage = Idle }

  stands-at : (k : ℕ) → k ≡ m → StandsAt l.maxmem l.tags l.mems k free
  stands-at k here =
      let was = stands.each m o there in
      subst (λ j. StandsAt l.maxmem l.tags l.mems j free) (sym here) (record {
        tag = was.tag;
        there = was.there;
        memory = was.memory;
        device = was.device;
        direct = was.direct;
        pageless = λ z. tt;
      })

  pub stands-free : Stands (record l { maps = insert l.maps m free })
  stands-free = record {
    no_tag = stands.no_tag;
    no_map = λ k late. get_put l.maps m free k ∙ none k late (k == m) refl;
    no_memory = stands.no_memory;
    no_ring = stands.no_ring;
    each = λ k x found. each k x (k == m) refl (sym (get_put l.maps m free k) ∙ found);
    ring = λ q r found. (let was = stands.ring q r found in record {
      made = was.made;
      there = λ x e. memory r.mem x (r.mem == m) refl (sym (get_put l.maps m free r.mem) ∙ e) was.there;
      head = was.head;
      few = was.few;
      coherent = was.coherent;
      fits = was.fits;
    });
  }
    where
      memory : (n : ℕ) (x : LaneMap) (b : Bool) → (n == m) ≡ b → cond b (Some free) (get l.maps n) ≡ Some x →
          ((y : LaneMap) → get l.maps n ≡ Some y → contains_key l.mems n ≡ true) → contains_key l.mems n ≡ true
      memory n x true e found was = was o (ap (get l.maps) (exact_unsigned_eq n m e) ∙ there)
      memory n x false e found was = was x found

      none : (k : ℕ) → l.place ≤ k → (b : Bool) → (k == m) ≡ b → cond b (Some free) (get l.maps k) ≡ None
      none k late true e =
          let gone : get l.maps m ≡ None = ap (get l.maps) (sym (exact_unsigned_eq k m e)) ∙ stands.no_map k late in
          absurd (cc)
      none k late false e = stands.no_map k late

      each : (k : ℕ) (x : LaneMap) (b : Bool) → (k == m) ≡ b → cond b (Some free) (get l.maps k) ≡ Some x →
          StandsAt l.maxmem l.tags l.mems k x
      each k x true e found =
          let same : free ≡ x = cc in
          subst (StandsAt l.maxmem l.tags l.mems k) same (stands-at k (exact_unsigned_eq k m e))
      each k x false e found = stands.each k x found

module _ (h k : Holdings) (m : ℕ) (o : KeptMap) (there : get h.maps.map m ≡ Some o) (load : KeepsLoad o.map.stage)
    (maps : k.maps.map ≡ insert h.maps.map m (idled o)) (rest : KeepsButMaps h k) where
  bare : device_of (Some (idled o)) ≡ device_of (get h.maps.map m)
  bare = sym (ap device_of there ∙ ap device_in load.is)

  abbrev pub idle : LaneMap
  idle = record (map_of o) { stage = Idle }

  abbrev pub taken : LaneState
  taken = record (ideal_of h) { maps = insert (ideal_of h).maps m idle }

  pub taken-ideal : ideal_of k ≡ taken
  taken-ideal i = record {
    id = (rest.most.id i).0;
    maxmem = rest.most.maxmem i;
    script = rest.most.script i;
    place = (rest.agenda i).place;
    due = rest.most.due i;
    pages = (rest.most.pages i).now;
    tags = map_values tag_of (rest.tags i).map;
    maps = (ap (map_values map_of) maps ∙ map_values-insert map_of h.maps.map m (idled o)) i;
    mems = map_values memory_of (rest.most.memories i).map;
    rings = map_values kept_ring (rest.most.rings i).map;
    memory = ((λ j. held (rest.most.loans j).bytes (rest.most.loans j).loans (devices_of (maps j))
        (rest.most.memory j).memory)
        ∙ held-alike h.loans.bytes h.loans.loans (devices_of h.maps.map) (devices_of (insert h.maps.map m (idled o)))
        h.memory.memory (devices-put h.maps.map m (idled o) bare)) i;
    loans = (rest.most.loans i).loans;
    queue = (rest.agenda i).queue;
    returns = map return_of (rest.agenda i).returns;
    shares = kept_share (rest.most.shares i).items;
    spaces = spaces_of (rest.tags i).map;
  }

  pub taken-bytes : KeepsBytes h k
  taken-bytes = record {
    own = ap (λ x. wire x.memory) rest.most.memory;
    pages = λ q. ap (λ ms. (devices_of ms q).pages) maps
        ∙ ap (λ d. d.pages) (devices-put h.maps.map m (idled o) bare q);
  }

  pub image : get (ideal_of h).maps m ≡ Some (map_of o)
  image = image-some map_of h.maps.map m o there

  pub taken-there : get (ideal_of k).maps m ≡ Some idle
  taken-there = ap (λ (l : LaneState). get l.maps m) taken-ideal ∙ put-here (ideal_of h).maps m idle

  pub taken-idle : is_idle_map (get k.maps.map m) ≡ true
  taken-idle = ap (λ ms. is_idle_map (get ms m)) maps ∙ ap is_idle_map (put-here h.maps.map m (idled o))

  pub taken-stands : Stands (ideal_of h) → Stands (ideal_of k)
  taken-stands stands =
      subst Stands (sym taken-ideal) (stands-free (ideal_of h) m (map_of o) image stands)

  -- the pages that the load needs are due no more
  pub taken-due : pages_due k.maps.map + load.callback.need ≡ pages_due h.maps.map
  taken-due =
      ap (λ ms. pages_due ms + load.callback.need) maps
      ∙ due-after h.maps.map h.loans.loans h.agenda.returns h.agenda.promised (maps-of h) m o there load

  -- its pages are among those that are promised a place in the return queue
  pub taken-promised : (count : ℕ) → count ≡ load.callback.need → pages_due k.maps.map + count ≤ k.agenda.promised
  taken-promised count need =
      let due =
      due-after h.maps.map h.loans.loans h.agenda.returns h.agenda.promised (maps-of h) m o there load in
      let now : pages_due k.maps.map ≡ pages_due (insert h.maps.map m (idled o)) = ap pages_due maps in
      let place : k.agenda.promised ≡ h.agenda.promised = ap (λ a. a.promised) rest.agenda in
      let few : pages_due h.maps.map ≤ h.agenda.promised = h.promised in
      omega (arith, due, now, place, few, need)
