-- What holds of the loads that wait after a change of one of the tables that `AreAwaiting` is about.
use Rattle.std.proofs.Common.{◌≡◌, ℕ, ◌==◌, Bool, true, false, cond, List, [], ◌∷◌, Option, Some, None, IfSome}
use Rattle.std.proofs.Common.{Result, Ok, Err, OnOk, OnErr, is_some, refl, sym, ap, ◌∙◌, subst}
use Rattle.std.proofs.lemmas.Bool.{eq-eqb, eqb-true, false≢true}
use Rattle.std.proofs.lemmas.Map.Views.{exact_unsigned_eq}
use Rattle.std.specs.List.{list_any}
use Rattle.std.specs.Option.{option_map}
use Rattle.std.specs.Ordering.{nat_cmp}
use Rattle.std.specs.FinMap.{FinMap, get, insert, remove, empty, entries, get-empty, get-entries}
use Rattle.busdma_machine.specs.declared.tags.tag.TagLimits.{TagLimits}
use Rattle.busdma_machine.specs.Machine.Page.{FrameBytes}
use Rattle.busdma_base.specs.declared.scenarios.scenario.PageRun.{PageRun}
use Rattle.dma_map.specs.declared.room.LoadRoom.{LoadRoom}
use Rattle.dma_map.specs.MapView as held
use Rattle.busdma_rules.specs.Lending.Loans.{Loan, Loans}
use Rattle.loan_table.specs.Table.{IsSame, Table}
use Rattle.ideal_lane.specs.Outcomes.{is_idle, is_loaded}
use Rattle.ideal_lane.specs.State.{LaneMap}
use Rattle.ideal_lane.proofs.Lookups.{get_cut, get_put}
use Rattle.ideal_wire.proofs.Faithful.Lent.{find_any}
use Rattle.lane_state.specs.declared.kept.KeptLoad.{KeptLoad}
use Rattle.lane_state.specs.declared.kept.KeptMap.{KeptMap}
use Rattle.lane_state.specs.declared.kept.KeptTag.{KeptTag}
use Rattle.lane_state.specs.declared.holdings.Holdings.{Holdings}
use Rattle.lane_state.specs.Awaiting.{AreAwaiting, AreOfMaps, IsAwaitingNow}
use Rattle.lane_state.specs.Awaiting.{awaited_map, kept_load, limits_at}
use Rattle.lane_state.specs.Covered.{has_load, is_idle_map, is_covered_returning, returns_in}
use Rattle.lane_state.specs.Kept.{map_of, kept_stage}
use Rattle.lane_state.specs.MapValues.{map_values}
use Rattle.lane_state.proofs.MapValues.{image-some}
use Rattle.lane_state.proofs.TakenLoads.{put-here, put-other}
use Rattle.lane_state.proofs.Unloaded.{left}

-- ---- maps of which no load waits

idle-in : (s : held.HeldStage KeptLoad) → is_idle (kept_stage s) ≡ true → held.held_waiting_load s ≡ None
idle-in held.idle h = refl
idle-in (held.waiting load_at callback room) h = absurd (cc)
idle-in (held.loaded bounced segments pages) h = refl
idle-in (held.lent bounced segments frames) h = refl
idle-in held.returning h = refl

loaded-in : (s : held.HeldStage KeptLoad) → is_loaded (kept_stage s) ≡ true → held.held_waiting_load s ≡ None
loaded-in held.idle h = refl
loaded-in (held.waiting load_at callback room) h = absurd (cc)
loaded-in (held.loaded bounced segments pages) h = refl
loaded-in (held.lent bounced segments frames) h = refl
loaded-in held.returning h = refl

returns-in : (s : held.HeldStage KeptLoad) → returns_in (kept_stage s) ≡ true → held.held_waiting_load s ≡ None
returns-in held.idle h = refl
returns-in (held.waiting load_at callback room) h = absurd (cc)
returns-in (held.loaded bounced segments pages) h = refl
returns-in (held.lent bounced segments frames) h = refl
returns-in held.returning h = refl

pub idle-unkept : (o : Option KeptMap) → is_idle_map o ≡ true → kept_load o ≡ None
idle-unkept None h = refl
idle-unkept (Some x) h = idle-in x.map.stage h

pub loaded-unkept : (o : Option KeptMap) → has_load o ≡ true → kept_load o ≡ None
loaded-unkept None h = refl
loaded-unkept (Some x) h = loaded-in x.map.stage h

pub returning-unkept : (o : Option KeptMap) → is_covered_returning o ≡ true → kept_load o ≡ None
returning-unkept None h = refl
returning-unkept (Some x) h = returns-in x.map.stage h

pub left-unkept : (o : KeptMap) (pages : List FrameBytes) → kept_load (Some (left o pages)) ≡ None
left-unkept o [] = refl
left-unkept o (p ∷ pages) = refl

unawaited : (tags : FinMap nat_cmp KeptTag) (o : Option KeptMap) → kept_load o ≡ None → awaited_map tags o ≡ None
unawaited tags None none = refl
unawaited tags (Some x) none =
    ap (option_map (λ (w : ℕ × KeptLoad × LoadRoom). (w.1, w.2, limits_at tags x.tag))) none

cut-at : {X : Type 0} (m : FinMap nat_cmp X) (k : ℕ) → get (remove m k) k ≡ None
cut-at m k = get_cut m k k ∙ ap (λ b. cond b None (get m k)) (eq-eqb k k refl)

-- no map has a tag if no map of the ideal driver has it
pub none-tagged : (maps : FinMap nat_cmp KeptMap) (t : ℕ) →
    list_any (λ (e : ℕ × LaneMap). e.1.tag == t) (entries (map_values map_of maps)) ≡ false →
    (q : ℕ) (o : KeptMap) → get maps q ≡ Some o → (o.tag == t) ≡ false
none-tagged maps t none q o there = by (o.tag == t) refl
  where
    by : (b : Bool) → (o.tag == t) ≡ b → b ≡ false
    by false e = refl
    by true e =
        absurd (false≢true (sym none ∙ find_any (λ (e : ℕ × LaneMap). e.1.tag == t) (entries (map_values map_of maps)) q
        (map_of o) (sym (get-entries (map_values map_of maps) q) ∙ image-some map_of maps q o there) e))

-- ---- what a load that waits has

module _ (pages : List PageRun) (maxmem : ℕ) where
  abbrev pub Waits : Option Loan → Option (KeptLoad × LoadRoom × Option TagLimits) → Type 0
  Waits loan w = IfSome w (λ w. IsAwaitingNow pages maxmem w.2 loan w.0 w.1)

  waits-none : (loan : Option Loan) (w : Option (KeptLoad × LoadRoom × Option TagLimits)) → w ≡ None → Waits loan w
  waits-none loan w none = subst (Waits loan) (sym none) tt

  -- no load waits where there is no map
  pub awaiting-empty : (tags : FinMap nat_cmp KeptTag) (prepared : Loans) → AreAwaiting pages maxmem tags empty prepared
  awaiting-empty tags prepared q =
      waits-none (get prepared q) (awaited_map tags (get empty q)) (ap (awaited_map tags) (get-empty nat_cmp q))

  module _ (tags : FinMap nat_cmp KeptTag) (maps : FinMap nat_cmp KeptMap) (prepared : Loans)
      (are : AreAwaiting pages maxmem tags maps prepared) where
    -- all loads but that of one map wait as they did
    awaiting-but : (ms : FinMap nat_cmp KeptMap) (ls : Loans) (k : ℕ) →
        ((q : ℕ) → (q == k) ≡ false → awaited_map tags (get ms q) ≡ awaited_map tags (get maps q)) →
        ((q : ℕ) → (q == k) ≡ false → get ls q ≡ get prepared q) → Waits (get ls k) (awaited_map tags (get ms k)) →
        AreAwaiting pages maxmem tags ms ls
    awaiting-but ms ls k told ready here q = by (q == k) refl
      where
        by : (b : Bool) → (q == k) ≡ b → Waits (get ls q) (awaited_map tags (get ms q))
        by true e =
            subst (λ j. Waits (get ls j) (awaited_map tags (get ms j))) (sym (exact_unsigned_eq q k e)) here
        by false e =
            subst (λ (x : Option Loan × Option (KeptLoad × LoadRoom × Option TagLimits)). Waits x.0 x.1)
            (λ i. (sym (ready q e) i, sym (told q e) i)) (are q)

    -- the stage of one map changes, and so does what is prepared for this map only
    pub awaiting-put : (k : ℕ) (v : KeptMap) (ls : Loans) → ((q : ℕ) → (q == k) ≡ false → get ls q ≡ get prepared q) →
        Waits (get ls k) (awaited_map tags (Some v)) → AreAwaiting pages maxmem tags (insert maps k v) ls
    awaiting-put k v ls ready here =
        awaiting-but (insert maps k v) ls k (λ q off. ap (awaited_map tags) (put-other maps k q v off)) ready
        (subst (λ o. Waits (get ls k) (awaited_map tags o)) (sym (put-here maps k v)) here)

    -- a map is put of which no load waits
    pub awaiting-rest : (k : ℕ) (v : KeptMap) → kept_load (Some v) ≡ None →
        AreAwaiting pages maxmem tags (insert maps k v) prepared
    awaiting-rest k v none =
        awaiting-put k v prepared (λ q off. refl)
        (waits-none (get prepared k) (awaited_map tags (Some v)) (unawaited tags (Some v) none))

    pub awaiting-rest-if : (b : Bool) (k : ℕ) (v : KeptMap) → kept_load (Some v) ≡ None →
        AreAwaiting pages maxmem tags (cond b (insert maps k v) maps) prepared
    awaiting-rest-if true k v none = awaiting-rest k v none
    awaiting-rest-if false k v none = are

    -- a map goes
    pub awaiting-cut : (k : ℕ) → AreAwaiting pages maxmem tags (remove maps k) prepared
    awaiting-cut k =
        awaiting-but (remove maps k) prepared k
        (λ q off. ap (awaited_map tags) (get_cut maps k q ∙ ap (λ b. cond b None (get maps q)) off)) (λ q off. refl)
        (waits-none (get prepared k) (awaited_map tags (get (remove maps k) k)) (ap (awaited_map tags) (cut-at maps k)))

    -- what is prepared for a map is another, of which no load waits
    pub awaiting-ready : (k : ℕ) (ls : Loans) → kept_load (get maps k) ≡ None →
        ((q : ℕ) → (q == k) ≡ false → get ls q ≡ get prepared q) → AreAwaiting pages maxmem tags maps ls
    awaiting-ready k ls none ready =
        awaiting-but maps ls k (λ q off. refl) ready
        (waits-none (get ls k) (awaited_map tags (get maps k)) (unawaited tags (get maps k) none))

    -- the tags of maps have the limits that they had
    awaiting-tags : (ts : FinMap nat_cmp KeptTag) →
        ((q : ℕ) (o : KeptMap) → get maps q ≡ Some o → is_some (limits_at tags o.tag) ≡ true →
        limits_at ts o.tag ≡ limits_at tags o.tag) → AreAwaiting pages maxmem ts maps prepared
    awaiting-tags ts same q = by (get maps q) refl (are q)
      where
        told : (o : KeptMap) → get maps q ≡ Some o → (w : Option (ℕ × KeptLoad × LoadRoom)) →
            Waits (get prepared q) (option_map (λ (x : ℕ × KeptLoad × LoadRoom). (x.1, x.2, limits_at tags o.tag)) w) →
            Waits (get prepared q) (option_map (λ (x : ℕ × KeptLoad × LoadRoom). (x.1, x.2, limits_at ts o.tag)) w)
        told o e None was = tt
        told o e (Some x) was =
            subst (λ t. IsAwaitingNow pages maxmem t (get prepared q) x.1 x.2) (sym (same q o e was.tagged)) was

        by : (o : Option KeptMap) → get maps q ≡ o → Waits (get prepared q) (awaited_map tags o) →
            Waits (get prepared q) (awaited_map ts o)
        by None e was = tt
        by (Some o) e was = told o e (held.held_waiting_load o.map.stage) was

    -- a tag is put at a place that had none
    pub awaiting-tag : (p : ℕ) (t : KeptTag) → get tags p ≡ None →
        AreAwaiting pages maxmem (insert tags p t) maps prepared
    awaiting-tag p t none = awaiting-tags (insert tags p t) (λ q o e some.
        ap (option_map (λ (t : KeptTag). t.tag)) (get_put tags p t o.tag) ∙ by o some (o.tag == p) refl)
      where
        by : (o : KeptMap) → is_some (limits_at tags o.tag) ≡ true → (b : Bool) → (o.tag == p) ≡ b →
            option_map (λ (t : KeptTag). t.tag) (cond b (Some t) (get tags o.tag)) ≡ limits_at tags o.tag
        by o some true e =
            let gone : limits_at tags o.tag ≡ None =
            ap (limits_at tags) (eqb-true o.tag p e) ∙ ap (option_map (λ (t : KeptTag). t.tag)) none in
            absurd (false≢true (sym (ap is_some gone) ∙ some))
        by o some false e = refl

    -- a tag is put in the place of one with the same limits
    pub awaiting-tag-again : (p : ℕ) (t old : KeptTag) → get tags p ≡ Some old → t.tag ≡ old.tag →
        AreAwaiting pages maxmem (insert tags p t) maps prepared
    awaiting-tag-again p t old there same = awaiting-tags (insert tags p t) (λ q o e some.
        ap (option_map (λ (t : KeptTag). t.tag)) (get_put tags p t o.tag) ∙ by o (o.tag == p) refl)
      where
        by : (o : KeptMap) → (b : Bool) → (o.tag == p) ≡ b →
            option_map (λ (t : KeptTag). t.tag) (cond b (Some t) (get tags o.tag)) ≡ limits_at tags o.tag
        by o true e =
            ap (λ x. Some x) same ∙ sym (ap (limits_at tags) (eqb-true o.tag p e)
            ∙ ap (option_map (λ (t : KeptTag). t.tag)) there)
        by o false e = refl

    -- a tag goes that no map has
    pub awaiting-untagged : (p : ℕ) → ((q : ℕ) (o : KeptMap) → get maps q ≡ Some o → (o.tag == p) ≡ false) →
        AreAwaiting pages maxmem (remove tags p) maps prepared
    awaiting-untagged p none = awaiting-tags (remove tags p) (λ q o e some.
        ap (option_map (λ (t : KeptTag). t.tag))
        (get_cut tags p o.tag ∙ ap (λ b. cond b None (get tags o.tag)) (none q o e)))

-- ---- what holds of a driver still

module _ (h : Holdings) (ls : Loans) (same : ls ≡ h.loans.prepared) where
  -- if the same loans are prepared, all loads wait as they did
  pub still-awaiting : AreAwaiting h.pages.now h.maxmem h.tags.map h.maps.map ls
  still-awaiting = subst (AreAwaiting h.pages.now h.maxmem h.tags.map h.maps.map) (sym same) h.awaiting

  pub still-ready : AreOfMaps h.pages.now h.memories.map ls
  still-ready = subst (AreOfMaps h.pages.now h.memories.map) (sym same) h.ready

  -- a map of which no load waits is put
  pub put-awaiting : (k : ℕ) (v : KeptMap) → kept_load (Some v) ≡ None →
      AreAwaiting h.pages.now h.maxmem h.tags.map (insert h.maps.map k v) ls
  put-awaiting k v none =
      subst (AreAwaiting h.pages.now h.maxmem h.tags.map (insert h.maps.map k v)) (sym same)
      (awaiting-rest h.pages.now h.maxmem h.tags.map h.maps.map h.loans.prepared h.awaiting k v none)

-- nothing is prepared for a map any more, and the same for the others
pub less-other : (prepared ls : Loans) (k : ℕ) → ls ≡ remove prepared k → (q : ℕ) → (q == k) ≡ false →
    get ls q ≡ get prepared q
less-other prepared ls k e q off =
    ap (λ ps. get ps q) e ∙ get_cut prepared k q ∙ ap (λ b. cond b None (get prepared q)) off

-- a loan is prepared for a map, and the same for the others
pub more-other : (prepared ls : Loans) (k : ℕ) (x : Loan) → ls ≡ insert prepared k x → (q : ℕ) → (q == k) ≡ false →
    get ls q ≡ get prepared q
more-other prepared ls k x e q off = ap (λ ps. get ps q) e ∙ put-other prepared k q x off

-- a loan is prepared for a map of which no load waits, or memory ran out
pub prepared-awaiting : {T E : Type 0} (h : Holdings) (k : ℕ) → kept_load (get h.maps.map k) ≡ None → (r : Result T E)
    (t : Table) (x : Loan) → OnOk r (t.prepared ≡ insert h.loans.prepared k x) → OnErr r (IsSame h.loans t) →
    AreAwaiting h.pages.now h.maxmem h.tags.map h.maps.map t.prepared
prepared-awaiting h k none (Ok y) t x more same =
    awaiting-ready h.pages.now h.maxmem h.tags.map h.maps.map h.loans.prepared h.awaiting k t.prepared none
    (more-other h.loans.prepared t.prepared k x more)
prepared-awaiting h k none (Err e) t x more same = still-awaiting h t.prepared same.prepared
