-- The lanes with which the world of a valid scenario opens.
use Rattle.std.proofs.Common.{◌≡◌, ℕ, zero, suc, ◌+◌, ◌^◌, ◌<◌, ◌≤◌, List, [], ◌∷◌, ◌++◌, length, map, take, get_or}
use Rattle.std.proofs.Common.{refl}
use Rattle.std.proofs.Common.{Some, sym, ap, ◌∙◌, arith, add-one, subst, slice_get}
use Rattle.std.specs.List.{AllByRecursion, sum_by}
use Rattle.std.proofs.Math.Seq.{take-suc}
use Rattle.std.proofs.lemmas.List.Sums.{sum_by-cons}
use Rattle.busdma_base.specs.declared.scenarios.scenario.Driver.{Driver}
use Rattle.busdma_base.specs.declared.scenarios.scenario.PageRun.{PageRun}
use Rattle.busdma_base.specs.declared.scenarios.scenario.Scenario.{Scenario}
use Rattle.busdma_base.specs.Scenarios.Opening.{maxmem_of, opening}
use Rattle.busdma_machine.specs.Bounce.Account.{fresh_account}
use Rattle.busdma_machine.specs.Bounce.History.{account_of}
use Rattle.busdma_machine.specs.Each.{EachAfter}
use Rattle.busdma_base.specs.Scenarios.PageRuns.{IsPageRun}
use Rattle.busdma_base.specs.Scenarios.Limits.{loaded_limit}
use Rattle.busdma_base.specs.Scenarios.Operations.{loaded_by}
use Rattle.busdma_base.specs.Scenarios.Script.{IsScript}
use Rattle.busdma_base.specs.Scenarios.Valid.{IsDriver, IsValid, LoadsFrom, loaded_of}
use Rattle.bounce_hub.specs.Seen.{HubSeen}
use Rattle.lane_core.specs.declared.lane.Lane.{Lane}
use Rattle.lane_core.specs.LaneIdeal.{ideal}
use Rattle.lane_state.specs.OpeningMemory.{ArePages, IsOwnRun}
use Rattle.ideal_lane.specs.Opening.{opening_lane}
use Rattle.ideal_wire.specs.Machine.{IsInMachine, IsOfMachine}
use Rattle.ideal_wire.proofs.Tags.MachineOpens.{opens-in-machine}
use Rattle.ideal_world.specs.WellFormed.{IsWellFormed}
use Rattle.ideal_world.specs.World.{opening_lanes, opening_world}
use Rattle.ideal_world.proofs.Opens.{opens-well}
use Rattle.world_core.specs.Kept.{IsKept, kept_world}

-- ---- what is needed of a driver

-- a driver is judged with some drivers before it
driver-at : (s : Scenario) (before ds : List Driver) (i : ℕ) (d : Driver) → EachAfter (IsDriver s.frames) before ds →
    i < length ds → (earlier : List Driver) × IsDriver s.frames earlier (get_or ds i d)
driver-at s before [] i d h lt = absurd (omega (arith, lt))
driver-at s before (x ∷ ds) zero d h lt = (before, h.0)
driver-at s before (x ∷ ds) (suc i) d h lt = driver-at s (before ++ x ∷ []) ds i d h.1 (omega (arith, lt))

there : (ds : List Driver) (i : ℕ) (d : Driver) → i < length ds → slice_get ds i ≡ Some (get_or ds i d)
there [] i d lt = absurd (omega (arith, lt))
there (x ∷ ds) zero d lt = refl
there (x ∷ ds) (suc i) d lt = there ds i d (omega (arith, lt))

-- one driver loads no more than all
loaded-at : (ds : List Driver) (i : ℕ) (d : Driver) → i < length ds →
    sum_by loaded_by (get_or ds i d).script ≤ loaded_of ds
loaded-at [] i d lt = absurd (omega (arith, lt))
loaded-at (x ∷ ds) zero d lt = omega (arith, sum_by-cons (λ (y : Driver). sum_by loaded_by y.script) x ds)
loaded-at (x ∷ ds) (suc i) d lt =
    omega (
      arith,
      sum_by-cons (λ (y : Driver). sum_by loaded_by y.script) x ds,
      loaded-at ds i d (omega (arith, lt)),
    )

-- pages of a valid scenario, which lie in its machine, are those of a memory
are-pages : (s : Scenario) (earlier : List Driver) (maxmem : ℕ) (before pages : List PageRun) → maxmem ≤ 2 ^ 30 →
    EachAfter (IsPageRun s.frames earlier) before pages → AllByRecursion (IsOfMachine maxmem) pages →
    EachAfter IsOwnRun before pages
are-pages s earlier maxmem before [] low h m = tt
are-pages s earlier maxmem before (r ∷ pages) low h m = (
  record {
    some = h.0.some;
    aligned = h.0.aligned;
    low = h.0.low;
    numbered = omega (arith, low, m.0.below);
    own_frames = h.0.own_frames;
    own_pages = h.0.own_pages;
  },
  are-pages s earlier maxmem (before ++ r ∷ []) pages low h.1 m.1,
)

-- what is needed of a driver to make its lane
pub record MayOpen (maxmem : ℕ) (d : Driver) : Type 0 where
  pub script : IsScript d.script
  pub pages : ArePages d.pages
  pub numbered : maxmem ≤ 2 ^ 30
  pub inside : AllByRecursion (IsOfMachine maxmem) d.pages
  pub small : sum_by loaded_by d.script ≤ loaded_limit
  pub bios : AllByRecursion (LoadsFrom d.pages) d.script

may-open-at : (s : Scenario) (i : ℕ) (d : Driver) → IsValid s → i < length s.drivers →
    MayOpen (maxmem_of s.frames) (get_or s.drivers i d)
may-open-at s i d valid lt =
    let driver : Driver = get_or s.drivers i d in
    let at = driver-at s [] s.drivers i d valid.drivers lt in
    let machine : IsInMachine (opening_lane i (maxmem_of s.frames) driver) =
    opens-in-machine s i driver valid (there s.drivers i d lt) in
    record {
      script = at.1.script;
      pages = are-pages s at.0 (maxmem_of s.frames) [] driver.pages machine.numbered at.1.pages machine.pages;
      numbered = machine.numbered;
      inside = machine.pages;
      small = omega (arith, loaded-at s.drivers i d lt, valid.loaded);
      bios = at.1.bios;
    }

-- the driver that a turn of the loop reads
pub may-open : (s : Scenario) (ds : List Driver) (i : ℕ) (d : Driver) (maxmem : ℕ) → IsValid s →
    maxmem ≡ maxmem_of s.frames → ds ≡ s.drivers → i < length ds → d ≡ get_or ds i d → MayOpen maxmem d
may-open s ds i d maxmem valid end same lt is =
    let within : i < length s.drivers = omega (arith, lt, ap length same) in
    subst (λ n. MayOpen n d) (sym end)
    (subst (MayOpen (maxmem_of s.frames)) (sym (is ∙ ap (λ l. get_or l i d) same)) (may-open-at s i d valid within))

-- ---- the lanes so far

opening-snoc : (k maxmem : ℕ) (ds : List Driver) (d : Driver) →
    opening_lanes k maxmem (ds ++ d ∷ []) ≡ opening_lanes k maxmem ds ++ opening_lane (k + length ds) maxmem d ∷ []
opening-snoc k maxmem [] d = let e : k ≡ k + 0 = omega arith in ap (λ i. opening_lane i maxmem d ∷ []) e
opening-snoc k maxmem (x ∷ ds) d =
    let e : (k + 1) + length ds ≡ k + suc (length ds) = omega arith in
    ap (λ t. opening_lane k maxmem x ∷ t) (opening-snoc (k + 1) maxmem ds d
    ∙ ap (λ i. opening_lanes (k + 1) maxmem ds ++ opening_lane i maxmem d ∷ []) e)

map-snoc : (ls : List Lane) (l : Lane) → map ideal (ls ++ l ∷ []) ≡ map ideal ls ++ ideal l ∷ []
map-snoc [] l = refl
map-snoc (x ∷ ls) l = ap (λ t. ideal x ∷ t) (map-snoc ls l)

length-take : (ds : List Driver) (i : ℕ) → i < length ds → length (take i ds) ≡ i
length-take [] i lt = absurd (omega (arith, lt))
length-take (x ∷ ds) zero lt = refl
length-take (x ∷ ds) (suc i) lt = ap suc (length-take ds i (omega (arith, lt)))

zero_plus : (i : ℕ) → 0 + i ≡ i
zero_plus i = omega arith

-- one more driver
pub next_lane : (maxmem : ℕ) (ds : List Driver) (ls more : List Lane) (l : Lane) (i : ℕ) (d : Driver) → i < length ds →
    map ideal ls ≡ opening_lanes 0 maxmem (take i ds) → ideal l ≡ opening_lane i maxmem (get_or ds i d) →
    more ≡ ls ++ l ∷ [] → map ideal more ≡ opening_lanes 0 maxmem (take (i + 1) ds)
next_lane maxmem ds ls more l i d lt before opened pushed =
    ap (map ideal) pushed
    ∙ (map-snoc ls l
    ∙ (ap (λ t. t ++ ideal l ∷ []) before
    ∙ (ap (λ x. opening_lanes 0 maxmem (take i ds) ++ x ∷ []) (opened
    ∙ ap (λ k. opening_lane k maxmem (get_or ds i d)) (sym (ap (λ n. 0 + n) (length-take ds i lt) ∙ zero_plus i)))
    ∙ (sym (opening-snoc 0 maxmem (take i ds) (get_or ds i d))
    ∙ ap (opening_lanes 0 maxmem) (sym (ap (λ j. take j ds) (add-one i) ∙ take-suc ds i d lt))))))

-- ---- the world

-- a hub of the free frames, with the lanes of the drivers, is the opening world
pub record OpensWith (s : Scenario) (lanes : List Lane) (hub : HubSeen) : Type 0 where
  pub world : kept_world lanes hub ≡ opening_world s
  pub opening : hub.opening ≡ opening s

pub opens-with : (s : Scenario) (lanes : List Lane) (hub : HubSeen) → map ideal lanes ≡ (opening_world s).lanes →
    hub ≡ record { opening = opening s; history = [] } → OpensWith s lanes hub
opens-with s lanes hub opened made = record {
  world = λ i. record { lanes = opened i; account = ap (λ (h : HubSeen). account_of h.opening h.history) made i };
  opening = ap (λ (h : HubSeen). h.opening) made;
}

-- the lanes and the hub that are made of a scenario, by its end of memory and its free frames
pub opened-lanes : (s : Scenario) (lanes : List Lane) (maxmem : ℕ) → maxmem ≡ maxmem_of s.frames →
    map ideal lanes ≡ opening_lanes 0 maxmem s.drivers → map ideal lanes ≡ (opening_world s).lanes
opened-lanes s lanes maxmem end opened = opened ∙ ap (λ n. opening_lanes 0 n s.drivers) end

pub opened-hub : (s : Scenario) (hub : HubSeen) (frames : List ℕ) (maxmem : ℕ) →
    maxmem ≡ maxmem_of s.frames → frames ≡ (opening s).bank →
    hub ≡ record { opening = fresh_account frames maxmem s.max_bpages; history = [] } →
    hub ≡ record { opening = opening s; history = [] }
opened-hub s hub frames maxmem end free made =
    made ∙ (λ i. record { opening = fresh_account (free i) (end i) s.max_bpages; history = [] })

-- what a world keeps holds of these lanes and this hub
pub opens-kept : (s : Scenario) (lanes : List Lane) (hub : HubSeen) → IsValid s → OpensWith s lanes hub →
    ∥ IsKept s lanes hub ∥₁
opens-kept s lanes hub valid opens =
    ∣ record { well = subst (IsWellFormed s) (sym opens.world) (opens-well s valid); opening = opens.opening } ∣₁
